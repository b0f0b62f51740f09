-- Sessions that an opened library deals, and what is left of scripts that were run to their end on them.
use Rattle.std.proofs.Common.{◌≡◌, ◌≢◌, ◌∙◌, ◌≤◌, ◌-◌, ℕ, zero, suc, eqb, List, [], ◌∷◌, length, refl, sym, ap, subst, arith}
use Rattle.std.specs.List.{IsDistinct}
use Rattle.std.proofs.lemmas.List.{length-map}
use Rattle.mmsyntax.specs.Tables.{Contents}
use Rattle.library.specs.declared.command.Command.{Command}
use Rattle.library.specs.declared.history.Entry.{Entry}
use Rattle.library.specs.declared.library.Ranked.{Ranked}
use Rattle.library.specs.Library.{Setting, Listed, opening, setting_over}
use Rattle.tlwords.specs.Runs.{down}
use Rattle.tlwords.proofs.Once.{down_distinct}
use Rattle.lawful.specs.Lawful.{first_library, setting_given}
use Rattle.transaction.specs.declared.outcome.Outcome.{Outcome}
use Rattle.transaction.specs.Members.{Home, Member}
use Rattle.transaction.specs.Openings.{IsOpened}
use Rattle.editing.specs.Edits.{IsEdited, IsEditedFrom, IsEditLack}
use Rattle.editing.specs.declared.error.EditError.{EditError}
use Rattle.editing.specs.declared.error.EditError.TheVariants as edit
use Rattle.checking.specs.Outcomes.{program_setting}
use Rattle.jobs.specs.Jobs.{IsWorked}
use Rattle.jobs.specs.Parts.{shape_with, IsWorkFault, from_edit}

-- ---- lists

-- numbers downwards are as many as asked
length-down : (n k : ℕ) → length (down n k) ≡ k
length-down n zero = refl
length-down n (suc k) = ap (λ m. suc m) (length-down (n - 1) k)

-- where there is one, there are not none
nothing_there : {A : Type 0} (xs : List A) → 1 ≤ length xs → xs ≢ []
nothing_there [] some = absurd (omega arith)
nothing_there (x ∷ xs) some = λ e. absurd cc

-- ---- the sessions of an opened library

module _ (db : Contents) (workers room : ℕ) (home : Home) (members : List Member)
    (o : IsOpened db (shape_with workers room) home members) where
  -- as many as workers
  many_sessions : length members ≡ workers
  many_sessions = sym (length-map members (λ m. m.known.name)) ∙ ap length o.names ∙ length-down workers workers

  -- all that there are
  pub all_sessions : length members ≡ home.sessions
  all_sessions = many_sessions ∙ sym o.sessions

  -- at least one, where there is a worker
  pub some_session : 1 ≤ workers → members ≢ []
  some_session some = nothing_there members (let same = many_sessions in omega arith)

  -- its setting and its library are those of the database
  same_setting : setting_given home.given ≡ program_setting db
  same_setting = ap (λ d. setting_over d home.given.slots) o.database ∙ ap (λ n. setting_over db n) o.slots

  same_library : first_library home.given ≡ opening db
  same_library = ap opening o.database

  -- so what is so over the ones is so over the others
  over : (P : Setting → List Ranked → Type 0) → P (setting_given home.given) (first_library home.given)
      → P (program_setting db) (opening db)
  over P h = subst (λ s. P s (opening db)) same_setting (subst (P (setting_given home.given)) same_library h)

  -- ---- its end

  -- why scripts that were run on all its sessions came to none
  pub unworked : (e : EditError) → IsEditLack members e → IsWorkFault db workers room (from_edit e)
  unworked edit.NoThread h = let same = many_sessions in omega (arith, h, same)
  unworked (edit.Missing n) h = absurd (h.1 (subst (IsDistinct eqb) (sym o.names) (down_distinct workers workers (omega arith))))
  unworked (edit.Held c) h = absurd h
  unworked edit.NoMemory h = tt

  -- and what is left of scripts that were run on it is of a run over the database
  pub worked : (scripts : List (List (List Command))) (rows : List (List Outcome)) (history : List Entry) (library : Listed)
      → IsEdited home scripts rows history library → IsWorked db workers room scripts rows history library
  worked scripts rows history library e = record {
    fits = o.fit;
    home = home;
    of_database = o.database;
    of_room = o.room;
    of_workers = o.sessions;
    edited = over (λ s lib. IsEditedFrom s lib home scripts rows history library) e;
  }
