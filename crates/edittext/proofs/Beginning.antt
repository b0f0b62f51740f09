-- What is begun with, the run over it, and its end.
use Rattle.std.proofs.Common.{◌≡◌, ◌∙◌, ℕ, Bool, List, map, ap, subst, sym, Vec, Global}
use Rattle.std.specs.Prelude.{String, string_bytes}
use Rattle.mmsyntax.specs.Tables.{Contents}
use Rattle.source.specs.Scopes.{Scope}
use Rattle.source.specs.Sources.{DeclaresText}
use Rattle.intake.specs.declared.taken.Taken.{Taken}
use Rattle.library.specs.Library.{Listed}
use Rattle.transaction.specs.Closings.{lists_of}
use Rattle.checking.specs.Checks.{Bytes, Orders}
use Rattle.jobs.specs.Jobs.{Room, IsWorked, room_of}
use Rattle.editing.specs.declared.editing.Edited.{Edited}
use Rattle.standins.specs.StandIns.{StandIn}
use Rattle.standins.specs.Ending.{IsSettled, IsWithdrawn}
use Rattle.standins.specs.Views.{opened_database, seen_stand_ins}
use Rattle.editopening.specs.declared.beginning.Begun.{Begun as CodeBegun}
use Rattle.editopening.specs.Opening.{Begun, opened_of, scripts_of}
use Rattle.editopening.specs.Views.{IsBegun}
use Rattle.edittext.specs.Edited.{Run, Closed}
use Rattle.editscripts.specs.Undone.{all_undone}
use Rattle.edittext.specs.Accounts.{IsAccount}
use Rattle.editscripts.specs.Replies.{replies_in, told_if}
use Rattle.edittext.specs.Finished.{IsFirstAccount}
use Rattle.edittext.specs.declared.account.Account.{Account}

-- the same scripts were run over the same library
pub worked_as : (db other : Contents) (workers : ℕ) (room : Room) (ss scripts : List Orders) → db ≡ other → ss ≡ scripts → (e : Edited)
    → IsWorked db workers (room_of room db ss) ss (lists_of e.outcomes.items) e.history e.library
    → IsWorked other workers (room_of room other scripts) scripts (lists_of e.outcomes.items) e.history e.library
worked_as db other workers room ss scripts is same e w =
    subst (λ (k : List Orders). IsWorked other workers (room_of room other k) k (lists_of e.outcomes.items) e.history e.library) same
    (subst (λ (d : Contents). IsWorked d workers (room_of room d ss) ss (lists_of e.outcomes.items) e.history e.library) is w)

module _ (source : Bytes) (texts : List Bytes) (s : Scope) (force : Bool) (b : CodeBegun) (d : DeclaresText source s)
    (is : IsBegun source s texts force b) where
  abbrev pub begun_of : Begun source texts
  begun_of = record {
    old = s;
    declares = d;
    with_ranks = record {
      over = record { spread = is.spread; of_source = is.of_source; taken = b.taken; for_scripts = is.for_scripts };
      pasted = is.pasted;
      are_pasted = is.are_pasted;
      ranked = is.ranked;
      gaps = is.gaps;
      are_ranked = is.are_ranked;
    };
    read = is.read;
    ordered = is.ordered;
  }

  -- the library and the scripts of the code are these
  module _ (db : Contents) (ss : List Orders) (over : db ≡ opened_database b.taken.database b.opened)
      (same : ss ≡ b.opened.scripts.items) where
    pub database_is : db ≡ opened_of begun_of
    database_is = over ∙ is.opened.database

    pub scripts_are : ss ≡ scripts_of begun_of
    scripts_are = same ∙ is.opened.scripts

    abbrev pub run_of : (workers : ℕ) (room : Room) (e : Edited)
        → IsWorked db workers (room_of room db ss) ss (lists_of e.outcomes.items) e.history e.library
        → Run source texts workers room (lists_of e.outcomes.items)
    run_of workers room e worked = record {
      begun = begun_of;
      entries = e.history;
      edited = e.library;
      worked = worked_as db (opened_of begun_of) workers room ss (scripts_of begun_of) database_is scripts_are e worked;
    }

    -- it ends so
    abbrev pub closed_of : (workers : ℕ) (room : Room) (e : Edited)
        (w : IsWorked db workers (room_of room db ss) ss (lists_of e.outcomes.items) e.history e.library) (library : Listed) (t : Taken)
        → IsWithdrawn (seen_stand_ins b.opened.stand_ins.items) e.library library
        → IsSettled (seen_stand_ins b.opened.stand_ins.items) e.library.entries b.taken t → Closed (run_of workers room e w)
    closed_of workers room e w library t withdrawn settled = record {
      library = library;
      withdrawn = subst (λ (ss : List StandIn). IsWithdrawn ss e.library library) is.opened.stand_ins withdrawn;
      taken = t;
      settled = subst (λ (ss : List StandIn). IsSettled ss e.library.entries b.taken t) is.opened.stand_ins settled;
    }

    -- what is told of it
    pub accounted : (paths : List Bytes) (workers : ℕ) (room : Room) (e : Edited)
        (w : IsWorked db workers (room_of room db ss) ss (lists_of e.outcomes.items) e.history e.library)
        (asked : Bool) (a : Account) → IsFirstAccount paths texts b (lists_of e.outcomes.items) asked a
        → (spoken mentions : Vec (String Global) Global) (told named : List Bytes) → map string_bytes spoken.items ≡ told
        → map string_bytes mentions.items ≡ named
        → IsAccount paths (run_of workers room e w) asked told named (record a { spoken = spoken; mentions = mentions })
    accounted paths workers room e w asked a first spoken mentions told named said mentioned =
        let rows = lists_of e.outcomes.items in
        let begins = sym is.beginnings in
        let run = is.opened.scripts in
        record {
          counts = first.counts;
          undone =
              first.undone ∙ ap (λ bs. all_undone paths texts bs b.opened.scripts.items rows) begins
              ∙ ap (λ ss. all_undone paths texts (map (λ out. out.beginnings) is.ranked) ss rows) run;
          spoken = said;
          mentioned = mentioned;
          replies =
              first.replies
              ∙ ap (λ bs. told_if asked (replies_in b.taken.database.prelude paths texts bs b.opened.scripts.items rows)) begins
              ∙ ap (λ ss. told_if asked (replies_in b.taken.database.prelude paths texts (map (λ out. out.beginnings) is.ranked) ss rows))
              run;
        }
