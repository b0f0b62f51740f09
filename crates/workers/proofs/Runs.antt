-- What a session's transactions make of it: it is later, its outcomes agree with its history, and its new numbers are theirs.
use Rattle.std.proofs.Common.{◌≡◌, ℕ, ◌≤◌, inl, inr, List, [], ◌∷◌, ◌++◌, length, Some, refl, sym, ap, subst, ◌∙◌, arith}
use Rattle.std.specs.Prelude.{All, flat_map, map, slice_get}
use Rattle.std.proofs.lemmas.List.Elements.{All-nil, All-cons}
use Rattle.std.proofs.lemmas.Option.{get_or_from_slice_get}
use Rattle.library.specs.declared.command.Command.{Command}
use Rattle.library.specs.Histories.{Entry}
use Rattle.ranges.specs.Ranges.{Has}
use Rattle.lawful.specs.declared.notes.Given.{Given}
use Rattle.lawful.specs.Lawful.{setting_given, first_library}
use Rattle.lawful.specs.History.{AllAgree}
use Rattle.transaction.specs.declared.outcome.Outcome.{Outcome}
use Rattle.transaction.specs.Members.{Member, IsSoundMember}
use Rattle.workers.specs.declared.shift.Row.{Row}
use Rattle.transaction.specs.Closings.{HasOutcomes}
use Rattle.workers.specs.Works.{ScriptAgrees, SubmitsAll, ToldBy, MakesRuns, IsRunBy, IsHandedBack, all_of, newly_done, numbers_of}
use Rattle.workers.specs.Works.{place_behind}
use Rattle.workers.specs.Shifts.{RunsAll}
use Rattle.workers.proofs.Submitting.{Goes, goes_nowhere, goes_on, submitted_goes, submitted_agrees, submitted_fits, submitted_told}
use Rattle.workers.proofs.Submitting.{submitted_runs, submitted_stands, submitted_within, runs_none, runs_both}
use Rattle.workers.proofs.Numbers.{Draws, drawn_newly, draws_none, draws_more, submitted_draws, numbers_first}

-- ---- one script

-- it has its outcomes
has_outcomes : (script : List (List Command)) (old new : Member) (os : List Outcome) → SubmitsAll script old new os → HasOutcomes script os
has_outcomes [] old new [] same = refl
has_outcomes [] old new (o ∷ os) none = absurd none
has_outcomes (cs ∷ rest) old new [] none = absurd none
has_outcomes (cs ∷ rest) old new (o ∷ os) (mid, first, others) = let h = has_outcomes rest mid new os others in omega arith

module _ (new : Member) (stands : IsSoundMember new) where
  script_goes : (script : List (List Command)) (old : Member) (os : List Outcome) → SubmitsAll script old new os → Goes old new
  script_goes [] old [] same = subst (λ (m : Member). Goes m new) same (goes_nowhere new stands)
  script_goes [] old (o ∷ os) none = absurd none
  script_goes (cs ∷ rest) old [] none = absurd none
  script_goes (cs ∷ rest) old (o ∷ os) (mid, first, others) =
      goes_on old mid new (submitted_goes cs old mid o first) (script_goes rest mid os others)

  -- as each history has it with which the calls agree
  script_agrees : (g : Given) (h : List Entry) → AllAgree g h new.known.mine → (place : ℕ) (script : List (List Command)) (old : Member)
      (os : List Outcome) → SubmitsAll script old new os → place ≤ length old.known.seen.history
      → ScriptAgrees (setting_given g) (first_library g) h place script os
  script_agrees g h agree place [] old [] same seen = tt
  script_agrees g h agree place [] old (o ∷ os) none seen = absurd none
  script_agrees g h agree place (cs ∷ rest) old [] none seen = absurd none
  script_agrees g h agree place (cs ∷ rest) old (o ∷ os) (mid, first, others) seen = (
    submitted_agrees cs old mid o first new (script_goes rest mid os others) g h agree,
    submitted_fits cs old mid o first,
    first.ends.counted,
    submitted_stands cs old mid o first place seen,
    script_agrees g h agree (place_behind place o) rest mid os others (submitted_within cs old mid o first place seen),
  )

  -- what was given up stays told
  script_told : (script : List (List Command)) (old : Member) (os : List Outcome) → SubmitsAll script old new os → All (ToldBy new) os
  script_told [] old [] same = All-nil (ToldBy new)
  script_told [] old (o ∷ os) none = absurd none
  script_told (cs ∷ rest) old [] none = absurd none
  script_told (cs ∷ rest) old (o ∷ os) (mid, first, others) =
      All-cons (ToldBy new) o os (submitted_told cs old mid o first new (script_goes rest mid os others)) (script_told rest mid os others)

  -- its numbers
  script_draws : (script : List (List Command)) (old : Member) (os : List Outcome) → SubmitsAll script old new os
      → Draws new old new (numbers_of os)
  script_draws [] old [] same = draws_none new old new same
  script_draws [] old (o ∷ os) none = absurd none
  script_draws (cs ∷ rest) old [] none = absurd none
  script_draws (cs ∷ rest) old (o ∷ os) (mid, first, others) =
      subst (Draws new old new) (sym (numbers_first o os))
      (draws_more new old mid new (numbers_of (o ∷ [])) (numbers_of os)
      (submitted_draws new cs old mid o first (script_goes rest mid os others) stands) (script_draws rest mid os others))

-- it made its runs
script_runs : (script : List (List Command)) (old new : Member) (os : List Outcome) → SubmitsAll script old new os
    → MakesRuns old new os
script_runs [] old new [] same = runs_none old new same
script_runs [] old new (o ∷ os) none = absurd none
script_runs (cs ∷ rest) old new [] none = absurd none
script_runs (cs ∷ rest) old new (o ∷ os) (mid, first, others) =
    runs_both old mid new (o ∷ []) os (submitted_runs cs old mid o first) (script_runs rest mid new os others)

-- ---- scripts, one after another

-- one behind another is one
submits_both : (script more : List (List Command)) (old mid new : Member) (os ps : List Outcome) → SubmitsAll script old mid os
    → SubmitsAll more mid new ps → SubmitsAll (script ++ more) old new (os ++ ps)
submits_both [] more old mid new [] ps same next = subst (λ (m : Member). SubmitsAll more m new ps) same next
submits_both [] more old mid new (o ∷ os) ps none next = absurd none
submits_both (cs ∷ rest) more old mid new [] ps none next = absurd none
submits_both (cs ∷ rest) more old mid new (o ∷ os) ps (step, first, others) next =
    (step, first, submits_both rest more step mid new os ps others next)

abbrev pub told_in : List Row → List Outcome
told_in rows = flat_map (λ row. row.outcomes.items) rows

-- so all of them are one script
one_script : (scripts : List (List (List Command))) (old new : Member) (rows : List Row) → RunsAll scripts old new rows
    → SubmitsAll (all_of scripts (map (λ row. row.script) rows)) old new (told_in rows)
one_script scripts old new [] same = same
one_script scripts old new (row ∷ rows) (mid, script, is, first, others) =
    let more = all_of scripts (map (λ r. r.script) rows) in
    subst (λ (own : List (List Command)). SubmitsAll (own ++ more) old new (row.outcomes.items ++ told_in rows))
    (sym (get_or_from_slice_get scripts row.script script [] is))
    (submits_both script more old mid new row.outcomes.items (told_in rows) first (one_script scripts mid new rows others))

-- each row is of a script, and has its outcomes
pub row_outcomes : (scripts : List (List (List Command))) (old new : Member) (rows : List Row) → RunsAll scripts old new rows
    → (row : Row) → Has row rows
    → (script : List (List Command)) × (slice_get scripts row.script ≡ Some script) × HasOutcomes script row.outcomes.items
row_outcomes scripts old new [] same row has = absurd has
row_outcomes scripts old new (r ∷ rows) (mid, script, is, first, others) row (inl same) = (
  script,
  ap (λ (z : Row). slice_get scripts z.script) same ∙ is,
  subst (λ (z : Row). HasOutcomes script z.outcomes.items) (sym same) (has_outcomes script old mid r.outcomes.items first),
)
row_outcomes scripts old new (r ∷ rows) (mid, script, is, first, others) row (inr has) = row_outcomes scripts mid new rows others row has

module _ (scripts : List (List (List Command))) (old new : Member) (rows : List Row) (runs : RunsAll scripts old new rows) where
  all_submitted : SubmitsAll (all_of scripts (map (λ row. row.script) rows)) old new (told_in rows)
  all_submitted = one_script scripts old new rows runs

  pub runs_later : IsSoundMember new → IsHandedBack old new
  runs_later stands =
      let goes = script_goes new stands _ old (told_in rows) all_submitted in (goes.later, goes.numbers, goes.drawn)

  pub runs_share : IsSoundMember new → (g : Given) → new.given ≡ g
      → IsRunBy g old new (all_of scripts (map (λ row. row.script) rows)) (told_in rows)
  runs_share stands g same = record {
    given = same;
    submitted = all_submitted;
    agrees = λ h agree.
        script_agrees new stands g h agree (length old.known.seen.history) _ old (told_in rows) all_submitted (omega arith);
    told = script_told new stands _ old (told_in rows) all_submitted;
    ran = script_runs _ old new (told_in rows) all_submitted;
  }

  pub runs_numbers : IsSoundMember new → newly_done old new ≡ numbers_of (told_in rows)
  runs_numbers stands = drawn_newly old new (numbers_of (told_in rows)) (script_draws new stands _ old (told_in rows) all_submitted)
