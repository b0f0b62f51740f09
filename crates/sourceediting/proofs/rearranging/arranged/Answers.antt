-- What is left to show of `arranged`.
use Rattle.std.proofs.Common.{◌≡◌, ◌∙◌, ℕ, List, [], length, map, ap, sym, subst}
use Rattle.std.specs.Prelude.{IfErr, Vec}
use Rattle.std.specs.declared.alloc.Global.{Global}
use Rattle.std.proofs.lemmas.Result.{IfOk-weaker}
use Rattle.library.specs.declared.library.Ranked.{Ranked}
use Rattle.sourceediting.specs.Filled.{ArePuts}
use Rattle.sourceediting.specs.Refusals.{HasCause, AreListedAnew}
use Rattle.sourceediting.specs.Views.{seen_living}
use Rattle.sourceediting.proofs.Bared.{bare_in}
use Rattle.mmtext.specs.Words.{Word}
use Rattle.source.specs.Views.{seen_words}
use Rattle.giving.specs.Staying.{Change}
use Rattle.arranging.specs.Parts.{Edited, known_labels}
use Rattle.arranging.specs.Arranged.{IsArranged}
use Rattle.arranging.specs.Outcomes.{IsOutcome}
use Rattle.sourceediting.specs.Marked.{marked}
use Rattle.sourceediting.proofs.Marks.{firsts_marked}
use Rattle.sourceediting.proofs.rearranging.arranged.Goals as goal

-- the labels that are looked up
looked_up : (cs : List Change) (ws : List Word) → cs ≡ marked ws → known_labels cs ≡ ws
looked_up cs ws e = ap known_labels e ∙ firsts_marked ws

pub returns-in-Text-clause-arranged : goal.returns-in-Text-clause-arranged
returns-in-Text-clause-arranged c =
    let gone = c.in_ok-gone.gone in
    let moved = c.in_ok-moved-2.moved in
    let library = c.in_ok-library-2.library in
    let edited : Edited = record {
      gone = known_labels gone;
      moving = known_labels c.args.moving.now;
      moved = known_labels moved;
      library = known_labels library;
      comings = c.as_slice-3.result.now;
    } in record {
      edited = edited;
      deleted = looked_up gone (seen_words c.args.edits.now.planned.gone.now) c.in_ok-gone.ensures;
      moved =
          looked_up moved (seen_words c.as_slice.result.now) c.in_ok-moved-2.ensures
          ∙ (ap seen_words c.as_slice.ensures.value ∙ c.in_ok-moved.ensures);
      library =
          looked_up library (seen_words c.as_slice-2.result.now) c.in_ok-library-2.ensures
          ∙ (ap seen_words c.as_slice-2.ensures.value ∙ c.in_ok-library.ensures);
      arranged =
          subst (IsOutcome c.args.edits.now.changes.now c.args.edits.now.proofs.now edited c.args.source.now) c.in-Text.is
          c.in_ok-out.ensures;
    }

pub otherwise-requires-clause-numbered : goal.otherwise-requires-clause-numbered
otherwise-requires-clause-numbered c =
    subst (λ (rs : List Ranked). ArePuts (length rs) c.args.puts.now) (sym c.entries-entries.ensures.value) c.requires.numbered

pub otherwise-requires-clause-listed : goal.otherwise-requires-clause-listed
otherwise-requires-clause-listed c =
    let edits = c.args.edits.now in
    let living = seen_living edits.planned.living.now in
    subst (λ (rs : List Ranked). AreListedAnew living (map (λ (r : Ranked). r.assertion) rs) edits.proofs.now)
    (sym c.entries-entries.ensures.value) c.requires.listed

pub returns-in-Misplaced-clause-arranged : goal.returns-in-Misplaced-clause-arranged
returns-in-Misplaced-clause-arranged c =
    let edits = c.args.edits.now in
    let gone = c.in_ok-gone.gone in
    let moved = c.in_ok-moved-2.moved in
    let library = c.in_ok-library-2.library in
    let edited : Edited = record {
      gone = known_labels gone;
      moving = known_labels c.args.moving.now;
      moved = known_labels moved;
      library = known_labels library;
      comings = [];
    } in
    IfOk-weaker c.otherwise.result
    (λ (out : Vec ℕ Global). IsArranged edits.changes.now edits.proofs.now edited c.args.source.now out.items)
    _
    (λ out is. record {
      edited = edited;
      deleted = looked_up gone (seen_words edits.planned.gone.now) c.in_ok-gone.ensures;
      moved =
          looked_up moved (seen_words c.as_slice.result.now) c.in_ok-moved-2.ensures
          ∙ (ap seen_words c.as_slice.ensures.value ∙ c.in_ok-moved.ensures);
      library =
          looked_up library (seen_words c.as_slice-2.result.now) c.in_ok-library-2.ensures
          ∙ (ap seen_words c.as_slice-2.ensures.value ∙ c.in_ok-library.ensures);
      arranged = is;
    }) c.otherwise.ensures.arranged

pub returns-in-Misplaced-clause-refused : goal.returns-in-Misplaced-clause-refused
returns-in-Misplaced-clause-refused c =
    let living = seen_living c.args.edits.now.planned.living.now in
    let source = c.args.source.now in
    subst (λ (rs : List Ranked). IfErr c.otherwise.result (HasCause living (map (λ (r : Ranked). r.assertion) rs) source))
    c.entries-entries.ensures.value c.otherwise.ensures.refused

pub returns-clause-refused : goal.returns-clause-refused
returns-clause-refused c =
    let edits = c.args.edits.now in
    let source = c.args.source.now in
    let edited : Edited = record {
      gone = known_labels c.in_ok-gone.gone;
      moving = known_labels c.args.moving.now;
      moved = known_labels c.in_ok-moved-2.moved;
      library = known_labels c.in_ok-library-2.library;
      comings = c.as_slice-3.result.now;
    } in
    bare_in (seen_living edits.planned.living.now) (map (λ (r : Ranked). r.assertion) edits.planned.edited.now.entries) source
    edits.proofs.now (subst (IsOutcome edits.changes.now edits.proofs.now edited source) c.in-Bare.is c.in_ok-out.ensures) c.requires.listed
