use Rattle.std.proofs.Common.{◌≡◌, ◌*◌, ◌∙◌, ap, sym, subst, List, ℕ, length, map}
use Rattle.library.specs.Library.{Setting, Verifies}
use Rattle.tlwords.specs.declared.closing.ClosedCell.{ClosedCell}
use Rattle.tlwords.specs.declared.closing.ClosedWords.{ClosedWords}
use Rattle.plaincells.specs.PlainViews.{ShowNamed, AreOfWords}
use Rattle.finishing.specs.Shown.{values_of}
use Rattle.finishing.proofs.Looked.{prelude_is, looked_verifies, looked_in_order}
use Rattle.finishing.proofs.ending.shown.Goals as goal

values_are : (words : ClosedWords) (cells : List ClosedCell) (values : List ℕ) → cells ≡ words.cells.items
    → values ≡ map (λ x. x.value) cells
    → values ≡ values_of words
values_are words cells values is made = made ∙ ap (λ (xs : List ClosedCell). map (λ x. x.value) xs) is

pub of_words-requires-clause-long : goal.of_words-requires-clause-long
of_words-requires-clause-long c =
    let same = values_are c.args.words c.as_slice.result.now c.in_ok-values.values.items c.as_slice.ensures.value c.in_ok-values.ensures in
    subst (λ (vs : List ℕ). length vs ≡ 7 * c.args.slots) (sym same) c.requires.count

pub of_words-requires-clause-shows : goal.of_words-requires-clause-shows
of_words-requires-clause-shows c =
    let s : Setting = record { prelude = c.args.prelude; slots = c.args.slots } in
    let same = values_are c.args.words c.as_slice.result.now c.in_ok-values.values.items c.as_slice.ensures.value c.in_ok-values.ensures in
    subst (λ vs. ShowNamed s vs c.args.words.store.items) (sym same) c.requires.shows

pub sorted-requires : goal.sorted-requires
sorted-requires c =
    let s : Setting = record { prelude = c.args.prelude; slots = c.args.slots } in
    let store = c.args.words.store.items in
    let old = c.in_ok-cells.cells in
    let new = c.entries.new.cells in
    let shows = c.requires.shows in
    let same = values_are c.args.words c.as_slice.result.now c.in_ok-values.values.items c.as_slice.ensures.value c.in_ok-values.ensures in
    let are = subst (λ vs. AreOfWords s.prelude s.slots vs store old) same c.in_ok-cells.ensures in
    subst (λ p. Verifies (record { prelude = p; slots = s.slots }) c.in-Ok.found.items)
    (sym (c.into_prelude.ensures ∙ prelude_is s (values_of c.args.words) store old new are c.in-Ok.ensures.looks))
    (looked_verifies s (values_of c.args.words) store old new are c.in-Ok.ensures.looks shows.0 shows.1 shows.2 c.in-Ok.found.items
    c.in-Ok.ensures.ok)

pub returns : goal.returns
returns c =
    let s : Setting = record { prelude = c.args.prelude; slots = c.args.slots } in
    let values = values_of c.args.words in
    let store = c.args.words.store.items in
    let old = c.in_ok-cells.cells in
    let new = c.entries.new.cells in
    let same = values_are c.args.words c.as_slice.result.now c.in_ok-values.values.items c.as_slice.ensures.value c.in_ok-values.ensures in
    let are = subst (λ vs. AreOfWords s.prelude s.slots vs store old) same c.in_ok-cells.ensures in
    let prelude = c.into_prelude.ensures ∙ prelude_is s values store old new are c.in-Ok.ensures.looks in
    record {
      setting_is = c.sorted.ensures.setting ∙ (λ i. record { prelude = prelude i; slots = s.slots });
      shown = λ lib shown verifies. looked_in_order s values store old new are c.in-Ok.ensures.looks lib shown verifies c.in-Ok.found.items
          c.sorted.result.entries c.in-Ok.ensures.ok c.sorted.ensures.shown;
    }
