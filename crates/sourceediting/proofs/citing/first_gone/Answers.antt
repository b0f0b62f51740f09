-- What is left to show of `first_gone`.
use Rattle.std.proofs.Common.{◌≡◌, ◌∙◌, ◌<◌, ◌+◌, List, [], ℕ, Bool, true, false, get_or, length, sym, ap}
use Rattle.std.specs.Prelude.{◌||◌}
use Rattle.std.specs.List.{list_any}
use Rattle.std.specs.Borrow.{Bor}
use Rattle.std.proofs.lemmas.List.{get_or-map, length-map, take-map}
use Rattle.std.proofs.lemmas.List.Folds.{list_any_at, list_any_more}
use Rattle.std.specs.Str.{bytes_eq}
use Rattle.mmtext.specs.Words.{Word}
use Rattle.mmsyntax.proofs.Names.{bytes_eq-same}
use Rattle.source.specs.Scopes.{is_in}
use Rattle.source.specs.Views.{seen_words}
use Rattle.giving.proofs.Finding.{text_found}
use Rattle.sourceediting.proofs.Marks.{firsts}
use Rattle.sourceediting.proofs.citing.first_gone.Goals as goal

abbrev now : Bor (List ℕ) → Word
now w = w.now

pub returns-then-is_some-clause-some : goal.returns-then-is_some-clause-some
returns-then-is_some-clause-some c =
    let gone = firsts c.args.gone.now in
    let labels = c.args.labels.now in
    let k = c.loop-label.label-index in
    let d : Bor (List ℕ) = record { ref_ptr = (0, 0); now = [] } in
    let within : k < length (seen_words labels) = rw length-map c.loop-label-test.true in
    let found : is_in gone (get_or labels k d).now ≡ true =
    sym (text_found c.args.gone.now (get_or labels k d).now c.text_for.result c.text_for.ensures) ∙ sym c.is_some.ensures
    ∙ c.if-is_some.true in
    sym (list_any_at (is_in gone) (seen_words labels) k [] within (ap (is_in gone) (get_or-map now labels k d [] c.loop-label-test.true)
    ∙ found))

pub returns-then-is_some-clause-gone : goal.returns-then-is_some-clause-gone
returns-then-is_some-clause-gone c =
    let d : Bor (List ℕ) = record { ref_ptr = (0, 0); now = [] } in
    sym (text_found c.args.gone.now (get_or c.args.labels.now c.loop-label.label-index d).now c.text_for.result c.text_for.ensures)
    ∙ sym c.is_some.ensures
    ∙ c.if-is_some.true

pub returns-then-is_some-clause-among : goal.returns-then-is_some-clause-among
returns-then-is_some-clause-among c =
    let labels = c.args.labels.now in
    let k = c.loop-label.label-index in
    let d : Bor (List ℕ) = record { ref_ptr = (0, 0); now = [] } in
    let w = (get_or labels k d).now in
    let within : k < length (seen_words labels) = rw length-map c.loop-label-test.true in
    list_any_at (bytes_eq w) (seen_words labels) k [] within
    (ap (bytes_eq w) (get_or-map now labels k d [] c.loop-label-test.true) ∙ bytes_eq-same w)

pub loop-label-preserved : goal.loop-label-preserved
loop-label-preserved c =
    let gone = firsts c.args.gone.now in
    let labels = c.args.labels.now in
    let k = c.loop-label.label-index in
    let d : Bor (List ℕ) = record { ref_ptr = (0, 0); now = [] } in
    let within : k < length (seen_words labels) = rw length-map c.loop-label-test.true in
    let none : is_in gone (get_or labels k d).now ≡ false =
    sym (text_found c.args.gone.now (get_or labels k d).now c.text_for.result c.text_for.ensures) ∙ sym c.is_some.ensures
    ∙ c.if-is_some.false in
    ap (list_any (is_in gone)) (sym (take-map now (k + 1) labels))
    ∙ list_any_more (is_in gone) (seen_words labels) k [] within
    ∙ ap (λ (b : Bool). b || is_in gone (get_or (seen_words labels) k [])) (ap (list_any (is_in gone)) (take-map now k labels)
    ∙ c.loop-label.invariant)
    ∙ ap (is_in gone) (get_or-map now labels k d [] c.loop-label-test.true)
    ∙ none
