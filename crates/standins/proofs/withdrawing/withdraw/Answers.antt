-- What is left to show of `withdraw`: the library verifies still, and without stand-ins it is as it was.
use Rattle.std.proofs.Common.{◌≡◌, ◌∙◌, [], length, refl, sym, ap, ap₂, subst}
use Rattle.std.specs.List.Sorted.{IsPermutation}
use Rattle.std.proofs.lemmas.Bool.{eqb-true}
use Rattle.std.proofs.lemmas.List.{nil_from_length}
use Rattle.std.proofs.lemmas.List.Sorted.{IsPermutation-refl}
use Rattle.library.specs.Library.{Setting, Verifies, ShowsInOrder}
use Rattle.standins.specs.Ending.{axiom_labels, withdrawn}
use Rattle.standins.specs.Views.{seen_stand_ins}
use Rattle.standins.proofs.Freed.{withdrawn_verifies, none_withdrawn}
use Rattle.standins.proofs.withdrawing.withdraw.Goals as goal

pub returns-then-is_empty : goal.returns-then-is_empty
returns-then-is_empty c =
    let lib = c.args.library.entries in
    let long : length c.args.stand_ins.now ≡ 0 = eqb-true _ _ (sym c.if-is_empty.ensures) in
    let none : c.args.stand_ins.now ≡ [] = nil_from_length c.args.stand_ins.now long in
    let same = ap (λ ss. withdrawn (axiom_labels (seen_stand_ins ss)) lib) none ∙ none_withdrawn lib in
    record {
      setting = refl;
      shown = record {
        same = subst (λ xs. IsPermutation xs lib) (sym same) (IsPermutation-refl lib);
        ordered = c.entries-ordered.ensures.ordered;
      };
    }

pub sorted-requires : goal.sorted-requires
sorted-requires c =
    let library = c.args.library in
    let ws = c.in_ok-axioms.axioms in
    let setting = ap₂ (λ t n. record { prelude = t; slots = n }) (c.in_ok-prelude.ensures ∙ c.prelude.ensures) c.slots.ensures in
    let is = c.in_ok-entries.ensures ∙ ap (withdrawn ws) c.entries.ensures.value in
    subst (λ (s : Setting). Verifies s c.in_ok-entries.entries.items) (sym setting)
    (subst (λ xs. Verifies library.setting xs) (sym is) (withdrawn_verifies library.setting ws library.entries c.entries.ensures.verifies))

pub returns : goal.returns
returns c =
    let library = c.args.library in
    let ws = c.in_ok-axioms.axioms in
    let setting = ap₂ (λ t n. record { prelude = t; slots = n }) (c.in_ok-prelude.ensures ∙ c.prelude.ensures) c.slots.ensures in
    let is =
    c.in_ok-entries.ensures ∙ ap₂ (λ vs xs. withdrawn vs xs) c.in_ok-axioms.ensures c.entries.ensures.value in
    record {
      setting = c.sorted.ensures.setting ∙ setting;
      shown = subst (λ xs. ShowsInOrder xs c.sorted.result.entries) is c.sorted.ensures.shown;
    }
