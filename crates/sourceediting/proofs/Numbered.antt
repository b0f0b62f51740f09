-- Assertions of a library by their numbers.
use Rattle.std.proofs.Common.{◌≡◌, ◌∙◌, ◌<◌, ◌+◌, ℕ, List, Some, length, map, get_or, ap, sym, subst, refl, arith, inl, inr}
use Rattle.std.proofs.lemmas.Bool.{cases_lt}
use Rattle.std.specs.Option.{option_map}
use Rattle.std.proofs.lemmas.Option.{slice_get-map, slice_get-get_or}
use Rattle.mmtext.specs.Words.{Word}
use Rattle.library.specs.declared.library.Ranked.{Ranked}
use Rattle.mmsyntax.specs.declared.statement.Assertion.{Assertion as Unit'}
use Rattle.arranging.specs.declared.coming.Coming.{Coming}
use Rattle.arranging.specs.Arranged.{label_in_source}
use Rattle.arranging.specs.Held.{IsHeldBehind}
use Rattle.sourceediting.specs.Following.{Followed}
use Rattle.sourceediting.specs.Refusals.{IsNumbered, IsKnownAs, IsInFront, IsPut, ArePut}

pub numbered : (rs : List Ranked) (k : ℕ) (r : Ranked) (label : Word) → k < length rs → r ≡ get_or rs k r → r.assertion.label ≡ label
    → IsNumbered (map (λ (r : Ranked). r.assertion) rs) k label
numbered rs k r label lt at is = record {
  assertion = r.assertion;
  stands =
      slice_get-map (λ (r : Ranked). r.assertion) rs k
      ∙ ap (option_map (λ (r : Ranked). r.assertion)) (slice_get-get_or rs k r lt ∙ ap (λ x. Some x) (sym at));
  labelled = is;
}

-- it has no other label
pub named_so : (rs : List Ranked) (k : ℕ) (r : Ranked) (label : Word) → k < length rs → r ≡ get_or rs k r
    → IsNumbered (map (λ (r : Ranked). r.assertion) rs) k label → r.assertion.label ≡ label
unfolding numbered
named_so rs k r label lt at h =
    let here = numbered rs k r r.assertion.label lt at refl in
    let same : Some r.assertion ≡ Some h.assertion = sym here.stands ∙ h.stands in
    let one : r.assertion ≡ h.assertion = cc in
    ap (λ (a : Unit'). a.label) one ∙ h.labelled

-- one more of them was put in
module _ (living : List Followed) (rs : List Ranked) (from to : ℕ) (r : Ranked) where
  pub put_more : to < length rs → r ≡ get_or rs to r → ArePut living (map (λ (r : Ranked). r.assertion) rs) from to
      → IsPut living r.assertion.label → ArePut living (map (λ (r : Ranked). r.assertion) rs) from (to + 1)
  put_more lt at before now k label later le h = elim (cases_lt k to) [
    | inl less ↦ before k label later less h
    | inr more ↦
        let same : k ≡ to = omega (arith, le, more) in
        subst (IsPut living)
        (named_so rs to r label lt at (subst (λ (n : ℕ). IsNumbered (map (λ (r : Ranked). r.assertion) rs) n label) same h)) now
  ]

-- something that is put in, which is held behind what its neighbour stands in front of
pub in_front : (living : List Followed) (edited : List Unit') (source : List ℕ) (coming : Coming) (neighbour name : Word)
    (first second : ℕ) (label next label' next' name' : Word) → IsHeldBehind source coming neighbour name → first < second
    → IsNumbered edited first label → IsNumbered edited second next → IsKnownAs living label' (label_in_source coming)
    → IsKnownAs living next' (Some neighbour) → label' ≡ label → next' ≡ next → name ≡ name'
    → IsInFront living edited source label next name'
in_front living edited source coming neighbour name first second label next label' next' name' held lt one other comes stays
    l n m = record {
      first = first;
      second = second;
      in_front = lt;
      is_first = one;
      is_second = other;
      coming = coming;
      comes = subst (λ (w : Word). IsKnownAs living w (label_in_source coming)) l comes;
      neighbour = neighbour;
      stays = subst (λ (w : Word). IsKnownAs living w (Some neighbour)) n stays;
      held = subst (IsHeldBehind source coming neighbour) m held;
    }
