-- The descriptions in scripts: those of one more.
use Rattle.std.proofs.Common.{◌≡◌, ◌<◌, ◌+◌, ℕ, suc, List, [], ◌∷◌, ◌++◌, length, take, arith, subst, sym, Some}
use Rattle.std.specs.Prelude.{slice_get, slice_index_or}
use Rattle.std.proofs.lemmas.List.{length-take-le}
use Rattle.mmtext.specs.Text.{Token}
use Rattle.mmsyntax.proofs.Items.{take_next}
use Rattle.checking.specs.Checks.{Bytes}
use Rattle.expanding.specs.Descriptions.{Description, IsDescriptive}
use Rattle.editscripts.specs.Described.{AreDescriptiveFrom, AreDescriptive}

pub descriptive_more : (texts : List Bytes) (n : ℕ) (scripts : List (List Token)) (all : List (List Description)) (words : List Token)
    (ds : List Description)
    → AreDescriptiveFrom texts n scripts all → IsDescriptive (slice_index_or texts (n + length scripts) []) words ds
    → AreDescriptiveFrom texts n (scripts ++ words ∷ []) (all ++ ds ∷ [])
descriptive_more texts n [] [] words ds are one =
    let here : n + 0 ≡ n = omega arith in
    (subst (λ k. IsDescriptive (slice_index_or texts k []) words ds) here one, tt)
descriptive_more texts n [] (x ∷ all) words ds are one = absurd are
descriptive_more texts n (x ∷ scripts) [] words ds are one = absurd are
descriptive_more texts n (x ∷ scripts) (y ∷ all) words ds are one =
    let next : n + suc (length scripts) ≡ suc n + length scripts = omega arith in (
      are.0,
      descriptive_more texts (suc n) scripts all words ds are.1
          (subst (λ k. IsDescriptive (slice_index_or texts k []) words ds) next one),
    )

pub descriptive_next : (texts : List Bytes) (scripts : List (List Token)) (k : ℕ) (words : List Token)
    (all more : List (List Description)) (ds : List Description)
    → slice_get scripts k ≡ Some words → k < length scripts → AreDescriptive texts (take k scripts) all
    → IsDescriptive (slice_index_or texts k []) words ds → more ≡ all ++ ds ∷ []
    → AreDescriptive texts (take (k + 1) scripts) more
descriptive_next texts scripts k words all more ds found within are one is =
    let long = length-take-le k scripts (omega (arith, within)) in
    let at : k ≡ 0 + length (take k scripts) = omega (arith, long) in
    let here = subst (λ n. IsDescriptive (slice_index_or texts n []) words ds) at one in
    subst (λ ss. AreDescriptive texts ss more) (sym (take_next scripts k words found))
    (subst (λ (made : List (List Description)). AreDescriptive texts (take k scripts ++ words ∷ []) made) (sym is)
    (descriptive_more texts 0 (take k scripts) all words ds are here))
