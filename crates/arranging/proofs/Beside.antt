-- A block that is open in front of one item more.
use Rattle.std.proofs.Common.{◌≡◌, ℕ, ◌<◌, ◌≤◌, List, subst, arith, inl, inr}
use Rattle.std.proofs.lemmas.Bool.{cases_lt}
use Rattle.leaving.specs.declared.part.Part.{Part}
use Rattle.arranging.specs.Headed.{IsOpenAt}

module _ (ps : List Part) (place at : ℕ) where
  -- behind one item more
  pub open_up_to : ((k : ℕ) → place < k → k < at → IsOpenAt ps k) → IsOpenAt ps at → (k : ℕ) → place < k → k ≤ at → IsOpenAt ps k
  open_up_to before now k later le = elim (cases_lt k at) [
    | inl less ↦ before k later less
    | inr more ↦ let same : at ≡ k = omega (arith, le, more) in subst (IsOpenAt ps) same now
  ]

  -- in front of one item more
  pub open_from : ((k : ℕ) → at < k → k ≤ place → IsOpenAt ps k) → IsOpenAt ps at → (k : ℕ) → at ≤ k → k ≤ place → IsOpenAt ps k
  open_from later now k le within = elim (cases_lt at k) [
    | inl less ↦ later k less within
    | inr more ↦ let same : at ≡ k = omega (arith, le, more) in subst (IsOpenAt ps) same now
  ]
