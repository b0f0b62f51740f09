-- Ranges among more ranges.
use Rattle.std.proofs.Common.{ℕ, List, inl, inr}
use Rattle.ranges.specs.Ranges.{Range, Within, Names}

pub within_refl : (rs : List Range) → Within rs rs
within_refl rs r h = h

pub within_trans : (ps qs rs : List Range) → Within ps qs → Within qs rs → Within ps rs
within_trans ps qs rs a b r h = b r (a r h)

pub names_grow : (rs qs : List Range) (word : ℕ) → Within rs qs → Names rs word → Names qs word
names_grow rs qs word l (inl e) = inl e
names_grow rs qs word l (inr (r, h, e)) = inr (r, l r h, e)
