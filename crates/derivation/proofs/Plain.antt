-- Plain facts of options and of lists.
use Rattle.std.proofs.Common.{◌≡◌, List, [], ◌∷◌, ◌++◌, Option, None, Some, length, slice_get, refl}

pub Some-same : {X : Type 0} (x y : X) (o : Option X) → o ≡ Some x → o ≡ Some y → x ≡ y
Some-same x y o e k = cc

pub None-Some : {X : Type 0} (x : X) (o : Option X) → o ≡ None → o ≡ Some x → ⊥
None-Some x o e k = cc

-- what stands behind a front
pub at_seam : {X : Type 0} (before : List X) (x : X) (later : List X) → slice_get (before ++ x ∷ later) (length before) ≡ Some x
at_seam [] x later = refl
at_seam (y ∷ before) x later = at_seam before x later
