-- The types of the expressions of $f, one after another.
use Rattle.std.proofs.Common.{◌≡◌, ◌↔◌, ℕ, ◌+◌, ◌<◌, List, length, drop, get_or, add-one, sym, subst}
use Rattle.std.proofs.Math.Seq.{drop-cons}
use Rattle.mmsyntax.specs.Tables.{Tables}
use Rattle.derivation.specs.Derivation.{Expression, HasType, HaveTypes}

-- from a place on: that of the expression there, and those behind it
pub next_typed : (p : Tables) (fs : List ℕ) (es : List Expression) (i : ℕ) (e : Expression) → i < length fs → i < length es
    → e ≡ get_or es i e
    → HaveTypes p (drop i fs) (drop i es) ↔ (HasType p (get_or fs i 0) e × HaveTypes p (drop (i + 1) fs) (drop (i + 1) es))
next_typed p fs es i e few many at =
    subst (λ x. HaveTypes p (drop i fs) (drop i es) ↔ (HasType p (get_or fs i 0) x × HaveTypes p (drop (i + 1) fs) (drop (i + 1) es)))
    (sym at) (rw (drop-cons fs i 0, drop-cons es i e, add-one) (λ h. h, λ h. h))
