-- What is known of a proof that can't be written.
use Rattle.std.proofs.Common.{◌≡◌, true, false, Some, None, refl}
use Rattle.std.specs.Prelude.{Option, IsSomeAnd, Result, Ok, Err, IfErr}
use Rattle.mmtext.specs.Words.{Word}
use Rattle.sourceediting.specs.declared.refusal.Refusal.{Refusal}
use Rattle.sourceediting.specs.declared.refusal.Refusal.TheVariants as refusal
use Rattle.sourceediting.specs.Refusals.{OnUnwritten}

-- where more is known
pub on_unwritten : (P Q : Word → Type 0) → ((label : Word) → P label → Q label) → (r : Refusal) → OnUnwritten P r → OnUnwritten Q r
on_unwritten P Q f (refusal.StillCited label by) h = tt
on_unwritten P Q f (refusal.InFront label next name) h = tt
on_unwritten P Q f (refusal.Unwritten label) h = f label h
on_unwritten P Q f (refusal.Unplaced label next side) h = tt
on_unwritten P Q f refusal.Bare h = tt
on_unwritten P Q f refusal.NoMemory h = tt

pub if_unwritten : {T : Type 0} (P Q : Word → Type 0) (r : Result T Refusal) → ((label : Word) → P label → Q label)
    → IfErr r (OnUnwritten P) → IfErr r (OnUnwritten Q)
if_unwritten P Q (Ok x) f h = tt
if_unwritten P Q (Err e) f h = on_unwritten P Q f e h

pub clash : false ≡ true → ⊥
clash e = cc

-- what is there has a value
pub and_some : {A : Type 0} (P : A → Type 0) (o : Option A) → IsSomeAnd o P → ((x : A) → o ≡ Some x → ⊥) → ⊥
and_some P None h none = h
and_some P (Some x) h none = none x refl
