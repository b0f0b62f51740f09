-- What is so of an item that may be there, and tests.
use Rattle.std.specs.Prelude.{Result, Ok, Err, IfOk}

pub if_both : {A E : Type 0} {P Q R : A → Type 0} (r : Result A E) → ((x : A) → P x → Q x → R x) → IfOk r P → IfOk r Q → IfOk r R
if_both (Ok x) f p q = f x p q
if_both (Err e) f p q = tt

-- ---- tests
