-- What is so where a call did not fail.
use Rattle.std.proofs.Common.{Result, Ok, Err}
use Rattle.std.specs.Prelude.{IfOk}

-- what is so of every value is so where there is one
pub if_ok_always : {T E : Type 0} (r : Result T E) (P : T → Type 0) → ((x : T) → P x) → IfOk r P
if_ok_always (Ok x) P all = all x
if_ok_always (Err e) P all = tt
