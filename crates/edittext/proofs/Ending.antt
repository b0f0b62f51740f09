-- What is answered behind a run, by how it finished.
use Rattle.std.proofs.Common.{Result, Ok, Err}
use Rattle.std.specs.Prelude.{IfErr, IfOk}
use Rattle.checking.specs.Checks.{Bytes}
use Rattle.editedsource.specs.declared.completing.Finished.{Finished}
use Rattle.editscripts.specs.Refusals.{IsToldBy}
use Rattle.editscripts.specs.declared.unedited.Unedited.{Unedited}
use Rattle.editscripts.specs.declared.unedited.Unedited.TheVariants as unedited
use Rattle.edittext.specs.Finished.{told_of}
use Rattle.edittext.specs.declared.account.Account.{Account}
use Rattle.edittext.specs.declared.answering.Told.{Told}
use Rattle.edittext.specs.declared.answering.Told.TheVariants as told
use Rattle.std.specs.Prelude.{string_bytes}

-- it is printed; or a line says why not, of which this is so
pub told_behind : (P : Told → Type 0) (Q : Bytes → Type 0) (a : Account) (r : Result Finished Unedited)
    → IfOk r (λ f. P (told.Printed f.out (record a { spoken = f.spoken; mentions = f.mentions })))
    → IfErr r (IsToldBy Q)
    → ((line : _) → Q (string_bytes line) → P (told.Unfinished a line)) → IfOk (told_of a r) P
told_behind P Q a (Ok f) printed refused says = printed
told_behind P Q a (Err (unedited.Refused line)) printed refused says = says line refused
told_behind P Q a (Err unedited.NoMemory) printed refused says = tt

-- what isn't told so is want of memory
pub lack_behind : (Q : Bytes → Type 0) (a : Account) (r : Result Finished Unedited) → IfErr (told_of a r) (IsToldBy Q)
lack_behind Q a (Ok f) = tt
lack_behind Q a (Err (unedited.Refused line)) = tt
lack_behind Q a (Err unedited.NoMemory) = tt

-- what is so of how it finished, of all that it may be
pub printed : {P Q : Finished → Type 0} (r : Result Finished Unedited) → IfOk r P → ((f : Finished) → P f → Q f) → IfOk r Q
printed (Ok f) is then = then f is
printed (Err why) is then = tt
