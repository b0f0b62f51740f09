-- What is told, where more is known of it.
use Rattle.std.specs.Prelude.{Result, Ok, Err, IfErr, string_bytes}
use Rattle.checking.specs.Checks.{Bytes}
use Rattle.editscripts.specs.declared.unedited.Unedited.{Unedited}
use Rattle.editscripts.specs.declared.unedited.Unedited.TheVariants as unedited
use Rattle.editscripts.specs.Refusals.{IsToldBy}

pub told_more : (P Q : Bytes → Type 0) → ((line : Bytes) → P line → Q line) → (u : Unedited) → IsToldBy P u → IsToldBy Q u
told_more P Q f (unedited.Refused line) h = f (string_bytes line) h
told_more P Q f unedited.NoMemory h = tt

pub if_told_more : {T : Type 0} (P Q : Bytes → Type 0) → ((line : Bytes) → P line → Q line) → (r : Result T Unedited)
    → IfErr r (IsToldBy P) → IfErr r (IsToldBy Q)
if_told_more P Q f (Ok x) h = tt
if_told_more P Q f (Err u) h = told_more P Q f u h
