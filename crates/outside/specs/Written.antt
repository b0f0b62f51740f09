-- How a text comes to the file at a path, by what was done on the disk.
use Rattle.std.specs.Prelude.{◌≡◌, ◌⊎◌, List, [], Option, Some, None, Result, Ok, Err}
use Rattle.std.specs.declared.io.ErrorKind.{ErrorKind}
use Rattle.outside.specs.declared.reason.Reason.TheVariants as reason
use Rattle.outside.specs.declared.trouble.Trouble.{Trouble}
use Rattle.outside.specs.declared.trouble.Trouble.TheVariants as trouble
use Rattle.outside.specs.declared.trouble.Unwritten.{Unwritten}
use Rattle.outside.specs.Events.{Bytes}
use Rattle.outside.specs.Deeds.{Deed, IsMovedOver, IsGivenUp, AreCut, IsCutOver}
use Rattle.outside.specs.Troubles.{IsAnsweredBy}

-- a new file was moved over the one at a path, if there was one; or that stays as it is
abbrev pub IsPutOver : Option Bytes → Bytes → Bytes → List Deed → Result Unit Unwritten → Type 0
IsPutOver old real text ds (Ok done) = IsMovedOver old real text ds
IsPutOver old real text ds (Err why) = IsGivenUp real why ds

-- so it is; or, where the folder allows no new file, the text was written over the one at the path
abbrev pub IsPutAt : Option Bytes → Bytes → Bytes → List Deed → Result Unit Unwritten → Type 0
IsPutAt old real text ds (Ok done) = IsMovedOver old real text ds ⊎ IsCutOver real text None ds
IsPutAt old real text ds (Err why) =
    IsGivenUp real why ds ⊎ ((why.left ≡ None) × IsAnsweredBy (λ kind. IsCutOver real text (Some kind) ds) why.trouble)

-- the text was written to what is no plain file
abbrev pub IsPutInto : Bytes → Bytes → List Deed → Result Unit Unwritten → Type 0
IsPutInto path text ds (Ok done) = AreCut path text None ds
IsPutInto path text ds (Err why) = (why.left ≡ None) × IsAnsweredBy (λ kind. AreCut path text (Some kind) ds) why.trouble

-- nothing was done, for a trouble that is so
abbrev pub IsUndone : (Trouble → Type 0) → List Deed → Result Unit Unwritten → Type 0
IsUndone reason ds (Ok done) = ⊥
IsUndone reason ds (Err why) = reason why.trouble × (why.left ≡ None) × (ds ≡ [])

-- where a path leads, as far as the system tells: to the plain file at a path, nowhere, or to something else; or it hides that, for an
-- error of some kind
pub record Ways : Type 1 where
  pub plain : Bytes → Type 0
  pub free : Type 0
  pub other : Type 0
  pub hidden : ErrorKind → Type 0

-- a text was written to the file at a path, by where that leads; or the system hides that
abbrev pub IsWrittenTo : Ways → Bytes → Bytes → List Deed → Result Unit Unwritten → Type 0
IsWrittenTo w path text ds r =
    IsUndone (IsAnsweredBy w.hidden) ds r
    ⊎ (((real : Bytes) × w.plain real × IsPutAt (Some real) real text ds r)
    ⊎ ((w.free × IsPutAt None path text ds r) ⊎ (w.other × IsPutInto path text ds r)))

-- a text was put in place of what the plain file has to which a path leads; or it leads to none, or the system hides that
abbrev pub IsReplacedBy : Ways → Bytes → List Deed → Result Unit Unwritten → Type 0
IsReplacedBy w text ds r =
    IsUndone (IsAnsweredBy w.hidden) ds r
    ⊎ (IsUndone (λ why. w.free × (why ≡ trouble.Refused reason.NoSuchFile)) ds r
    ⊎ (IsUndone (λ why. w.other × (why ≡ trouble.Refused reason.Untold)) ds r
    ⊎ ((real : Bytes) × w.plain real × IsPutOver (Some real) real text ds r)))
