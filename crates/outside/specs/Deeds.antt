-- What is done on a disk, one thing after another, and how a text is put in the stead of what a file has, so that at any time the file has
-- the one or the other (POSIX.1-2017: open with O_EXCL, fchmod, write, fsync, rename, unlink).
use Rattle.std.specs.Prelude.{◌≡◌, ◌≢◌, ◌⊎◌, List, [], ◌∷◌, ◌++◌, Option, Some, None, Result, Ok, Err, filter}
use mathlib.Core.Bool.{not}
use Rattle.std.specs.Str.{bytes_eq}
use Rattle.std.specs.IoError.{error_kind}
use Rattle.std.specs.declared.io.Error.{Error}
use Rattle.std.specs.declared.io.ErrorKind.{ErrorKind}
use Rattle.std.specs.declared.io.ErrorKind.TheVariants.{AlreadyExists, PermissionDenied}
use Rattle.outside.specs.declared.trouble.Trouble.{Trouble}
use Rattle.outside.specs.declared.trouble.Trouble.TheVariants as trouble
use Rattle.outside.specs.declared.trouble.Unwritten.{Unwritten}
use Rattle.outside.specs.Events.{Bytes, left_of}
use Rattle.outside.specs.Troubles.{IsAnsweredBy}

-- how a deed goes: it is done, or it can't be, for an error of this kind
abbrev pub Failure : Type 0
Failure = Option ErrorKind

abbrev pub failure_of : {A : Type 0} → Result A Error → Failure
failure_of (Ok done) = None
failure_of (Err e) = Some (error_kind e)

-- a file is made at a path where nothing is; the file at a path is opened to be written from its beginning, with nothing in it; the file
-- that was made at a path gets the permissions of the file at another; a text is written to it, whole, or a front where that fails; what it
-- has is on the disk itself; it is moved over what is at another path; the file at a path is removed; or each of these can't be done
pub data Deed : Type 0 where
  makes : Bytes → Failure → Deed
  cuts : Bytes → Failure → Deed
  permits : Bytes → Bytes → Failure → Deed
  fills : Bytes → Bytes → Failure → Deed
  syncs : Bytes → Failure → Deed
  moves : Bytes → Bytes → Failure → Deed
  removes : Bytes → Failure → Deed

-- these were done behind what was done before, and what is known of files that nobody changes stays
pub record Does (before after : List Deed → Type 0) (known now : Bytes → Option Bytes) (ds : List Deed) : Type 0 where
  pub behind : (front : List Deed) → before front → after (front ++ ds)
  pub kept : now ≡ known

-- each of these is so
abbrev pub Each : (Deed → Type 0) → List Deed → Type 0
Each P [] = Unit {0}
Each P (d ∷ ds) = P d × Each P ds

-- how a deed went
abbrev pub failure_in : Deed → Failure
failure_in (makes path how) = how
failure_in (cuts path how) = how
failure_in (permits path from how) = how
failure_in (fills path text how) = how
failure_in (syncs path how) = how
failure_in (moves from to how) = how
failure_in (removes path how) = how

-- one of these can't be done, for an error of this trouble
abbrev pub OneFails : Trouble → List Deed → Type 0
OneFails why [] = ⊥
OneFails why (d ∷ ds) = IsAnsweredBy (λ kind. failure_in d ≡ Some kind) why ⊎ OneFails why ds

-- memory ran out, maybe before any of them; or one of these can't be done, for this reason
abbrev pub IsReasonOf : Trouble → List Deed → Type 0
IsReasonOf trouble.NoMemory ds = Unit {0}
IsReasonOf (trouble.Refused why) ds = OneFails (trouble.Refused why) ds

-- ---- other files

-- something is at a path that was tried for a new file
abbrev pub IsTaken : Deed → Type 0
IsTaken (makes path how) = how ≡ Some AlreadyExists
IsTaken (cuts path how) = ⊥
IsTaken (permits path from how) = ⊥
IsTaken (fills path text how) = ⊥
IsTaken (syncs path how) = ⊥
IsTaken (moves from to how) = ⊥
IsTaken (removes path how) = ⊥

-- the file at a path stays as it is: it isn't made, cut, written, moved, moved over or removed. (What can't be done changes nothing.)
abbrev pub Spares : Bytes → Deed → Type 0
Spares real (makes path how) = how ≡ None → path ≢ real
Spares real (cuts path how) = path ≢ real
Spares real (permits path from how) = path ≢ real
Spares real (fills path text how) = path ≢ real
Spares real (syncs path how) = Unit {0}
Spares real (moves from to how) = (from ≢ real) × (how ≡ None → to ≢ real)
Spares real (removes path how) = path ≢ real

-- the paths of new files that are still there, behind one thing more
abbrev pub without : Bytes → List Bytes → List Bytes
without path paths = filter (λ p. not (bytes_eq p path)) paths

abbrev pub left_by : List Bytes → Deed → List Bytes
left_by paths (makes path None) = path ∷ paths
left_by paths (makes path (Some kind)) = paths
left_by paths (cuts path how) = paths
left_by paths (permits path from how) = paths
left_by paths (fills path text how) = paths
left_by paths (syncs path how) = paths
left_by paths (moves from to None) = without from paths
left_by paths (moves from to (Some kind)) = paths
left_by paths (removes path None) = without path paths
left_by paths (removes path (Some kind)) = paths

-- and behind all of these
abbrev pub all_left : List Bytes → List Deed → List Bytes
all_left paths [] = paths
all_left paths (d ∷ ds) = all_left (left_by paths d) ds

abbrev pub listed : Option Bytes → List Bytes
listed (Some path) = path ∷ []
listed None = []

-- ---- a text is put in the stead of what a file has

-- the new file gets the permissions of the old one, if there is one
abbrev pub permissions_of : Option Bytes → Bytes → List Deed
permissions_of (Some old) beside = permits beside old None ∷ []
permissions_of None beside = []

-- a new file is made at another path, gets the permissions of the old one and the text whole, and that is on the disk itself before it is
-- moved over the old one
pub record IsMovedOver (old : Option Bytes) (real text : Bytes) (ds : List Deed) : Type 0 where
  pub beside : Bytes
  pub another : beside ≢ real
  pub tried : List Deed
  pub in_vain : Each IsTaken tried
  pub each : ds ≡ tried ++ (makes beside None ∷ (permissions_of old beside
      ++ (fills beside text None ∷ syncs beside None ∷ moves beside real None ∷ [])))

-- the old file stays as it is, and no new one is left but the one that is told; and unless memory ran out, something can't be done for the
-- reason that is told
pub record IsGivenUp (real : Bytes) (why : Unwritten) (ds : List Deed) : Type 0 where
  pub spared : Each (Spares real) ds
  pub gone : all_left [] ds ≡ listed (left_of why)
  pub failed : IsReasonOf why.trouble ds

-- ---- a text is written over what a file has

-- the file at a path is cut, and the text is written to it; or one of these can't be done, and then the file may have a front of it
abbrev pub AreCut : Bytes → Bytes → Failure → List Deed → Type 0
AreCut path text None ds = ds ≡ cuts path None ∷ fills path text None ∷ []
AreCut path text (Some kind) ds = (ds ≡ cuts path (Some kind) ∷ []) ⊎ (ds ≡ cuts path None ∷ fills path text (Some kind) ∷ [])

-- that is done where the folder allows no new file
pub record IsCutOver (path text : Bytes) (how : Failure) (ds : List Deed) : Type 0 where
  pub beside : Bytes
  pub tried : List Deed
  pub in_vain : Each IsTaken tried
  pub cut : List Deed
  pub are_cut : AreCut path text how cut
  pub each : ds ≡ tried ++ (makes beside (Some PermissionDenied) ∷ cut)
