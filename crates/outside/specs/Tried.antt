-- Of the code's inside, apart from the rules: how far it went with a new file beside another.
use Rattle.std.specs.Prelude.{◌≡◌, ◌≢◌, List, [], ◌∷◌, ◌++◌, Option, Some, None, Result, Ok, Err, if◌then◌else◌, is_some}
use Rattle.std.specs.declared.io.ErrorKind.TheVariants.{PermissionDenied}
use Rattle.outside.specs.Events.{Bytes, left_of}
use Rattle.outside.specs.Deeds.{Deed, Does, Each, Failure, makes, fills, syncs, moves, removes, IsReasonOf, IsTaken, OneFails, Spares, all_left, permissions_of}
use Rattle.outside.specs.declared.trouble.Trouble.{Trouble}
use Rattle.outside.specs.declared.trouble.Unwritten.{Unwritten}
use Rattle.outside.specs.declared.beside.Unmade.{Unmade}
use Rattle.outside.specs.declared.beside.Unmade.TheVariants as unmade

-- what is known of a disk before and after
pub record Turn : Type 1 where
  pub before : List Deed → Type 0
  pub after : List Deed → Type 0
  pub known : Bytes → Option Bytes
  pub now : Bytes → Option Bytes

abbrev pub Turns : Turn → List Deed → Type 0
Turns t ds = Does t.before t.after t.known t.now ds

-- nothing was made
abbrev pub IsVain : Deed → Type 0
IsVain (makes path how) = how ≢ None
IsVain _ = ⊥

-- a new file was made at another path, behind those that were tried
pub record IsMade (t : Turn) (real beside : Bytes) : Type 0 where
  pub another : beside ≢ real
  pub tried : List Deed
  pub in_vain : Each IsTaken tried
  pub did : Turns t (tried ++ makes beside None ∷ [])

-- none was
abbrev pub IsUnmade : Turn → Unmade → Type 0
IsUnmade t unmade.Denied =
    (tried : List Deed) × (beside : Bytes) × Each IsTaken tried × Turns t (tried ++ makes beside (Some PermissionDenied) ∷ [])
IsUnmade t (unmade.Other why) = (tried : List Deed) × Each IsVain tried × IsReasonOf why tried × Turns t tried

-- these are deeds on a new file, which is there still
pub record IsBegun (real beside : Bytes) (ds : List Deed) : Type 0 where
  pub spared : beside ≢ real → Each (Spares real) ds
  pub there : (paths : List Bytes) → all_left paths ds ≡ paths

-- and one can't be done, for this trouble
abbrev pub IsStopped : Bytes → Bytes → Trouble → List Deed → Type 0
IsStopped real beside why ds = IsBegun real beside ds × OneFails why ds

-- it got its permissions, its text, or all of it
abbrev pub IsPermitted : Option Bytes → Bytes → Bytes → List Deed → Result Unit Trouble → Type 0
IsPermitted old real beside ds (Ok done) = ds ≡ permissions_of old beside
IsPermitted old real beside ds (Err why) = IsStopped real beside why ds

abbrev pub IsFilled : Bytes → Bytes → Bytes → List Deed → Result Unit Trouble → Type 0
IsFilled real beside text ds (Ok done) = ds ≡ fills beside text None ∷ syncs beside None ∷ []
IsFilled real beside text ds (Err why) = IsStopped real beside why ds

abbrev pub IsMoved : Option Bytes → Bytes → Bytes → Bytes → List Deed → Result Unit Trouble → Type 0
IsMoved old real beside text ds (Ok done) =
    ds ≡ permissions_of old beside ++ (fills beside text None ∷ syncs beside None ∷ moves beside real None ∷ [])
IsMoved old real beside text ds (Err why) = IsStopped real beside why ds

-- all of it; or it was taken back, as far as it can be
pub record IsTakenBack (real beside : Bytes) (why : Unwritten) (ds : List Deed) : Type 0 where
  pub begun : List Deed
  pub is_stopped : IsStopped real beside why.trouble begun
  pub gone : Failure
  pub each : ds ≡ begun ++ removes beside gone ∷ []
  pub told : left_of why ≡ (if is_some gone then Some beside else None)

abbrev pub IsFinished : Option Bytes → Bytes → Bytes → Bytes → List Deed → Result Unit Unwritten → Type 0
IsFinished old real beside text ds (Ok done) = IsMoved old real beside text ds (Ok done)
IsFinished old real beside text ds (Err why) = IsTakenBack real beside why ds
