-- Why scripts aren't begun over a source, and the line that says so. The reasons stand in the order of the steps: a line tells the first
-- that is so, and says with it that each step before was taken.
use Rattle.std.specs.Prelude.{◌≡◌, ◌≢◌, ◌⊎◌, ◌++◌, Bool, List, codes}
use Rattle.mmtext.specs.Text.{Token}
use Rattle.mmtext.specs.declared.fault.TextFault.{TextFault}
use Rattle.mmsyntax.specs.Layout.{HasSpelling}
use Rattle.mmsyntax.specs.Tables.{Contents}
use Rattle.source.specs.Scopes.{Scope}
use Rattle.source.specs.Faults.{FaultySource}
use Rattle.choosing.specs.declared.wish.Wish.{Wish}
use Rattle.derivation.specs.Databases.{AllCheck}
use Rattle.intake.specs.declared.refusal.Refusal.{Refusal as Untaken}
use Rattle.intake.specs.declared.refusal.Refusal.TheVariants as untaken
use Rattle.intake.specs.Intakes.{IsRefusedOf}
use Rattle.taketext.specs.Refusals.{refusal_line as taking_line}
use Rattle.checking.specs.Checks.{Bytes}
use Rattle.editscripts.specs.Expanded.{IsSpreadOf}
use Rattle.editscripts.specs.Encouraged.{AreAllowed}
use Rattle.editscripts.specs.Faults.{IsFaultsText}
use Rattle.editscripts.specs.Refusals.{IsUnlaidBy, IsUnreadBy}
use Rattle.standins.specs.StandIns.{StandIn, with_stand_ins}
use Rattle.editopening.specs.Opening.{IsAskedBy, Asked, Ranked, Begun, taken_of, stand_ins_of}

-- the text of the source has a fault
pub record IsFaultyLine (path source line : Bytes) : Type 0 where
  pub found : TextFault
  pub faulty : FaultySource source found
  pub says : line ≡ taking_line path source (untaken.Source found)

-- ---- scripts, which count from 0

-- no library is taken of what the source declares by the wish of the scripts
pub record IsUntakenBy (path source : Bytes) (s : Scope) (scripts : List (List Token)) (line : Bytes) : Type 0 where
  pub wish : Wish
  pub by : IsAskedBy s scripts wish
  pub why : Untaken
  pub refused : IsRefusedOf s wish why
  pub told : why ≢ untaken.NoMemory
  pub says : line ≡ taking_line path source why

-- nor of scripts that may be run
pub record IsUntakenLine (path source : Bytes) (s : Scope) (texts : List Bytes) (force : Bool) (line : Bytes) : Type 0 where
  pub spread : List (List Token)
  pub of_source : IsSpreadOf s texts spread
  pub allowed : AreAllowed source s force spread
  pub cause : IsUntakenBy path source s spread line

-- one is, but the scripts have no texts over it
pub record IsUnlaidLine (paths : List Bytes) (source : Bytes) (s : Scope) (texts : List Bytes) (force : Bool) (line : Bytes) : Type 0 where
  pub over : Asked s texts
  pub allowed : AreAllowed source s force over.spread
  pub cause : IsUnlaidBy paths s texts over.taken.chosen.items over.taken.database over.spread line

-- they have, but these aren't read
pub record IsUnreadLine (paths : List Bytes) (source : Bytes) (s : Scope) (texts : List Bytes) (force : Bool) (line : Bytes) : Type 0 where
  pub with_ranks : Ranked s texts
  pub allowed : AreAllowed source s force with_ranks.over.spread
  pub cause : IsUnreadBy paths with_ranks.over.taken.database.prelude texts with_ranks.ranked line

-- a library of the source has no room for stand-ins
pub record IsUnopenedBy (path : Bytes) (db : Contents) (ss : List StandIn) (line : Bytes) : Type 0 where
  pub unlawful : HasSpelling (with_stand_ins db ss) → AllCheck (with_stand_ins db ss) → ⊥
  pub says : line ≡ path ++ codes ": no library has room for stand-ins of unfinished or long proofs"

-- they are, but have nothing to be run over
pub record IsUnopenedLine (path source : Bytes) (texts : List Bytes) (force : Bool) (line : Bytes) : Type 0 where
  pub begun : Begun source texts
  pub allowed : AreAllowed source begun.old force begun.with_ranks.over.spread
  pub cause : IsUnopenedBy path (taken_of begun).database (stand_ins_of begun) line

-- why scripts aren't begun over what a source declares: nothing is wrong with them that can be told before; a library is taken; they have
-- texts over it, are read, and have a library to be run over. The first of these that isn't so is told, and of what is wrong all
abbrev pub IsUnbegunLine : Bytes → List Bytes → Bytes → Scope → List Bytes → Bool → Bytes → Type 0
IsUnbegunLine path paths source s texts force line =
    IsFaultsText paths source s texts force line
    ⊎ (IsUntakenLine path source s texts force line
    ⊎ (IsUnlaidLine paths source s texts force line
    ⊎ (IsUnreadLine paths source s texts force line ⊎ IsUnopenedLine path source texts force line)))
