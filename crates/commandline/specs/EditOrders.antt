-- What a command line asks to edit, by what its parser found in the words.
use Rattle.std.specs.Prelude.{◌≡◌, ℕ, Bool, true, false, List, ◌∷◌, Option, Some, None, codes, is_some}
use Rattle.std.specs.Option.{option_map}
use Rattle.std.specs.Str.{bytes_eq}
use Rattle.clap.specs.Words.{Row, Text, all_of, first_of}
use Rattle.commandline.specs.declared.edit_order.Destination.{Destination}
use Rattle.commandline.specs.declared.edit_order.Outputs.{Outputs}
use Rattle.commandline.specs.declared.edit_order.Allowed.{Allowed}
use Rattle.commandline.specs.declared.edit_order.Destination.TheVariants.{Printed, File, Source}
use Rattle.commandline.specs.Orders.{HasLimits, all_listed, rows_in}

-- a flag is given: its text is `true`
abbrev pub is_flagged : Option Text → Bool
is_flagged (Some text) = bytes_eq text (codes "true")
is_flagged None = false

-- the subcommand `edit`, with a source, and with so many workers and a store of this room, if that is given
pub record IsEditOf (name : Text) (rows : List Row) (path : Text) (workers : ℕ) (room : Option ℕ) : Type 0 where
  pub named : name ≡ codes "edit"
  pub source_given : first_of (codes "SOURCE") rows ≡ Some path
  pub limits : HasLimits rows workers room

abbrev pub AsksToEdit : Option (Text × List Row) → Text → ℕ → Option ℕ → Type 0
AsksToEdit (Some p) path workers room = IsEditOf p.0 p.1 path workers room
AsksToEdit None path workers room = ⊥

-- where the edited source goes, by the file of `--output` and the flag `--in-place`: it is printed where neither is given, and there is no
-- place where both are
abbrev pub IsPlaceGiven : Option Text → Bool → Option Destination → Type 0
IsPlaceGiven output in_place (Some Printed) = (output ≡ None) × (in_place ≡ false)
IsPlaceGiven output in_place (Some (File path)) = (output ≡ Some path.now) × (in_place ≡ false)
IsPlaceGiven output in_place (Some Source) = (output ≡ None) × (in_place ≡ true)
IsPlaceGiven output in_place None = (is_some output ≡ true) × (in_place ≡ true)

-- and what became of the transactions goes into the file of `--replies`, if it is given
abbrev pub AreOutputsGiven : List Row → Option Outputs → Type 0
AreOutputsGiven rows (Some o) =
    IsPlaceGiven (first_of (codes "output") rows) (is_flagged (first_of (codes "in-place") rows)) (Some o.place)
    × (option_map (λ path. path.now) o.replies ≡ first_of (codes "replies") rows)
AreOutputsGiven rows None = IsPlaceGiven (first_of (codes "output") rows) (is_flagged (first_of (codes "in-place") rows)) None

-- a part of the transactions is enough with `--partial`, and what comments discourage may be done with `--force`
pub record IsAllowed (rows : List Row) (allowed : Allowed) : Type 0 where
  pub part : allowed.partial ≡ is_flagged (first_of (codes "partial") rows)
  pub forced : allowed.force ≡ is_flagged (first_of (codes "force") rows)

-- the paths of its source and of its scripts, its numbers, where all goes, and what is allowed
pub record IsEditOrder (found : Option (Text × List Row)) (paths : List Text) (workers : ℕ) (room : Option ℕ) (outputs : Option Outputs)
    (allowed : Allowed) : Type 0 where
  pub source : Text
  pub asked : AsksToEdit found source workers room
  pub read : paths ≡ source ∷ all_listed (all_of (codes "SCRIPT") (rows_in found))
  pub put : AreOutputsGiven (rows_in found) outputs
  pub allows : IsAllowed (rows_in found) allowed
