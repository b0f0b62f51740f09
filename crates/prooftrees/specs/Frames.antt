-- Of the code's inside, apart from the rules: what was made once of the frames of assertions.
use Rattle.std.specs.Prelude.{◌≡◌, ℕ, Bool, List, map, slice_get, Some}
use Rattle.std.specs.Option.{option_map}
use Rattle.source.specs.Scopes.{Assertion}
use Rattle.taking.specs.Settings.{is_float}
use Rattle.prooftrees.specs.declared.frames.Frames.{Frames as Kept}

-- what is kept at a place is right of the assertion there
abbrev pub Holds : List Assertion → Kept → Type 0
Holds xs k =
    (place : ℕ) (flags : List Bool) → slice_get k.floats.items place ≡ Some (Some flags)
    → option_map (λ x. map is_float x.hypotheses) (slice_get xs place) ≡ Some flags
