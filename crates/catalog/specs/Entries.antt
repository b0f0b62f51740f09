-- Of the code's inside, apart from the rules: the assertions of an editor by their places.
-- A place whose assertion was deleted is empty, and the others keep theirs.
use Rattle.std.specs.Prelude.{◌≡◌, ℕ, List, filter_map, length, map, Option, Some, slice_get}
use Rattle.mmsyntax.specs.declared.statement.Frame.{Frame}
use Rattle.mmsyntax.specs.Tables.{Tables}
use Rattle.mmframes.specs.Frames.{frame}
use Rattle.library.specs.declared.library.Ranked.{Ranked}

-- the places of a library, each with its assertion or empty
abbrev pub Entries : Type 0
Entries = List (Option Ranked)

-- the library: the assertions in the order of their places
abbrev pub living : Entries → List Ranked
living entries = filter_map (λ o. o) entries

-- a library, one place after another
abbrev pub standing : List Ranked → Entries
standing lib = map (λ e. Some e) lib

-- the assertion at a place
abbrev pub StandsIn : Entries → ℕ → Ranked → Type 0
StandsIn entries p e = slice_get entries p ≡ Some (Some e)

-- beside each assertion, at its place, its frame
pub record AreFramed (t : Tables) (entries : Entries) (frames : List Frame) : Type 0 where
  pub long : length frames ≡ length entries
  pub framed : (p : ℕ) (e : Ranked) → StandsIn entries p e → slice_get frames p ≡ Some (frame t e.assertion)
