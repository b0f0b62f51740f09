-- Of the code's inside, apart from the rules: what theorems forbid of the commands that they may forbid.
use Rattle.std.specs.Prelude.{◌≡◌, ◌<◌, ℕ, Bool, true, false, ◌&&◌, not, List, [], ◌∷◌, map, filter_map, length, slice_get, Contains, is_some}
use Rattle.std.specs.Prelude.{Option, Some, None, if◌then◌else◌}
use Rattle.std.specs.Option.{option_and_then}
use Rattle.mmtext.specs.Words.{Word}
use Rattle.mmtext.specs.Views.{seen}
use Rattle.source.specs.Scopes.{Assertion, Scope, is_in}
use Rattle.expanding.specs.Commands.{Command}
use Rattle.expanding.specs.Barred.{Barred, barred_by}
use Rattle.expanding.specs.Bearing.{AreRenames}
use Rattle.expanding.specs.Bars.{Bar, bars_of, bars_there, moved_in, seen_bar, holds, names_any, proof_at, IsSaid}
use Rattle.expanding.specs.declared.barred.Barred.{Barred as CodeBarred}
use Rattle.expanding.specs.declared.barred.Watch.{Watch}

abbrev pub seen_barred : CodeBarred → Barred
seen_barred b = barred_by b.script (seen b.word) b.by.now

abbrev pub label_of : Bar → Word
label_of b = b.label.text

-- they are watched, by their labels
pub record IsWatch (s : Scope) (asked : List Word) (cs : List Command) (w : Watch) : Type 0 where
  pub is_said : IsSaid asked cs w.said
  pub bars_are : map seen_bar w.bars.items ≡ bars_of s asked cs cs
  pub by_label : (x : Word) → holds w.labels x ≡ is_in (map label_of (bars_of s asked cs cs)) x
  pub moved : AreRenames (moved_in cs) w.moved

-- ---- theorems

-- no script asks for the proof of an assertion, if there is one
abbrev pub stays : List Word → Option Assertion → Bool
stays asked None = false
stays asked (Some a) = not (is_in asked a.label)

-- the theorem at a place may forbid a command: no script asks for its proof, which names a label that passes a test
abbrev pub is_watched : Scope → List Word → (Word → Bool) → ℕ → Bool
is_watched s asked test place = names_any test (proof_at s place) && stays asked (slice_get s.assertions place)

-- all that may are at these places
abbrev pub AreWatched : Scope → List Word → (Word → Bool) → List ℕ → Type 0
AreWatched s asked test places =
    (place : ℕ) → place < length s.assertions → is_watched s asked test place ≡ true → Contains places place

-- a theorem forbids a command, where no script asks for its own proof
abbrev pub unless_asked : List Word → Bar → Assertion → Option Barred
unless_asked asked b a = if is_in asked a.label then None else Some (barred_by b.script b.label a.label)

abbrev pub barred_there : Scope → List Word → List Command → Bar → ℕ → Option Barred
barred_there s asked cs b place =
    if bars_there s cs place b then option_and_then (unless_asked asked b) (slice_get s.assertions place) else None

abbrev pub or_barred : Option Barred → Option Barred → Option Barred
or_barred None later = later
or_barred (Some b) later = Some b

-- that of the first of some theorems, by their places, that does
abbrev pub first_barred : Scope → List Word → List Command → List ℕ → Bar → Option Barred
first_barred s asked cs [] b = None
first_barred s asked cs (place ∷ places) b = or_barred (barred_there s asked cs b place) (first_barred s asked cs places b)

-- all commands that some of these theorems forbid
abbrev pub all_barred : Scope → List Word → List Command → List ℕ → List Bar → List Barred
all_barred s asked cs places bars = filter_map (first_barred s asked cs places) bars

-- all that theorems forbid, each with one that does
pub record AreBarred (s : Scope) (asked : List Word) (cs : List Command) (found : List Barred) : Type 0 where
  pub sound : (b : Barred) → Contains found b
      → (bar : Bar) × (place : ℕ) × Contains (bars_of s asked cs cs) bar × (barred_there s asked cs bar place ≡ Some b)
  pub complete : (bar : Bar) (place : ℕ) → Contains (bars_of s asked cs cs) bar → place < length s.assertions
      → is_some (barred_there s asked cs bar place) ≡ true → (by : Word) × Contains found (barred_by bar.script bar.label by)
