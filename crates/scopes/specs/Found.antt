-- Of the code's inside, apart from the rules: a place that is noted for a word, where the item has to be looked at.
use Rattle.std.specs.Prelude.{◌≡◌, ℕ, Bool, true, false, List, Option, Some, None, slice_get, if◌then◌else◌}
use Rattle.std.specs.Option.{option_map_or, option_and_then}

-- each item that passes the test stands at the noted place
abbrev pub Found : {A : Type 0} → (A → Bool) → List A → Option ℕ → Type 0
Found test xs place = (i : ℕ) (x : _) → slice_get xs i ≡ Some x → test x ≡ true → place ≡ Some i

-- an item stands at the noted place that passes the test
abbrev pub passes_at : {A : Type 0} → (A → Bool) → List A → Option ℕ → Bool
passes_at test xs None = false
passes_at test xs (Some i) = option_map_or test (slice_get xs i) false

-- the item at the noted place, if it passes the test
abbrev pub passing : {A : Type 0} → (A → Bool) → A → Option A
passing test x = if test x then Some x else None

abbrev pub passing_at : {A : Type 0} → (A → Bool) → List A → Option ℕ → Option A
passing_at test xs None = None
passing_at test xs (Some i) = option_and_then (passing test) (slice_get xs i)
