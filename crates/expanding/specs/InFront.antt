-- Of the code's inside, apart from the rules: what the map of comments finds.
use Rattle.std.specs.Prelude.{◌≡◌, ◌==◌, ℕ, List, Option}
use Rattle.std.specs.Option.{option_map}
use Rattle.std.specs.Borrow.{Bor}
use Rattle.std.specs.HashMap.{HashMap, get_by}
use Rattle.std.specs.declared.random_state.RandomState.{RandomState}
use Rattle.expanding.specs.Descriptions.{Front, comment_at, Description}
use Rattle.expanding.specs.declared.described.Described.{Described}

-- the comment that a map has for a place
abbrev pub looks_up : HashMap ℕ (Bor (List ℕ)) RandomState → ℕ → Option (List ℕ)
looks_up m place = option_map (λ c. c.now) (get_by (λ k. place == k) m)

-- a map finds the first of each place
abbrev pub FindsFronts : HashMap ℕ (Bor (List ℕ)) RandomState → List Front → Type 0
FindsFronts m fs = (place : ℕ) → looks_up m place ≡ comment_at fs place

abbrev pub seen_described : Described → Description
seen_described d = record { transaction = d.transaction; label = d.label.now; comment = d.comment.now }
