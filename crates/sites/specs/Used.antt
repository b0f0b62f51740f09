-- Of the code's inside, apart from the rules: what some assertions use, as it is noted while they are gone through.
use Rattle.std.specs.Prelude.{◌≡◌, ℕ, Bool, List, [], ◌∷◌, Option, Some, None, if◌then◌else◌}
use Rattle.std.specs.Option.{option_map, option_and_then, is_some}
use Rattle.std.specs.List.{list_any, flat_map}
use Rattle.std.specs.Borrow.{Bor}
use Rattle.std.specs.Str.{bytes_eq}
use Rattle.mmtext.specs.Words.{Word}
use Rattle.mmsyntax.specs.Tables.{place_of}
use Rattle.source.specs.Scopes.{Hypothesis, typing, premise, Assertion}
use Rattle.taking.specs.Names.{is_symbol_of}
use Rattle.source.specs.Views.{has}
use Rattle.sites.specs.Indexes.{looks_up}
use Rattle.sites.specs.declared.used.Used.{Used}

-- the type and the variable that are noted for a label of a $f
abbrev pub noted : Used → Word → Option (Word × Word)
noted used label = option_map (λ p. (p.0.now, p.1.now)) (looks_up used.floats label)

abbrev pub is_noted : Used → Word → Bool
is_noted used label = is_some (looks_up used.floats label)

-- the type and the variable of the last $f with a label, if there is one, and else what was noted before
abbrev pub typed_by : Word → Option (Word × Word) → Hypothesis → Option (Word × Word)
typed_by w before (typing label c v) = if bytes_eq w label then Some (c, v) else before
typed_by w before (premise label ws) = before

abbrev pub typed : Word → Option (Word × Word) → List Hypothesis → Option (Word × Word)
typed w before [] = before
typed w before (h ∷ hs) = typed w (typed_by w before h) hs

-- what assertions use: their symbols, and their active $f
pub record Uses (used : Used) (taken : List Assertion) : Type 0 where
  pub used_symbols : (w : Word) → has used.symbols w ≡ list_any (is_symbol_of w) taken
  pub used_floats : (w : Word) → noted used w ≡ typed w None (flat_map (λ x. x.active) taken)

-- the place of the type that is noted for a label, and the variable
abbrev pub type_at : (Word → Option (Word × Word)) → List Word → Word → Option ℕ
type_at look constants label = option_and_then (λ p. place_of (bytes_eq p.0) constants) (look label)

abbrev pub variable_at : (Word → Option (Word × Word)) → Word → Option Word
variable_at look label = option_map (λ p. p.1) (look label)
