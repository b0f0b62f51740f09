-- What words are where hypotheses are active.
use Rattle.std.specs.Prelude.{◌≡◌, ℕ, List, Option, find}
use Rattle.std.specs.Option.{option_map, option_and_then}
use Rattle.std.specs.Borrow.{Bor}
use Rattle.std.specs.Str.{bytes_eq}
use Rattle.std.specs.HashMap.{HashMap}
use Rattle.std.specs.declared.random_state.RandomState.{RandomState}
use Rattle.mmtext.specs.Words.{Word}
use Rattle.mmsyntax.specs.Tables.{place_of}
use Rattle.source.specs.Scopes.{Hypothesis, label_of, is_float_of}
use Rattle.sites.specs.Indexes.{looks_up}

-- the constants and the $f that have places, and the active hypotheses
pub record Placed : Type 0 where
  pub constants : List Word
  pub floats : List Word
  pub active : List Hypothesis

-- the place of the active $f of a variable
abbrev pub float_at : Placed → Word → Option ℕ
float_at p w = option_and_then (λ h. place_of (bytes_eq (label_of h)) p.floats) (find (is_float_of w) p.active)

-- of the code's inside: a map finds it
abbrev pub FindsFloats : HashMap (Bor (List ℕ)) (Option ℕ) RandomState → List Word → List Hypothesis → Type 0
FindsFloats m floats active =
    (w : Word) → looks_up m w ≡ option_map (λ h. place_of (bytes_eq (label_of h)) floats) (find (is_float_of w) active)
