-- The prelude as three lists, and what a word names in it (Metamath book, section 4.1.3).
use Rattle.std.specs.Prelude.{ℕ, suc, Bool, List, [], ◌∷◌, Option, Some, None, ◌==◌, if◌then◌else◌}
use Rattle.std.specs.Option.{option_map}
use Rattle.std.specs.Str.{bytes_eq}
use Rattle.mmsyntax.specs.declared.statement.Float.{Float}
use Rattle.mmsyntax.specs.declared.statement.Assertion.{Assertion}
use Rattle.mmsyntax.specs.declared.symbols.Name.{Name}
use Rattle.mmsyntax.specs.declared.symbols.Name.TheVariants.{Constant, Variable, Label}

-- constants and variables in order of declaration; each $f has its label and the places of its type and variable
pub record Tables : Type 0 where
  pub constants : List (List ℕ)
  pub variables : List (List ℕ)
  pub floats : List Float

-- a database as contracts see it: its prelude, and its assertions in the order of the text
pub record Contents : Type 0 where
  pub prelude : Tables
  pub assertions : List Assertion

-- the place of the first item that passes
abbrev pub place_of : {A : Type 0} → (A → Bool) → List A → Option ℕ
place_of test [] = None
place_of test (x ∷ xs) = if test x then Some 0 else option_map (λ n. suc n) (place_of test xs)

-- the $f of the variable at a place: a variable has at most one (section 4.1.3)
abbrev pub float_of : List Float → ℕ → Option ℕ
float_of fs v = place_of (λ f. f.variable == v) fs

-- a constant comes before a variable, and that before the label of a $f; in what is declared the three never meet (section 4.1.3)
abbrev pub named : List Float → Option ℕ → Option ℕ → Option ℕ → Option Name
named fs (Some i) v l = Some (Constant i)
named fs None (Some i) l = Some (Variable i (float_of fs i))
named fs None None l = option_map (λ j. Label j) l

-- what a word names: a symbol or a label that is declared
unfoldable pub meaning : Tables → List ℕ → Option Name
meaning t w =
    let c = place_of (bytes_eq w) t.constants in
    let v = place_of (bytes_eq w) t.variables in
    let l = place_of (λ f. bytes_eq w f.label) t.floats in
    named t.floats c v l
