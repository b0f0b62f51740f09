-- Of the code's inside, apart from the rules: the variables and the pairs of the theorem whose proof is checked, as numbers.
use Rattle.std.specs.Prelude.{◌≡◌, ℕ, Bool, ◌&&◌, ◌==◌, map}
use mathlib.Core.Bool.{not}
use Rattle.std.specs.List.{list_any, filter_map}
use Rattle.mmtext.specs.Words.{Word}
use Rattle.source.specs.Scopes.{Assertion}
use Rattle.sourceframes.specs.declared.thesis.Thesis.{Thesis}
use Rattle.sourceframes.specs.Frames.{variable_of}
use Rattle.sourceframes.specs.Pairs.{is_pair_of_numbers}

-- the numbers of a theorem's variables and pairs stand for these
pub record IsThesisOf (name : ℕ → Word) (t : Thesis) (x : Assertion) : Type 0 where
  pub floats : map name t.floats ≡ filter_map variable_of x.active
  pub pairs : map {B = Word × Word} (λ p. (name p.0, name p.1)) t.pairs ≡ x.pairs

abbrev pub is_variable_of : Thesis → ℕ → Bool
is_variable_of t n = list_any (λ v. v == n) t.floats

abbrev pub numbers_apart : Thesis → ℕ → ℕ → Bool
numbers_apart t u v = not (u == v) && list_any (is_pair_of_numbers u v) t.pairs
