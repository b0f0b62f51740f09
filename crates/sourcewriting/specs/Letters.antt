-- Of the code's inside, apart from the rules: which letters of a compressed proof are put behind others.
use Rattle.std.specs.Prelude.{◌≡◌, ℕ, List, ◌++◌, Some}
use Rattle.source.specs.Letters.{Decoded, decoded}

-- letters are put behind others that say just this
pub record ArePut (said : Decoded) (before after : List ℕ) : Type 0 where
  pub letters : List ℕ
  pub behind : after ≡ before ++ letters
  pub says : decoded 0 letters ≡ Some said
