-- What a command line asks to verify, by what its parser found in the words.
use Rattle.std.specs.Prelude.{◌≡◌, ◌≤◌, ℕ, List, Option, Some, None, IfSome, codes}
use Rattle.clap.specs.Words.{Row, Text, first_of, one_of}
use Rattle.commandline.specs.Orders.{IsNumberIfGiven}

-- how many check beside one another, where that is given: 1 to 64
pub record HasCheckers (rows : List Row) (workers : Option ℕ) : Type 0 where
  pub given : IsNumberIfGiven (one_of (codes "workers") rows) workers
  pub within : IfSome workers (λ n. (1 ≤ n) × (n ≤ 64))

-- the subcommand `verify`, with a source, and with so many who check, if that is given
pub record IsVerifyOf (name : Text) (rows : List Row) (path : Text) (workers : Option ℕ) : Type 0 where
  pub named : name ≡ codes "verify"
  pub source_given : first_of (codes "SOURCE") rows ≡ Some path
  pub checkers : HasCheckers rows workers

abbrev pub AsksToVerify : Option (Text × List Row) → Text → Option ℕ → Type 0
AsksToVerify (Some p) path workers = IsVerifyOf p.0 p.1 path workers
AsksToVerify None path workers = ⊥
