-- Of the code's inside, apart from the rules: what is put into a source, with its numbers among the library's assertions.
use Rattle.std.specs.Prelude.{◌≡◌, ◌<◌, ℕ, length, All, IfSome}
use Rattle.sourceediting.specs.declared.filling.Filling.{Filling}
use Rattle.sourceediting.specs.declared.filling.Puts.{Puts}

-- of each that is put in there is a number, below a count
pub record ArePuts (count : ℕ) (p : Puts) : Type 0 where
  pub many : length p.numbers.items ≡ length p.comings.items
  pub each : All (λ n. n < count) p.numbers.items

-- so it is behind so many, and of the last that was put in farther behind
pub record IsFilledTo (count : ℕ) (f : Filling) : Type 0 where
  pub many : length f.numbers.items ≡ length f.comings.items
  pub each : All (λ n. n < count) f.numbers.items
  pub held : IfSome f.held (λ h. (h.number < count) × (h.coming < length f.comings.items))
