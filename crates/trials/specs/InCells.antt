-- Which libraries plain cells show.
use Rattle.plaincells.specs.declared.plain.PlainCells.{PlainCells}
use Rattle.plaincells.specs.Plain.{ShowsSome}
use Rattle.plaincells.specs.PlainViews.{cells_setting}

-- they show some library that verifies
abbrev pub ShowsSomeNow : PlainCells → Type 0
ShowsSomeNow c = ∥ ShowsSome (cells_setting c) c.values.items c.store.items c.ranges.items ∥₁
