-- The assertions of a library as they are looked at, for every state that may be under the run.
use Rattle.std.specs.Prelude.{List, IsPermutation}
use Rattle.library.specs.declared.library.Ranked.{Ranked}
use Rattle.cells.specs.Sight.{Sight}
use Rattle.cells.specs.Lookups.{ForEach}

-- all assertions with their ranks, in whatever order
abbrev pub AreEntries : {O : Type 0} → Sight O → List Ranked → Type 0
AreEntries s made = ForEach s (λ st lib. IsPermutation lib made)
