-- What the loop of `is_among` keeps.
use Rattle.std.proofs.Common.{◌≡◌, false, take}
use Rattle.std.specs.List.{list_any}
use Rattle.std.specs.Str.{bytes_eq}
use Rattle.scopes.proofs.faults.is_among.Given as goal

abbrev pub invariant-loop-other : goal.invariant-loop-other
invariant-loop-other l = list_any (λ b. bytes_eq l.word b.now) (take l.other-index l.words) ≡ false
