-- What the loop of `put_units` keeps.
use Rattle.std.proofs.Common.{◌≡◌, ◌++◌, take}
use Rattle.std.specs.List.{flat_map}
use Rattle.mmsyntax.specs.Layout.{assertion_text}
use Rattle.mmwriter.proofs.writing.put_units.Given as goal

abbrev pub invariant-loop-assertion : goal.invariant-loop-assertion
invariant-loop-assertion l = l.out.items ≡ l.fn.out.items ++ flat_map (assertion_text l.prelude) (take l.assertion-index l.assertions)
