-- What the loop of `database_lines` keeps.
use Rattle.std.proofs.Common.{◌≡◌, take}
use Rattle.std.specs.List.{flat_map}
use Rattle.mmsyntax.specs.Layout.{assertion_text}
use Rattle.secondlook.proofs.edited.database_lines.Given as goal

-- the lines so far
abbrev pub invariant-loop-assertion : goal.invariant-loop-assertion
invariant-loop-assertion l = l.lines.items ≡ flat_map (assertion_text l.database.prelude) (take l.assertion-index l.assertions)
