-- What the loop of `put_floats` keeps.
use Rattle.std.proofs.Common.{◌≡◌, ◌++◌, take, map}
use Rattle.std.specs.List.{flat_map}
use Rattle.mmsyntax.specs.Layout.{statement_text, float_statement}
use Rattle.mmwriter.proofs.writing.put_floats.Given as goal

abbrev pub invariant-loop-float : goal.invariant-loop-float
invariant-loop-float l = l.out.items ≡ l.fn.out.items
    ++ flat_map statement_text (map (float_statement l.prelude) (take l.float-index l.floats))
