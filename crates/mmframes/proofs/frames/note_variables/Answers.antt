use Rattle.std.proofs.Common.{ltb, ◌∙◌}
use Rattle.std.proofs.lemmas.List.{drop_all}
use Rattle.mmframes.specs.Frames.{occurs}
use Rattle.mmframes.proofs.Mandatory.{has, note_constant}
use Rattle.mmframes.proofs.frames.note_variables.Goals as goal

pub returns : goal.returns
unfolding occurs
returns c = λ j.
    let none = drop_all c.loop-symbol.symbol-index c.args.symbols.now c.loop-symbol-test.false in
    note_constant (has j c.loop-symbol.found.items) (ltb j c.args.count) ∙ rw none at (c.loop-symbol.invariant j)
