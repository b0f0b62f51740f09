use Rattle.cells.proofs.Bodies.{named_known}
use Rattle.cells.proofs.words.range_of.Goals as goal

pub returns-clause-known : goal.returns-clause-known
returns-clause-known g c =
    let x = c.args.cells.now in
    named_known (g.C.Cells.sight x) (g.met.C.Cells.grounded x) c.args.word c.named.result c.requires.some c.requires.named
    c.named.ensures.start c.named.ensures.len
