-- What is left to show of `with_symbol`.
use Rattle.sourcereader.proofs.Marked.{symbol_marked}
use Rattle.sourcereader.proofs.rows.with_symbol.Goals as goal

pub returns-clause-marks : goal.returns-clause-marks
returns-clause-marks g c =
    symbol_marked (g.S.Standing.stand c.args.standing.now) (g.S.Standing.stand c.symbol_fault.new.self)
    (g.S.Standing.marks c.args.standing.now) (g.S.Standing.marks c.symbol_fault.new.self) c.args.expression.items c.deref.result.now
    c.push.new.self.items c.args.token.text c.deref.ensures.value c.in_ok-push.ensures.items c.symbol_fault.ensures.same
    c.symbol_fault.ensures.marks
