-- What is left to show of `take_symbol`.
use Rattle.std.proofs.Common.{refl}
use Rattle.sourcereader.proofs.Marked.{symbol_marked}
use Rattle.sourcereader.proofs.words.take_symbol.Goals as goal

pub returns-clause-marks : goal.returns-clause-marks
returns-clause-marks g c = λ marks.
    let stand = g.S.Standing.stand c.args.standing.now in
    symbol_marked stand stand (g.S.Standing.marks c.args.standing.now) (g.S.Standing.marks c.symbol_fault.new.self) c.args.words.now.items
    c.deref.result.now c.push.new.self.items c.args.token.text c.deref.ensures.value c.in_ok-push.ensures.items refl
    c.symbol_fault.ensures.marks marks
