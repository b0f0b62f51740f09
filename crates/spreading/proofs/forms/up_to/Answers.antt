-- What is left to show of `up_to`.
use Rattle.std.proofs.Common.{sym}
use Rattle.spreading.proofs.Counted.{up_to_found, up_to_none}
use Rattle.spreading.proofs.forms.up_to.Goals as goal

pub returns-in-Some : goal.returns-in-Some
returns-in-Some c = up_to_found c.args.last.now c.args.words.now c.in-Some.place (sym c.in-Some.ensures)

pub returns-in-None : goal.returns-in-None
returns-in-None c = up_to_none c.args.last.now c.args.words.now (sym c.in-None.ensures)
