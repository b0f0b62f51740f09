use Rattle.taketext.proofs.Printed.{printed_tells}
use Rattle.taketext.proofs.laws.printed_tells.Goals as goal

pub returns : goal.returns
returns c = printed_tells
