-- What is left to show of `put_theorem`.
use Rattle.std.proofs.Common.{arith}
use Rattle.std.proofs.lemmas.Grind.{common_steps}
use Rattle.mmwriter.proofs.writing.put_theorem.Goals as goal

pub returns : goal.returns
returns c = grind (arith, common_steps)
