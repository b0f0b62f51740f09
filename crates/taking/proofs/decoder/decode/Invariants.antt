-- What the loop of `decode` keeps: what the codes that are left do to the stack of trees is what all of them do.
use Rattle.taking.proofs.Loops.{Goes}
use Rattle.taking.proofs.decoder.decode.Given as goal

abbrev pub invariant-loop-code : goal.invariant-loop-code
invariant-loop-code l = Goes l.named l.codes l.code-index l.decoder
