-- What is left to show of `from`: another fault than want of memory is the text's.
use Rattle.std.proofs.Common.{rules, ◌≢◌}
use Rattle.mmtext.specs.declared.fault.FaultKind.TheVariants.{NoMemory as OutOfMemory}
use Rattle.verifytext.proofs.refusal.RefusalFromTextFault.from.Goals as goal

pub returns : goal.returns
returns c =
    let other : c.args.fault.kind ≢ OutOfMemory = search rules in
    λ text is. is other
