-- What is left to show of `raise_by`: a library has few assertions.
use Rattle.std.proofs.Common.{◌≤◌, length, ap, arith}
use Rattle.mmsyntax.specs.declared.limits.TheConstants.{MOST_ASSERTIONS}
use Rattle.mmsyntax.proofs.Declarable.{declarable}
use Rattle.standins.proofs.call.raise_by.Goals as goal

pub overflow_cast-result : goal.overflow_cast-result
overflow_cast-result c =
    let few : length c.args.opened.now.assertions ≤ MOST_ASSERTIONS = (declarable c.args.opened.now c.assertions.ensures.sound).few in
    omega (arith, few, ap length c.assertions.ensures.value)

pub overflow_mul-result : goal.overflow_mul-result
overflow_mul-result c =
    let few : length c.args.opened.now.assertions ≤ MOST_ASSERTIONS = (declarable c.args.opened.now c.assertions.ensures.sound).few in
    omega (arith, few, ap length c.assertions.ensures.value)
