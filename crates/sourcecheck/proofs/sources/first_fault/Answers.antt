-- What is left to show of `first_fault`.
use Rattle.std.proofs.Common.{◌≤◌, List, length, sym, subst, arith}
use Rattle.sourceframes.specs.declared.frame.Frame.{Frame}
use Rattle.sourcecheck.specs.Checkers.{Knows}
use Rattle.sourcecheck.proofs.sources.first_fault.Goals as goal

pub check_shared-requires-clause-knows : goal.check_shared-requires-clause-knows
check_shared-requires-clause-knows g c κs within =
    let xs = c.args.declared.now.stand.scope.assertions in
    let fs : List Frame = c.in_ok-frames.frames.items in
    let many = c.in_ok-frames.ensures.many in
    let few : length xs ≤ length fs = omega (arith, many) in
    subst (λ (fs : List Frame). Knows xs fs c.frames_of.new.table) (sym c.as_slice.ensures.value)
    (record { sound = c.in_ok-frames.ensures.sound; many = few; frames = c.in_ok-frames.ensures.made })
