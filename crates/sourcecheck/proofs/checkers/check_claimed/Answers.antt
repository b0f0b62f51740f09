-- What is left to show of `check_claimed`.
use Rattle.std.proofs.Common.{not, ap, sym, subst, ◌∙◌}
use Rattle.std.specs.Prelude.{Option, IfSome}
use Rattle.claims.proofs.Claiming.{claim_nears}
use Rattle.sourceframes.specs.declared.table.Table.{Table}
use Rattle.sourcecheck.specs.declared.checkers.Checker.{Checker}
use Rattle.sourcecheck.specs.Checkers.{PassesAt, FailsAt, Knows}
use Rattle.sourcecheck.proofs.Found.{claimed_passed, claimed_behind, claimed_own}
use Rattle.sourcecheck.proofs.Beside.{knows_copy, ready_own, ready_found, if_none}
use Rattle.sourcecheck.proofs.checkers.check_claimed.Goals as goal

pub loop-place-smaller-then-is_none : goal.loop-place-smaller-then-is_none
loop-place-smaller-then-is_none g c =
    claim_nears c.args.numbers.now c.in-Some.place c.loop-place.checker.claimant c.claim.new.self c.in-Some.ensures.some

pub loop-place-preserved-then-is_none : goal.loop-place-preserved-then-is_none
loop-place-preserved-then-is_none g c =
    let xs = c.args.framed.now.declared.now.stand.scope.assertions in
    let home = c.args.numbers.now in
    let old = c.loop-place.checker.claimant in
    let claims = c.in-Some.ensures.some in
    record {
      own = claimed_own (PassesAt xs) (FailsAt xs) home c.in-Some.place old c.claim.new.self claims c.loop-place.invariant.own;
      found =
          claimed_passed (PassesAt xs) (FailsAt xs) home c.in-Some.place old c.claim.new.self claims c.loop-place.checker.found
          c.found_at-checker.result
          (c.is_none.ensures ∙ ap not c.if-is_none.true) c.loop-place.invariant.found c.found_at-checker.ensures.found;
      knows = c.found_at-checker.ensures.knows;
    }

pub loop-place-smaller : goal.loop-place-smaller
loop-place-smaller g c =
    claim_nears c.args.numbers.now c.in-Some.place c.loop-place.checker.claimant c.claim.new.self c.in-Some.ensures.some

pub loop-place-preserved : goal.loop-place-preserved
loop-place-preserved g c =
    let xs = c.args.framed.now.declared.now.stand.scope.assertions in
    let home = c.args.numbers.now in
    let old = c.loop-place.checker.claimant in
    let claims = c.in-Some.ensures.some in
    record {
      own = claimed_own (PassesAt xs) (FailsAt xs) home c.in-Some.place old c.claim.new.self claims c.loop-place.invariant.own;
      found =
          claimed_behind (PassesAt xs) (FailsAt xs) home c.in-Some.place old c.claim.new.self claims c.loop-place.checker.found
          (c.is_none.ensures ∙ ap not c.if-is_none.false) c.loop-place.invariant.found;
      knows = c.loop-place.invariant.knows;
    }

pub loop-place-init : goal.loop-place-init
loop-place-init g c =
    let xs = c.args.framed.now.declared.now.stand.scope.assertions in
    let fs = c.args.framed.now.frames.now in
    let home = c.args.numbers.now in
    let checker : Checker = c.args.checker.now in
    let own : IfSome c.ok-own.result (Knows xs fs) =
    subst (λ (o : Option Table). IfSome o (Knows xs fs)) (sym c.ok-own.ensures.value)
    (knows_copy xs fs c.args.framed.now.table.now c.copy.result c.requires.knows c.copy.ensures.sound c.copy.ensures.same) in
    record {
      own = ready_own xs home checker c.requires.ready;
      found = ready_found xs home checker c.requires.ready;
      knows = if_none checker.found own;
    }
