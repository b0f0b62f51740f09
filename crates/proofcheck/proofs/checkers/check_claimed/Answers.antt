use Rattle.std.proofs.Common.{not, ap, ◌∙◌}
use Rattle.claims.proofs.Claiming.{claim_nears}
use Rattle.proofcheck.proofs.Reports.{claimed_checked, claimed_behind, claimed_own}
use Rattle.proofcheck.proofs.checkers.check_claimed.Goals as goal

pub loop-place-smaller-then-is_none : goal.loop-place-smaller-then-is_none
loop-place-smaller-then-is_none c =
    claim_nears c.args.numbers.now c.in-Some.place c.loop-place.checker.claimant c.claim.new.self c.in-Some.ensures.some

pub loop-place-preserved-then-is_none : goal.loop-place-preserved-then-is_none
loop-place-preserved-then-is_none c =
    let db = c.args.framed.now.db.now in
    let home = c.args.numbers.now in
    let old = c.loop-place.checker.claimant in
    let claims = c.in-Some.ensures.some in
    record {
      own = claimed_own db home c.in-Some.place old c.claim.new.self claims c.loop-place.invariant.own;
      found =
          claimed_checked db home c.in-Some.place old c.claim.new.self claims c.loop-place.checker.found c.found_at-checker.result
          (c.is_none.ensures ∙ ap not c.if-is_none.true) c.loop-place.invariant.found c.found_at-checker.ensures;
    }

pub loop-place-smaller : goal.loop-place-smaller
loop-place-smaller c =
    claim_nears c.args.numbers.now c.in-Some.place c.loop-place.checker.claimant c.claim.new.self c.in-Some.ensures.some

pub loop-place-preserved : goal.loop-place-preserved
loop-place-preserved c =
    let db = c.args.framed.now.db.now in
    let home = c.args.numbers.now in
    let old = c.loop-place.checker.claimant in
    let claims = c.in-Some.ensures.some in
    record {
      own = claimed_own db home c.in-Some.place old c.claim.new.self claims c.loop-place.invariant.own;
      found =
          claimed_behind db home c.in-Some.place old c.claim.new.self claims c.loop-place.checker.found
          (c.is_none.ensures ∙ ap not c.if-is_none.false) c.loop-place.invariant.found;
    }
