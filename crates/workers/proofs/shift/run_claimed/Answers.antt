-- What is left to show of `run_claimed`.
use Rattle.std.proofs.Common.{◌++◌, ◌∷◌, [], List, ℕ, map, refl, sym, ap, subst, ◌∙◌, append-nil, arith}
use Rattle.std.specs.List.Sorted.{IsStrictlyIncreasing}
use Rattle.std.specs.Prelude.{Result, Ok, Err, OnErr}
use Rattle.claims.proofs.Claiming.{claim_nears}
use Rattle.transaction.specs.Members.{Member}
use Rattle.workers.specs.declared.shift.Row.{Row}
use Rattle.workers.specs.declared.shift.Shift.{Shift}
use Rattle.workers.specs.Shifts.{RunsAll}
use Rattle.workers.proofs.Steps.{shift_ends, runs_next, scripts_next, claims_on, claimed_next, rising_next, same_table, same_count}
use Rattle.workers.proofs.shift.run_claimed.Goals as goal

pub loop-script-smaller : goal.loop-script-smaller
loop-script-smaller g c =
    claim_nears c.args.shop.numbers.now c.in-Some.script c.loop-script.shift.claimant c.claim.new.self c.in-Some.ensures.some

pub loop-script-preserved : goal.loop-script-preserved
loop-script-preserved g c =
    let i = c.loop-script.invariant in
    let claims = c.in-Some.ensures.some in
    let home = c.args.shop.numbers.now in
    let scripts = c.args.shop.scripts.now in
    let n = c.in-Some.script in
    let was : Shift = c.loop-script.shift in
    let first : Shift = c.args.shift.now in
    let new = c.claim.new.self in
    let session = c.run_script-ran.new.session in
    let after = c.run_script-ran.new.rows.items in
    let own = map (λ (row : Row). row.script) was.rows.items in
    let ran = c.in_ok-ran.ensures.ok in
    let next = scripts_next scripts n was.session session was.rows.items after ran in
    record {
      own = c.run_script-ran.ensures.own;
      claims = claims_on home n was.claimant new claims i.claims;
      runs = runs_next scripts n first.session was.session session was.rows.items after i.runs ran;
      table = same_table home n was.claimant new claims ∙ i.table;
      count = same_count home n was.claimant new claims ∙ i.count;
      claimed =
          claimed_next home n was.claimant new claims first.claimant.claimed own i.claimed
          ∙ ap (λ (ns : List ℕ). first.claimant.claimed ++ ns) (sym next);
      rises =
          subst IsStrictlyIncreasing (sym next)
          (rising_next home n was.claimant new claims first.claimant.claimed own i.claimed i.rises);
    }

pub loop-script-init : goal.loop-script-init
loop-script-init g c =
    let none = c.requires.none in
    record {
      own = c.requires.own;
      claims = c.requires.claims;
      runs = rw none refl;
      table = refl;
      count = refl;
      claimed = rw none (sym (append-nil c.args.shift.now.claimant.claimed));
      rises = rw none (λ k lt. absurd (omega arith));
    }

on_err : {A E P : Type 0} (r : Result A E) → P → OnErr r P
on_err (Ok a) p = tt
on_err (Err e) p = p

pub returns-in_err-ran-clause-lack : goal.returns-in_err-ran-clause-lack
returns-in_err-ran-clause-lack g c =
    let i = c.loop-script.invariant in
    let scripts = c.args.shop.scripts.now in
    let n = c.in-Some.script in
    let was : Shift = c.loop-script.shift in
    let first : Shift = c.args.shift.now in
    let new = c.claim.new.self in
    let script = λ (row : Row). row.script in
    let lack = c.in_err-ran.ensures.lack in
    let claimed = claimed_next c.args.shop.numbers.now n was.claimant new c.in-Some.ensures.some first.claimant.claimed
    (map script was.rows.items) i.claimed in
    on_err c.from_residual.result (record {
      runs = subst (λ (m : Member). RunsAll scripts first.session m c.run_script-ran.new.rows.items) (sym {A = Member} lack.0)
          (subst (RunsAll scripts first.session was.session) (sym {A = List Row} lack.1) i.runs);
      left = n;
      claimed = claimed ∙ ap (λ (rows : List Row). first.claimant.claimed ++ (map script rows ++ n ∷ [])) (sym {A = List Row} lack.1);
    })

pub returns-clause-done : goal.returns-clause-done
returns-clause-done g c =
    let i = c.loop-script.invariant in
    let was : Shift = c.loop-script.shift in
    let first : Shift = c.args.shift.now in
    shift_ends c.args.shop.scripts.now first.session was.session first.claimant was.claimant c.claim.new.self was.rows.items i.runs
    c.records.ensures.stands i.table i.count i.claimed i.rises c.in_default.ensures.none
