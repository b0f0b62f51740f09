use Rattle.std.proofs.Common.{◌≡◌, ℕ, length, sym, subst, ◌∙◌}
use Rattle.transaction.specs.Closings.{lists_of}
use Rattle.workers.specs.Shifts.{AreCollected}
use Rattle.workers.proofs.Whole.{works, are_whole}
use Rattle.workers.proofs.working.run_scripts.Goals as goal

pub collect-requires-clause-whole : goal.collect-requires-clause-whole
collect-requires-clause-whole g c =
    let dealt = c.in_ok-numbers.ensures.sizes in
    are_whole c.in_ok-numbers.numbers c.args.scripts.now c.args.sessions.items c.in_ok-numbers.claimants.items c.in_ok-shifts.shifts.items
    c.requires.some c.in_ok-numbers.ensures.new (dealt.2 ∙ sym dealt.1) c.in_ok-shifts.ensures.shifts

pub returns-clause-worked : goal.returns-clause-worked
returns-clause-worked g c =
    let library = c.args.library.now in
    let scripts = c.args.scripts.now in
    let shifts = c.in_ok-shifts.shifts.items in
    let made = c.in_ok-collect.field-0 in
    let count : c.in_ok-numbers.numbers.count ≡ length scripts = c.in_ok-numbers.ensures.sizes.0 in
    works library c.prelude.ensures.setting scripts c.args.sessions.items c.in_ok-numbers.claimants.items shifts
    (lists_of made.outcomes.items) made.sessions.items c.requires.own c.in_ok-shifts.ensures.shifts
    (subst (λ (n : ℕ). AreCollected n shifts (lists_of made.outcomes.items) made.sessions.items) count c.in_ok-collect.ensures)
