-- What is left to show of `fresh_name`.
use Rattle.std.proofs.Common.{◌≡◌, ◌∙◌, sym, ap, arith, true}
use Rattle.std.specs.Prelude.{Some}
use Rattle.taking.specs.Fresh.{candidate, fresh}
use Rattle.taking.proofs.Found.{found, not_found}
use Rattle.taking.proofs.fresh.fresh_name.Goals as goal

pub returns-then-is_free : goal.returns-then-is_free
unfolding fresh
returns-then-is_free g c =
    let l = c.loop-number in
    let free = g.N.FreeNames.is_free c.args.names.now in
    let below = c.loop-number-test.true in
    let passes : free (candidate c.args.word.now l.number) ≡ true =
    ap free (sym (c.as_slice.ensures ∙ c.in_ok-name.ensures)) ∙ sym c.is_free.ensures ∙ c.if-is_free.true in
    ap (λ x. Some x) c.in_ok-name.ensures
    ∙ sym (found free (candidate c.args.word.now) 0 1000 l.number (omega arith) (omega arith) (λ j p q. l.invariant j q) passes)

pub returns : goal.returns
unfolding fresh
returns g c =
    let l = c.loop-number in
    let free = g.N.FreeNames.is_free c.args.names.now in
    let all = c.loop-number-test.false in
    sym (not_found free (candidate c.args.word.now) 0 1000 (λ j p q. l.invariant j (omega arith)))
