-- What is left to show of `take_number`.
use Rattle.std.proofs.Common.{◌≡◌, ◌<◌, ◌≤◌, ◌-◌, length, refl, sym, ap, subst, ◌∙◌, Some, None, arith}
use Rattle.std.specs.Prelude.{slice_get, if◌then◌else◌}
use Rattle.std.proofs.lemmas.Option.{slice_get_read}
use Rattle.verifying.specs.Verifies.{entry}
use Rattle.source.specs.Proofs.{numbered, stepped, repeat}
use Rattle.taking.proofs.Numbering.{names_label}
use Rattle.sourcecheck.specs.Written.{written_at}
use Rattle.sourcecheck.specs.Shown.{shown, Leads}
use Rattle.sourcecheck.proofs.Leading.{number_again, repeat_shown}
use Rattle.sourcecheck.proofs.stepping.take_number.Goals as goal

pub returns-then-number-named : goal.returns-then-number-named
returns-then-number-named c = λ name earlier x labels stands named.
    let ns = c.args.named.now in
    let k = c.args.number in
    let n = c.index-named-number.result in
    let there = slice_get_read ns _ k n refl c.if-number-named.true c.index-named-number.is in
    let lt : k < length labels = omega (arith, named.long, c.if-number-named.true) in
    subst (λ step. Leads name earlier x step c.args.stack.now c.take_label.new.stack c.take_label.result)
    (sym (names_label labels k lt)) (c.take_label.ensures name earlier x _ stands (named.named k n there))

pub returns-in-Ok-true : goal.returns-in-Ok-true
returns-in-Ok-true c = λ name earlier x labels stands named.
    let old = c.args.stack.now.stack in
    let new = c.repeat.new.self in
    let k = c.args.number in
    let le : length labels ≤ k = omega (arith, named.long, c.if-number-named.false) in
    let there = c.in-Ok-true.ensures.stack ∙ ap (λ b. if b then Some new.stack else None) c.in-Ok-true.field-0-test in
    let again = number_again labels k le in
    record {
      leads = ap (stepped (entry earlier x) earlier x.active (shown name old)) again
          ∙ repeat_shown name earlier x old _ _ (ap (λ m. repeat old (slice_get old.marked (k - m))) named.long ∙ there);
      written =
          let none : written_at (numbered labels k) (Some (shown name new.stack)) ≡ 0 =
          ap (λ step. written_at step (Some (shown name new.stack))) again in
          omega (arith, none, c.repeat.ensures.written);
    }

pub returns-in-Ok-false : goal.returns-in-Ok-false
returns-in-Ok-false c = λ name earlier x labels stands named.
    let old = c.args.stack.now.stack in
    let k = c.args.number in
    let le : length labels ≤ k = omega (arith, named.long, c.if-number-named.false) in
    let there = c.in-Ok-false.ensures.stack ∙ ap (λ b. if b then Some c.repeat.new.self.stack else None) c.in-Ok-false.field-0-test in
    ap (stepped (entry earlier x) earlier x.active (shown name old)) (number_again labels k le)
    ∙ repeat_shown name earlier x old _ _ (ap (λ m. repeat old (slice_get old.marked (k - m))) named.long ∙ there)
