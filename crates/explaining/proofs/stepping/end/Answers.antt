-- What is left to show of `end`.
use Rattle.std.proofs.Common.{◌≡◌, length, true, false, sym, ap, ◌∙◌, arith}
use Rattle.source.specs.Views.{seen_words}
use Rattle.verifying.specs.Citations.{same_expression}
use Rattle.explaining.specs.Shown.{seen_assertion}
use Rattle.explaining.proofs.Lists.{last_alone}
use Rattle.explaining.proofs.Stepped.{same_end, other_end}
use Rattle.explaining.proofs.stepping.end.Goals as goal

pub returns-then-same_expression : goal.returns-then-same_expression
returns-then-same_expression c = λ earlier steps all.
    let s = c.args.stack.now in
    let found = c.in-Some.found in
    let one : length s.entries.items ≡ 1 = omega arith in
    let same : same_expression (seen_words found.items) (seen_words c.args.theorem.now.statement.items) ≡ true =
    ap (λ ws. same_expression (seen_words ws) (seen_words c.args.theorem.now.statement.items)) (sym c.as_slice.ensures.value)
    ∙ ap (λ ws. same_expression (seen_words c.as_slice.result.now) (seen_words ws)) (sym c.as_slice-2.ensures.value)
    ∙ sym c.same_expression.ensures ∙ c.if-same_expression.true in
    same_end earlier (seen_assertion c.args.theorem.now) steps s c.args.step all found
    (last_alone s.entries.items c.pop.new.self.items found c.in-Some.ensures.items one) same

pub returns : goal.returns
returns c = λ earlier steps all.
    let s = c.args.stack.now in
    let found = c.in-Some.found in
    let one : length s.entries.items ≡ 1 = omega arith in
    let other : same_expression (seen_words found.items) (seen_words c.args.theorem.now.statement.items) ≡ false =
    ap (λ ws. same_expression (seen_words ws) (seen_words c.args.theorem.now.statement.items)) (sym c.as_slice.ensures.value)
    ∙ ap (λ ws. same_expression (seen_words c.as_slice.result.now) (seen_words ws)) (sym c.as_slice-2.ensures.value)
    ∙ sym c.same_expression.ensures ∙ c.if-same_expression.false in
    other_end earlier (seen_assertion c.args.theorem.now) steps s c.args.step all found
    (last_alone s.entries.items c.pop.new.self.items found c.in-Some.ensures.items one) c.in_ok-wanted.wanted other
    (ap seen_words (c.in_ok-wanted.ensures.items ∙ c.as_slice-3.ensures.value))
