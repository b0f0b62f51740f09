-- What is left to show of `end_of_front`.
use Rattle.std.proofs.Common.{◌≡◌, ◌≤◌, true, false, codes, rules, arith}
use Rattle.std.specs.Str.{bytes_eq}
use Rattle.mmtext.specs.Views.{seen}
use Rattle.items.specs.Reading.{IsFirst}
use Rattle.items.specs.Bare.{has_proof}
use Rattle.items.proofs.Bare.{bare_over, bare_open, bare_behind, anyway}
use Rattle.items.proofs.Passed.{nothing_passed, comment_passed, word_passed, front_ends}
use Rattle.items.proofs.writing.end_of_front.Goals as goal

pub loop-token-init : goal.loop-token-init
loop-token-init c = record {
  within = c.requires;
  so_far = omega arith;
  passed = nothing_passed (λ w. bytes_eq w (codes "$=")) c.args.text.now c.args.from;
}

pub loop-token-preserved-then-eq : goal.loop-token-preserved-then-eq
loop-token-preserved-then-eq c =
    let text = c.args.text.now in
    let next = c.in-Some.ensures in
    let t = seen c.in-Some.token in
    let is : IsFirst text c.loop-token.at t = record { next = next.some; later = next.later; within = next.within } in
    let opens : t.text ≡ codes "$(" = search rules in
    let so_far = c.loop-token.invariant.so_far in
    let end = c.in_ok-at.ensures in
    record {
      within = end.within;
      so_far = omega (arith, next.later, so_far, end.later);
      passed =
          comment_passed (λ w. bytes_eq w (codes "$=")) text c.args.from c.loop-token.at t c.loop-token.invariant.passed is c.in_ok-at.at opens
          end.comment;
    }

pub returns-then-eq-2-clause-front : goal.returns-then-eq-2-clause-front
returns-then-eq-2-clause-front c =
    let text = c.args.text.now in
    let next = c.in-Some.ensures in
    let t = seen c.in-Some.token in
    let is : IsFirst text c.loop-token.at t = record { next = next.some; later = next.later; within = next.within } in
    let opens : bytes_eq t.text (codes "$(") ≡ false = search rules in
    let ends : t.text ≡ codes "$=" = search rules in
    front_ends text c.args.from c.loop-token.at t c.loop-token.invariant.passed is opens ends

pub loop-token-preserved : goal.loop-token-preserved
loop-token-preserved c =
    let text = c.args.text.now in
    let next = c.in-Some.ensures in
    let t = seen c.in-Some.token in
    let is : IsFirst text c.loop-token.at t = record { next = next.some; later = next.later; within = next.within } in
    let opens : bytes_eq t.text (codes "$(") ≡ false = search rules in
    let other : bytes_eq t.text (codes "$=") ≡ false = search rules in
    let so_far = c.loop-token.invariant.so_far in
    record {
      within = next.within;
      so_far = omega (arith, next.later, so_far);
      passed = word_passed (λ w. bytes_eq w (codes "$=")) text c.args.from c.loop-token.at t c.loop-token.invariant.passed is opens other;
    }

pub returns-in_err-at-clause-bare : goal.returns-in_err-at-clause-bare
returns-in_err-at-clause-bare c = λ x end stands is.
    let text = c.args.text.now in
    let next = c.in-Some.ensures in
    let t = seen c.in-Some.token in
    let first : IsFirst text c.loop-token.at t = record { next = next.some; later = next.later; within = next.within } in
    let opens : bytes_eq t.text (codes "$(") ≡ true = search rules in
    anyway c.from_residual.result (has_proof x ≡ false) (λ front. end ≤ front)
    (bare_open text c.args.from c.loop-token.at end x c.loop-token.invariant.passed stands is t first opens
    (λ y left closed. let made = c.in_err-at.ensures.closed y end left closed in cc))

pub returns-then-eq-2-clause-bare : goal.returns-then-eq-2-clause-bare
returns-then-eq-2-clause-bare c = λ x end stands is le.
    let text = c.args.text.now in
    let next = c.in-Some.ensures in
    let t = seen c.in-Some.token in
    let first : IsFirst text c.loop-token.at t = record { next = next.some; later = next.later; within = next.within } in
    let proves : t.text ≡ codes "$=" = search rules in
    bare_behind text c.args.from c.loop-token.at end x c.loop-token.invariant.passed stands is t first proves le

pub returns-clause-bare : goal.returns-clause-bare
returns-clause-bare c = λ x end stands is.
    bare_over c.args.text.now c.args.from c.loop-token.at end x c.loop-token.invariant.passed stands c.in_default.ensures.none
