-- What is left to show of `next_said`.
use Rattle.std.proofs.Common.{◌≡◌, ◌∙◌, true, false, codes, rules, arith}
use mathlib.Core.Bool.{not}
use Rattle.std.specs.Str.{bytes_eq}
use Rattle.mmtext.specs.Views.{seen}
use Rattle.items.specs.Items.{words}
use Rattle.arranging.proofs.Said.{first_word, still_inside, opens_comment, is_said}
use Rattle.arranging.proofs.sections.next_said.Goals as goal

pub loop-at-preserved-then-is_inside : goal.loop-at-preserved-then-is_inside
loop-at-preserved-then-is_inside c =
    let next = c.in_ok-token.ensures in
    let so_far = c.loop-at.invariant.so_far in
    let w = c.in_ok-token.token.text.now in
    let now : c.ne-is_inside.result ≡ not (bytes_eq w (codes "$)")) = search rules in
    record {
      within = next.within;
      so_far = omega (arith, next.later, so_far);
      left = λ x h.
          let l = c.loop-at.invariant.left x h in
          let f = first_word c.args.text.now c.loop-at.at c.args.end l.0 (seen c.in_ok-token.token) _ l.1 c.loop-at-test.true next.some in
          (f.0, f.1, l.2 ∙ still_inside c.loop-at.is_inside (words l.0) w (words f.0) f.2 c.ne-is_inside.result c.if-is_inside.true now);
    }

pub loop-at-preserved : goal.loop-at-preserved
loop-at-preserved c =
    let next = c.in_ok-token.ensures in
    let so_far = c.loop-at.invariant.so_far in
    let w = c.in_ok-token.token.text.now in
    let opens : bytes_eq w (codes "$(") ≡ true = search rules in
    record {
      within = next.within;
      so_far = omega (arith, next.later, so_far);
      left = λ x h.
          let l = c.loop-at.invariant.left x h in
          let f = first_word c.args.text.now c.loop-at.at c.args.end l.0 (seen c.in_ok-token.token) _ l.1 c.loop-at-test.true next.some in
          (f.0, f.1, l.2 ∙ opens_comment c.loop-at.is_inside (words l.0) w (words f.0) f.2 c.if-is_inside.false opens);
    }

pub returns-else-eq-clause-said : goal.returns-else-eq-clause-said
returns-else-eq-clause-said c = λ x h.
    let next = c.in_ok-token.ensures in
    let w = c.in_ok-token.token.text.now in
    let stays : bytes_eq w (codes "$(") ≡ false = search rules in
    let l = c.loop-at.invariant.left x h in
    let f = first_word c.args.text.now c.loop-at.at c.args.end l.0 (seen c.in_ok-token.token) _ l.1 c.loop-at-test.true next.some in
    (f.0, f.1, l.2 ∙ is_said c.loop-at.is_inside (words l.0) w (words f.0) f.2 c.if-is_inside.false stays)
