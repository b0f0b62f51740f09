-- What is left to show of `end_of_comment`.
use Rattle.std.proofs.Common.{◌≡◌, true, false, codes, rules, arith}
use Rattle.std.specs.Str.{bytes_eq}
use Rattle.mmtext.specs.Views.{seen}
use Rattle.items.proofs.Bare.{comment_closed}
use Rattle.items.proofs.Divided.{comment_goes, comment_left, comment_on}
use Rattle.items.proofs.Passed.{comment_ends, comment_goes_on}
use Rattle.items.proofs.reading.end_of_comment.Goals as goal

pub returns-then-eq-clause-comment : goal.returns-then-eq-clause-comment
returns-then-eq-clause-comment c =
    let p = c.loop-token.invariant.passed in
    let next = c.in-Some.ensures in
    let is : c.in-Some.token.text.now ≡ codes "$)" = search rules in
    comment_ends c.args.text.now c.args.from c.loop-token.at p.0 (seen c.in-Some.token) p.1 p.2
    (record { next = next.some; later = next.later; within = next.within }) is

pub loop-token-preserved : goal.loop-token-preserved
loop-token-preserved c =
    let p = c.loop-token.invariant.passed in
    let next = c.in-Some.ensures in
    let no : bytes_eq c.in-Some.token.text.now (codes "$)") ≡ false = search rules in
    let so_far = c.loop-token.invariant.so_far in
    record {
      within = next.within;
      so_far = omega (arith, next.later, so_far);
      passed =
          comment_goes_on c.args.text.now c.args.from c.loop-token.at p.0 (seen c.in-Some.token) p.1 p.2
          (record { next = next.some; later = next.later; within = next.within }) no;
      outside = λ ws h.
          comment_on c.args.text.now c.loop-token.at ws (seen c.in-Some.token)
          (record { next = next.some; later = next.later; within = next.within }) (c.loop-token.invariant.outside ws h) no;
    }

pub returns-then-eq-clause-outside : goal.returns-then-eq-clause-outside
returns-then-eq-clause-outside c = λ ws h.
    let next = c.in-Some.ensures in
    let is : bytes_eq c.in-Some.token.text.now (codes "$)") ≡ true = search rules in
    comment_left c.args.text.now c.loop-token.at ws (seen c.in-Some.token)
    (record { next = next.some; later = next.later; within = next.within }) (c.loop-token.invariant.outside ws h) is

pub returns-clause-outside : goal.returns-clause-outside
returns-clause-outside c = λ ws h.
    comment_goes c.args.text.now c.loop-token.at ws (c.loop-token.invariant.outside ws h) c.in_default.ensures.none

pub returns-clause-closed : goal.returns-clause-closed
returns-clause-closed c = λ x end stands closed.
    let p = c.loop-token.invariant.passed in
    absurd (comment_closed c.args.text.now c.args.from c.loop-token.at end x p.0 p.1 p.2 c.in_default.ensures.none stands closed)
