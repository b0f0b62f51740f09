-- What is left to show of `end_of_comment`.
use Rattle.std.proofs.Common.{◌≡◌, ◌+◌, ◌≤◌, true, false, [], length, codes, rules, arith}
use Rattle.std.specs.Str.{bytes_eq}
use Rattle.mmtext.specs.Views.{seen}
use Rattle.comments.specs.Outside.{tokens_at}
use Rattle.comments.proofs.Passed.{nothing_passed, passes_word, ends_comment}
use Rattle.comments.proofs.passing.end_of_comment.Goals as goal

pub loop-token-init : goal.loop-token-init
loop-token-init c = record {
  within = omega (arith, c.requires);
  later = omega arith;
  passing = nothing_passed true (tokens_at c.args.text.now c.args.from) c.args.from;
}

pub loop-token-preserved : goal.loop-token-preserved
loop-token-preserved c =
    let text = c.args.text.now in
    let from = c.args.from in
    let at = c.loop-token.at in
    let t = seen c.in-Some.token in
    let end = t.place + length t.text in
    let next = c.in-Some.ensures in
    let other : bytes_eq t.text (codes "$)") ≡ false = search rules in
    let le : at ≤ end = omega (arith, next.later) in
    let before : from ≤ at = c.loop-token.invariant.later in record {
      within = next.within;
      later = omega arith;
      passing =
          passes_word (tokens_at text from) (tokens_at text at) (tokens_at text end) at t le next.some
          other c.loop-token.invariant.passing;
    }

pub returns-then-eq-clause-closed : goal.returns-then-eq-clause-closed
returns-then-eq-clause-closed c =
    let text = c.args.text.now in
    let from = c.args.from in
    let at = c.loop-token.at in
    let t = seen c.in-Some.token in
    let end = t.place + length t.text in
    let next = c.in-Some.ensures in
    let is : bytes_eq t.text (codes "$)") ≡ true = search rules in
    let le : at ≤ end = omega (arith, next.later) in
    ends_comment true [] (tokens_at text from) (tokens_at text at) (tokens_at text end) at t le next.some
    c.loop-token.invariant.passing is
