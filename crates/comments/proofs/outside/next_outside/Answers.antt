-- What is left to show of `next_outside`.
use Rattle.std.proofs.Common.{◌≡◌, ◌+◌, ◌≤◌, ◌∙◌, ◌++◌, true, false, length, codes, ap, rules, arith}
use Rattle.std.specs.Str.{bytes_eq}
use Rattle.mmtext.specs.Views.{seen}
use Rattle.comments.specs.Outside.{tokens_at}
use Rattle.comments.proofs.Opened.{none_passed, passed_more}
use Rattle.comments.proofs.outside.next_outside.Goals as goal

pub loop-token-init : goal.loop-token-init
loop-token-init c = record {
  within = omega (arith, c.requires);
  later = omega arith;
  passed = none_passed (tokens_at c.args.text.now c.args.from);
}

pub next_token-requires : goal.next_token-requires
next_token-requires c = c.loop-token.invariant.within

pub end_of_comment-requires : goal.end_of_comment-requires
end_of_comment-requires c = c.in-Some.ensures.within

pub returns-then-ne-clause-next : goal.returns-then-ne-clause-next
returns-then-ne-clause-next c =
    let passed = c.loop-token.invariant.passed in
    let other : bytes_eq c.in-Some.token.text.now (codes "$(") ≡ false = search rules in record {
      skipped = passed.skipped;
      stands = passed.stands ∙ ap (λ ts. passed.skipped ++ ts) c.in-Some.ensures.some;
      closed = passed.closed;
      nothing = passed.nothing;
      opens_none = other;
    }

pub returns-then-ne-clause-later : goal.returns-then-ne-clause-later
returns-then-ne-clause-later c = omega (arith, c.loop-token.invariant.later, c.in-Some.ensures.later)

pub returns-then-ne-clause-within : goal.returns-then-ne-clause-within
returns-then-ne-clause-within c = c.in-Some.ensures.within

pub loop-token-preserved : goal.loop-token-preserved
loop-token-preserved c =
    let text = c.args.text.now in
    let from = c.args.from in
    let at = c.loop-token.at in
    let t = seen c.in-Some.token in
    let end = t.place + length t.text in
    let behind = c.in_ok-at.at in
    let next = c.in-Some.ensures in
    let closed = c.in_ok-at.ensures in
    let opens : bytes_eq t.text (codes "$(") ≡ true = search rules in
    let before : from ≤ at = c.loop-token.invariant.later in
    let later : from ≤ behind = omega (arith, next.later, closed.later) in record {
      within = closed.within;
      later = later;
      passed =
          passed_more (tokens_at text from) (tokens_at text at) (tokens_at text end)
          (tokens_at text behind) t behind c.loop-token.invariant.passed next.some opens closed.closed;
    }
