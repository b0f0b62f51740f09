-- What is left to show of `next_token`.
use Rattle.std.proofs.Common.{◌≡◌, ◌<◌, ◌≤◌, ◌∙◌, sym, true, length, get_or, arith}
use Rattle.mmtext.specs.Text.{is_white}
use Rattle.mmtext.proofs.Tokens.{passes_white, takes_word, length-part, nothing_at}
use Rattle.mmtext.proofs.token.next_token.Goals as goal
use Rattle.mmtext.proofs.token.next_token.Goals.{then-loop-end-test+else-not-is_white_byte, else-loop-end-test}

pub loop-start-preserved : goal.loop-start-preserved
loop-start-preserved c = record {
  behind = let h : c.args.from ≤ c.loop-start.start = c.loop-start.invariant.behind in omega arith;
  within = omega arith;
  same = passes_white c.args.text.now c.args.from c.loop-start.start c.loop-start-test.true
      (sym c.is_white_byte.ensures ∙ c.if-is_white_byte.true) c.loop-start.invariant.same;
}

pub returns-then-start-text-clause-none : goal.returns-then-start-text-clause-none
returns-then-start-text-clause-none c = nothing_at c.args.text.now c.args.from c.loop-start.start (omega arith) c.loop-start.invariant.same

pub returns-clause-some : goal.returns-clause-some
returns-clause-some c =
    let v = c.loop-end.invariant in
    let lt : c.loop-start.start < c.loop-end.end = v.behind in
    let le : c.loop-end.end ≤ length c.args.text.now = v.within in
    let white : c.loop-end.end < length c.args.text.now → is_white (get_or c.args.text.now c.loop-end.end 0) ≡ true =
    λ h. elim c.loop-end-test.branch [
      | then-loop-end-test+else-not-is_white_byte w ↦ sym w.is_white_byte-in-loop-end.ensures ∙ w.if-not-is_white_byte.false
      | else-loop-end-test w ↦ absurd (let k : length c.args.text.now ≤ c.loop-end.end = w.loop-end-test.false in omega arith)
    ] in
    takes_word c.args.text.now c.args.from c.loop-start.start c.loop-end.end _ lt le v.printable white c.loop-start.invariant.same
    (length-part c.args.text.now c.loop-start.start c.loop-end.end (omega arith) le)
