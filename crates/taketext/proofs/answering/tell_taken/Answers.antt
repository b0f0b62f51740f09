-- What is left to show of `tell_taken`: what is too long is so, and what is printed spells the library.
use Rattle.std.proofs.Common.{◌∙◌, ◌<◌, ◌≤◌, ℕ, List, ap, arith, inr, length, subst, sym}
use Rattle.mmsyntax.specs.Grammar.{Spells}
use Rattle.taketext.specs.Answers.{taken_text}
use Rattle.taketext.specs.Refusals.{long_line}
use Rattle.taketext.proofs.Whole.{whole_spelled}
use Rattle.taketext.proofs.answering.tell_taken.Goals as goal

pub returns-then-count-gt-MOST_BYTES : goal.returns-then-count-gt-MOST_BYTES
returns-then-count-gt-MOST_BYTES c =
    let whole = c.in_ok-out.ensures
    ∙ ap (λ p. taken_text p c.args.source.now c.args.wish c.args.taken.now) c.as_bytes.ensures.value in
    let many = ap length (c.as_slice-count.ensures.value ∙ whole) in
    inr (
      c.args.taken.now,
      c.requires,
      c.in_ok-long_line.ensures ∙ ap (long_line c.args.path.now) many,
      subst (λ (n : ℕ). 16777216 < n) many c.if-count-gt-MOST_BYTES.true,
    )

pub returns : goal.returns
returns c =
    let whole = c.in_ok-out.ensures
    ∙ ap (λ p. taken_text p c.args.source.now c.args.wish c.args.taken.now) c.as_bytes.ensures.value in
    let spelled = whole_spelled c.args.path.now c.args.source.now c.args.wish c.args.taken.now c.requires
    c.assertions-assertions.ensures.sound in
    let length_is = ap length c.as_slice-count.ensures.value in
    let short : length c.in_ok-out.out.items ≤ 16777216 = omega (arith, length_is, c.if-count-gt-MOST_BYTES.false) in record {
      library = c.args.taken.now;
      taken = c.requires;
      text = whole;
      spelled = subst (λ (bytes : List ℕ). Spells bytes c.args.taken.now.database) (sym whole) spelled;
      short = short;
    }
