-- What is left to show of `read_letters`.
use Rattle.std.proofs.Common.{sym, ap, ◌∙◌, inl, inr}
use Rattle.std.specs.Prelude.{Some, None}
use Rattle.source.specs.Letters.{uncut}
use Rattle.source.proofs.Decoded.{following, read_on, one_on, whole, cut}
use Rattle.source.proofs.letters.read_letters.Goals as goal
use Rattle.source.proofs.letters.read_letters.Goals.{in-Some-said+in_ok-push, in_default-said}

pub returns-in_default : goal.returns-in_default
returns-in_default c =
    let l = c.loop-letter in
    sym (ap uncut (l.invariant ∙ ap (following l.codes.items)
    (read_on c.args.letters.now l.letter-index l.front None c.loop-letter-test.true (sym c.in_default.is ∙ c.take_letter.ensures))))

pub loop-letter-preserved : goal.loop-letter-preserved
loop-letter-preserved c =
    let l = c.loop-letter in
    let m = c.match-turn in
    l.invariant ∙ one_on l.codes.items m.codes.items c.in-Some.turn c.args.letters.now l.letter-index l.front m.front
    c.loop-letter-test.true (sym c.in-Some.is ∙ c.take_letter.ensures)
    (elim m.branch [ in-Some-said+in_ok-push w ↦ w.front-is | in_default-said w ↦ w.front-is ])
    (elim m.branch [
      | in-Some-said+in_ok-push w ↦ inl (w.in-Some-said.code, w.in-Some-said.is, ap (λ v. v.items) w.codes-is ∙ w.in_ok-push.ensures.items)
      | in_default-said w ↦ inr (w.in_default-said.is, ap (λ v. v.items) w.codes-is)
    ])

pub returns-then-front-eq0 : goal.returns-then-front-eq0
returns-then-front-eq0 c =
    let l = c.loop-letter in
    sym (ap uncut l.invariant ∙ whole l.codes.items c.args.letters.now l.letter-index l.front c.loop-letter-test.false c.if-front-eq0.true
    ∙ ap (λ x. Some x) (sym c.from_vec.ensures))

pub returns-else-front-eq0 : goal.returns-else-front-eq0
returns-else-front-eq0 c =
    let l = c.loop-letter in
    sym (ap uncut l.invariant ∙ cut l.codes.items c.args.letters.now l.letter-index l.front c.loop-letter-test.false c.if-front-eq0.false)
