-- What is left to show of `choose_nearest`.
use Rattle.std.proofs.Common.{◌≡◌, ◌∙◌, ◌<◌, ◌-◌, ℕ, suc, length, arith, subst}
use Rattle.choosing.proofs.Going.{Stands, start, finish, turned_left, turned_wanted}
use Rattle.choosing.proofs.nearest.choose_nearest.Goals as goal

pub loop-place-init : goal.loop-place-init
loop-place-init g c =
    let xs = (g.D.Declared.scope c.args.declared.now).assertions in
    record {
      frames = c.requires.frames;
      long = c.requires.long;
      stands = λ ws are.
          start c.args.most xs ws c.len-place.result c.args.asked.items (c.len-place.ensures ∙ c.args.asked.ok.0 ∙ c.requires.long) are;
    }

pub loop-place-preserved : goal.loop-place-preserved
loop-place-preserved g c =
    let xs = (g.D.Declared.scope c.args.declared.now).assertions in
    let left : ℕ = c.loop-place.place - 1 in
    let many : c.len-place.result ≡ length xs = c.len-place.ensures ∙ c.args.asked.ok.0 ∙ c.requires.long in
    let within : left < length xs = omega arith in
    let next : c.loop-place.place ≡ suc left = omega arith in
    record {
      frames = c.loop-place.invariant.frames;
      long = c.loop-place.invariant.long;
      stands = λ ws are.
          turned_left c.args.most xs ws c.loop-place.place left c.loop-place.wanted.items c.index.result.now c.index.result.now within next
          c.index.ensures (c.loop-place.invariant.stands ws are) c.if-index.false;
    }

pub loop-place-preserved-then-index : goal.loop-place-preserved-then-index
loop-place-preserved-then-index g c =
    let xs = (g.D.Declared.scope c.args.declared.now).assertions in
    let left : ℕ = c.loop-place.place - 1 in
    let many : c.len-place.result ≡ length xs = c.len-place.ensures ∙ c.args.asked.ok.0 ∙ c.requires.long in
    let within : left < length xs = omega arith in
    let next : c.loop-place.place ≡ suc left = omega arith in
    record {
      frames = c.in_ok-wanted.ensures.frames;
      long = c.in_ok-wanted.ensures.long ∙ c.loop-place.invariant.long;
      stands = λ ws are.
          turned_wanted c.args.most xs ws c.loop-place.place left c.loop-place.wanted.items c.index.result.now c.index.result.now within
          next c.index.ensures (c.loop-place.invariant.stands ws are) c.if-index.true _ c.in_ok-wanted.ensures.widened;
    }

pub returns-clause-chosen : goal.returns-clause-chosen
returns-clause-chosen g c =
    λ ws are.
    let xs = (g.D.Declared.scope c.args.declared.now).assertions in
    let none : c.loop-place.place ≡ 0 = omega arith in
    finish c.args.most xs ws c.loop-place.wanted.items
    (subst (λ (k : ℕ). Stands c.args.most xs ws k c.loop-place.wanted.items) none (c.loop-place.invariant.stands ws are))
