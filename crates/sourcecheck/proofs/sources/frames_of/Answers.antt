-- What is left to show of `frames_of`.
use Rattle.std.proofs.Common.{◌≡◌, ◌<◌, ◌+◌, ◌++◌, length, take, sym, subst, ◌∙◌, arith}
use Rattle.std.proofs.lemmas.List.{length-take-le, take_all}
use Rattle.mmsyntax.proofs.Items.{there_is}
use Rattle.sourceframes.specs.Names.{words_of, name_in, Lasts}
use Rattle.sourceframes.specs.Frames.{AreFrames}
use Rattle.sourceframes.proofs.Numbered.{lasts_on}
use Rattle.sourcecheck.proofs.Sourced.{frames_more}
use Rattle.sourcecheck.proofs.sources.frames_of.Goals as goal

pub loop-place-preserved : goal.loop-place-preserved
loop-place-preserved g c =
    let xs = (g.D.Declared.scope c.args.declared.now).assertions in
    let i = c.loop-place.place in
    let lt : i < length xs = omega (arith, c.loop-place-test.true, c.assertions-place-end.ensures) in
    let there = there_is xs i lt in
    let inv = c.loop-place.invariant in
    let fs = c.loop-place.frames.items in
    let f = c.in_ok-frame_at.field-0 in
    let old = words_of c.loop-place.table in
    let new = words_of c.frame_at.new.table in
    let long : length fs ≡ length (take i xs) = inv.many ∙ sym (length-take-le i xs (omega (arith, lt))) in
    record {
      sound = c.in_ok-frame_at.ensures.keeps.sound;
      many = omega (arith, c.in_ok-push.ensures.len, inv.many);
      frames = subst (λ gs. Lasts new (λ name. AreFrames name (take (i + 1) xs) gs)) (sym c.in_ok-push.ensures.items)
          (λ more. frames_more (name_in (new ++ more)) xs i there.0 fs f there.1 long
          (lasts_on old new (λ name. AreFrames name (take i xs) fs) c.in_ok-frame_at.ensures.keeps.grows inv.frames more)
          (c.in_ok-frame_at.ensures.made there.0 there.1 more));
    }

pub returns-clause-made : goal.returns-clause-made
returns-clause-made g c =
    let xs = (g.D.Declared.scope c.args.declared.now).assertions in
    let all : take c.loop-place.place xs ≡ xs =
    take_all c.loop-place.place xs (omega (arith, c.loop-place-test.false, c.assertions-place-end.ensures)) in
    subst (λ ys. Lasts (words_of c.loop-place.table) (λ name. AreFrames name ys c.loop-place.frames.items)) all
    c.loop-place.invariant.frames
