-- What is left to show of `mark_needs`.
use Rattle.std.proofs.Common.{◌+◌, ◌≡◌, List, [], take, sym, subst, arith}
use Rattle.std.specs.Prelude.{◌||◌}
use Rattle.source.specs.Scopes.{Assertion, is_in}
use Rattle.std.proofs.lemmas.List.{take_all}
use Rattle.prooftrees.specs.Frames.{Holds}
use Rattle.choosing.specs.Marks.{AreMarked}
use Rattle.choosing.specs.Spoken.{needs}
use Rattle.choosing.proofs.Speaking.{mark_at, asked_more, unasked_more}
use Rattle.choosing.proofs.spoken.mark_needs.Goals as goal
use Rattle.choosing.proofs.spoken.mark_needs.Goals.{then-is_asked+in_ok-mark_needed, else-is_asked}

pub loop-place-preserved : goal.loop-place-preserved
loop-place-preserved g c =
    let xs = (g.D.Declared.scope c.args.declared.now).assertions in
    let k = c.loop-place.place in
    elim c.if-is_asked.branch [
      | then-is_asked+in_ok-mark_needed w ↦ record {
        frames = subst (Holds xs) (sym w.frames-is) w.in_ok-mark_needed.ensures.frames;
        marked = λ asks test asked are.
            let x = mark_at xs k asks c.args.asked.now _ _ c.loop-place-test.true asked w.if-is_asked.true in
            subst (AreMarked xs (λ v. is_in (needs asks [] (take (k + 1) xs)) v || test v)) (sym w.marks-is)
            (asked_more xs k x.0 x.1 asks test c.loop-place.marks w.mark_needed.new.marks x.2
            (c.loop-place.invariant.marked asks test asked are)
            w.in_ok-mark_needed.ensures.marked);
      }
      | else-is_asked w ↦ record {
        frames = subst (Holds xs) (sym w.frames-is) c.loop-place.invariant.frames;
        marked = λ asks test asked are.
            let x = mark_at xs k asks c.args.asked.now _ _ c.loop-place-test.true asked w.if-is_asked.false in
            subst (AreMarked xs (λ v. is_in (needs asks [] (take (k + 1) xs)) v || test v)) (sym w.marks-is)
            (unasked_more xs k x.0 x.1 asks test c.loop-place.marks x.2 (c.loop-place.invariant.marked asks test asked are));
      }
    ]

pub returns : goal.returns
returns g c =
    λ asks test asked are.
    let xs = (g.D.Declared.scope c.args.declared.now).assertions in
    let many = c.requires.as_many in
    let all : take c.loop-place.place xs ≡ xs = take_all c.loop-place.place xs (omega arith) in
    subst (λ (ys : List Assertion). AreMarked xs (λ v. is_in (needs asks [] ys) v || test v) c.loop-place.marks) all
    (c.loop-place.invariant.marked asks test asked are)
