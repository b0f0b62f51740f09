-- What is left to show of `mark_needed`.
use Rattle.std.proofs.Common.{refl, subst, sym}
use Rattle.std.specs.Prelude.{slice_get}
use Rattle.choosing.specs.Marks.{AreMarkedToo}
use Rattle.choosing.specs.Places.{nowhere}
use Rattle.choosing.proofs.Needed.{all_within, marked_long, marked_short}
use Rattle.choosing.proofs.marks.mark_needed.Goals as goal
use Rattle.choosing.proofs.marks.mark_needed.Goals.{then-size-le-MOST_STEPS, else-size-le-MOST_STEPS}

pub mark_named-requires : goal.mark_named-requires
mark_named-requires g c =
    λ k. (
      (refl, tt),
      (
        c.requires.whole.distinct,
        (
          all_within nowhere (g.D.Declared.scope c.args.declared.now).assertions c.args.place c.in_ok-form.form c.requires.within
              c.in_ok-form.ensures.form c.in-Tree.tree c.in-Tree.is c.deref.result.now c.deref.ensures.value,
          c.requires.long,
        ),
      ),
    )

pub returns-after-size-le-MOST_STEPS-clause-marked : goal.returns-after-size-le-MOST_STEPS-clause-marked
returns-after-size-le-MOST_STEPS-clause-marked g c =
    λ test are.
    let xs = (g.D.Declared.scope c.args.declared.now).assertions in
    elim c.if-size-le-MOST_STEPS.branch [
      | then-size-le-MOST_STEPS w ↦
          subst (λ ms. AreMarkedToo xs c.args.place test ms (slice_get xs c.args.place)) (sym w.marks-is)
          (marked_short nowhere xs c.args.place c.in_ok-form.form c.requires.within c.in_ok-form.ensures.form c.in-Tree.tree c.in-Tree.is
          c.size.result c.size.ensures w.if-size-le-MOST_STEPS.true w.deref.result.now w.deref.ensures.value test w.mark_named.new.marks
          (w.mark_named.ensures test are))
      | else-size-le-MOST_STEPS w ↦
          subst (λ ms. AreMarkedToo xs c.args.place test ms (slice_get xs c.args.place)) (sym w.marks-is)
          (marked_long nowhere xs c.args.place c.in_ok-form.form c.requires.within c.in_ok-form.ensures.form c.in-Tree.tree c.in-Tree.is
          c.size.result c.size.ensures w.if-size-le-MOST_STEPS.false test c.args.marks.now are)
    ]
