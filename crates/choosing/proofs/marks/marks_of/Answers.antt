-- What is left to show of `marks_of`.
use Rattle.std.proofs.Common.{◌≡◌, ◌∙◌, arith, refl, subst, sym}
use Rattle.std.specs.Prelude.{None, find}
use Rattle.std.proofs.lemmas.List.{take_all, with_items_is}
use Rattle.mmsyntax.proofs.Options.{none_is}
use Rattle.source.specs.Scopes.{is_in}
use Rattle.source.specs.Views.{seen_words}
use Rattle.choosing.specs.Marks.{AreMarked}
use Rattle.choosing.proofs.Going.{unmarked_all}
use Rattle.choosing.proofs.Known.{is_unknown, known_more, unknown_found}
use Rattle.choosing.proofs.Marked.{is_in_at, labels_more}
use Rattle.choosing.proofs.marks.marks_of.Goals as goal

pub loop-label-init : goal.loop-label-init
loop-label-init g c = record {
  marked =
      unmarked_all (g.D.Declared.scope c.args.declared.now).assertions c.assertions.result c.assertions.ensures
      ∙ sym (c.in_ok-marks.ensures.items_if_clones_equal (λ y e. e));
  known = refl;
}

pub returns-then-not-mark-clause-refused : goal.returns-then-not-mark-clause-refused
returns-then-not-mark-clause-refused g c =
    λ other. (
      is_in_at c.args.labels.now c.loop-label.label-index _ c.loop-label-test.true,
      none_is _ (sym c.if-not-mark.ensures.there),
      unknown_found (g.D.Declared.scope c.args.declared.now).assertions c.args.labels.now c.loop-label.label-index _ c.loop-label-test.true
          (sym c.if-not-mark.ensures.there) c.loop-label.invariant.known,
    )

pub loop-label-preserved : goal.loop-label-preserved
loop-label-preserved g c =
    let xs = (g.D.Declared.scope c.args.declared.now).assertions in
    record {
      marked =
          labels_more xs c.args.labels.now c.loop-label.label-index _ c.deref_mut.result.now c.mark.new.marks c.loop-label-test.true
          (c.loop-label.invariant.marked ∙ sym c.deref_mut.ensures.value) c.if-not-mark.ensures.marked
          ∙ sym (with_items_is c.loop-label.marks c.mark.new.marks (c.mark.auto.marks ∙ c.deref_mut.ensures.len));
      known =
          known_more xs c.args.labels.now c.loop-label.label-index _ c.loop-label-test.true (sym c.if-not-mark.ensures.there)
          c.loop-label.invariant.known;
    }

pub returns-clause-marked : goal.returns-clause-marked
returns-clause-marked g c =
    let xs = (g.D.Declared.scope c.args.declared.now).assertions in
    subst (λ ls. AreMarked xs (is_in (seen_words ls)) c.loop-label.marks.items)
    (take_all c.loop-label.label-index c.args.labels.now (omega arith)) c.loop-label.invariant.marked

pub returns-clause-known : goal.returns-clause-known
returns-clause-known g c =
    let xs = (g.D.Declared.scope c.args.declared.now).assertions in
    subst (λ ls. find (is_unknown xs) (seen_words ls) ≡ None)
    (take_all c.loop-label.label-index c.args.labels.now (omega arith)) c.loop-label.invariant.known
