-- What is left to show of `needed_between`.
use Rattle.std.proofs.Common.{◌≡◌, ◌∙◌, ◌+◌, ℕ, length, take, arith, subst, sym, ap}
use Rattle.std.proofs.lemmas.List.{with_items_is, length-replicate}
use Rattle.source.specs.Scopes.{is_in}
use Rattle.choosing.specs.Choices.{needed_by_all}
use Rattle.choosing.specs.Marks.{AreMarked, from_to}
use Rattle.choosing.proofs.Wanted.{wanted_none, wanted_more}
use Rattle.choosing.proofs.between.needed_between.Goals as goal

pub loop-place-init : goal.loop-place-init
loop-place-init g c =
    let xs = (g.D.Declared.scope c.args.declared.now).assertions in
    let made = c.in_ok-wanted.ensures.items_if_clones_equal (λ y e. e) in
    record {
      frames = c.requires.frames;
      long = ap length made ∙ length-replicate c.assertions.result _ ∙ c.assertions.ensures;
      wanted = wanted_none xs c.args.begin c.assertions.result c.in_ok-wanted.wanted.items c.assertions.ensures made;
    }

pub loop-place-preserved : goal.loop-place-preserved
loop-place-preserved g c =
    let xs = (g.D.Declared.scope c.args.declared.now).assertions in
    let k = c.loop-place.place in
    let after = c.mark_needed.new.marks in
    let now = with_items_is c.loop-place.wanted after (c.mark_needed.auto.marks ∙ c.deref_mut.ensures.len) in
    record {
      frames = c.in_ok-mark_needed.ensures.frames;
      long = ap length now ∙ c.mark_needed.auto.marks ∙ ap length c.deref_mut.ensures.value ∙ c.loop-place.invariant.long;
      wanted =
          wanted_more xs c.args.begin k c.deref_mut.result.now after (omega arith) (omega arith)
          (c.loop-place.invariant.wanted ∙ sym c.deref_mut.ensures.value) c.in_ok-mark_needed.ensures.marked
          ∙ sym now;
    }

pub returns-clause-wanted : goal.returns-clause-wanted
returns-clause-wanted g c =
    let xs = (g.D.Declared.scope c.args.declared.now).assertions in
    let e : c.loop-place.place ≡ c.args.last + 1 = omega arith in
    subst (λ (k : ℕ). AreMarked xs (is_in (needed_by_all (take c.args.begin xs) (from_to c.args.begin k xs))) c.loop-place.wanted.items) e
    c.loop-place.invariant.wanted
