-- What is left to show of `is_in_lines`.
use Rattle.std.proofs.Common.{arith, drop, refl, subst, sym, [], IsTrue}
use Rattle.mmtext.specs.Text.{tokens_from}
use Rattle.mmtext.specs.Views.{seen}
use Rattle.items.specs.Reading.{IsFirst, end_of}
use Rattle.items.proofs.Places.{first_place}
use Rattle.items.proofs.Reworded.{nothing_left, one_left}
use Rattle.arranging.specs.LinesInside.{part_in_lines, AreLaidFrom}
use Rattle.arranging.specs.declared.lines.Part.TheVariants.{Statement, Proof, Letters}
use Rattle.arranging.specs.declared.lines.LinePlace.{LinePlace}
use Rattle.arranging.proofs.lines.is_in_lines.Goals as goal

nothing_laid : (p : LinePlace) → AreLaidFrom p []
nothing_laid p =
    elim p.part as (λ q. IsTrue (part_in_lines p.column q [])) [ Statement ↦ refl | Proof ↦ refl | Letters ↦ refl ]

pub slice_bounds-take-count : goal.slice_bounds-take-count
slice_bounds-take-count c =
    let t = seen c.in-Some.token in
    first_place c.loop-at.at (drop c.loop-at.at c.args.text.now) t (tokens_from (end_of t) (drop (end_of t) c.args.text.now))
    c.in-Some.ensures.some

pub slice_bounds-take-start : goal.slice_bounds-take-start
slice_bounds-take-start c =
    let t = seen c.in-Some.token in
    first_place c.loop-at.at (drop c.loop-at.at c.args.text.now) t (tokens_from (end_of t) (drop (end_of t) c.args.text.now))
    c.in-Some.ensures.some

pub loop-at-preserved : goal.loop-at-preserved
loop-at-preserved c =
    let text = c.args.text.now in
    let next = c.in-Some.ensures in
    let t = seen c.in-Some.token in
    let is : IsFirst text c.loop-at.at t = record { next = next.some; later = next.later; within = next.within } in
    record {
      within = next.within;
      inside = c.requires.within;
      left = λ x h.
          let left = c.loop-at.invariant.left x h in
          let one = one_left text c.loop-at.at c.args.end left.0 t left.1 c.loop-at-test.true is in (
            one.0,
            one.2,
            λ laid. left.2 (subst (AreLaidFrom c.loop-at.place) (sym one.1) (c.in-Some-take.ensures one.0 laid)),
          );
    }

pub returns : goal.returns
returns c = λ x h _.
    let left = c.loop-at.invariant.left x h in
    let over = c.loop-at-test.false in
    left.2 (subst (AreLaidFrom c.loop-at.place)
    (sym (nothing_left c.args.text.now c.loop-at.at c.args.end left.0 left.1 (omega (arith, over))))
    (nothing_laid c.loop-at.place))
