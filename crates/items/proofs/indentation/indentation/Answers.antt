-- What is left to show of `indentation`.
use Rattle.std.proofs.Common.{◌≡◌, ◌∙◌, [], None, true, false, arith, drop, refl, sym, ap}
use Rattle.mmtext.specs.Text.{tokens_from}
use Rattle.mmtext.specs.Views.{seen}
use Rattle.items.specs.declared.indentation.StatementPlace.{StatementPlace}
use Rattle.items.specs.Reading.{IsFirst, end_of}
use Rattle.items.specs.Walking.{from_part, found_from}
use Rattle.items.proofs.Places.{first_place}
use Rattle.items.proofs.Reworded.{nothing_left, something_left, one_left}
use Rattle.items.proofs.indentation.indentation.Goals as goal

nothing_found : (w : StatementPlace) → found_from w [] ≡ None
nothing_found w = elim w.in_proof as (λ b. from_part b [] ≡ None) [ true ↦ refl | false ↦ refl ]

pub slice_bounds-take-count : goal.slice_bounds-take-count
slice_bounds-take-count c =
    let t = seen c.in-Some.token in
    first_place c.loop-at.at (drop c.loop-at.at c.args.text.now) t (tokens_from (end_of t) (drop (end_of t) c.args.text.now))
    c.in-Some.ensures.some

pub slice_bounds-take-start : goal.slice_bounds-take-start
slice_bounds-take-start c =
    let t = seen c.in-Some.token in
    first_place c.loop-at.at (drop c.loop-at.at c.args.text.now) t (tokens_from (end_of t) (drop (end_of t) c.args.text.now))
    c.in-Some.ensures.some

pub returns-in_default : goal.returns-in_default
returns-in_default c = λ x h.
    let left = c.loop-at.invariant.left x h in
    absurd (something_left c.args.text.now c.loop-at.at c.args.end left.0 left.1 c.loop-at-test.true c.in_default.ensures.none)

pub returns-in-Ends : goal.returns-in-Ends
returns-in-Ends c = λ x h.
    let next = c.in-Some.ensures in
    let t = seen c.in-Some.token in
    let is : IsFirst c.args.text.now c.loop-at.at t = record { next = next.some; later = next.later; within = next.within } in
    let left = c.loop-at.invariant.left x h in
    let one = one_left c.args.text.now c.loop-at.at c.args.end left.0 t left.1 c.loop-at-test.true is in
    sym (left.2 ∙ (ap (found_from c.loop-at.walk) one.1 ∙ c.in-Ends.ensures one.0))

pub loop-at-preserved : goal.loop-at-preserved
loop-at-preserved c =
    let next = c.in-Some.ensures in
    let t = seen c.in-Some.token in
    let is : IsFirst c.args.text.now c.loop-at.at t = record { next = next.some; later = next.later; within = next.within } in
    record {
      within = next.within;
      inside = c.requires.within;
      left = λ x h.
          let left = c.loop-at.invariant.left x h in
          let one = one_left c.args.text.now c.loop-at.at c.args.end left.0 t left.1 c.loop-at-test.true is in (
            one.0,
            one.2,
            left.2 ∙ (ap (found_from c.loop-at.walk) one.1 ∙ c.in-Goes.ensures one.0),
          );
    }

pub returns : goal.returns
returns c = λ x h.
    let left = c.loop-at.invariant.left x h in
    let over = c.loop-at-test.false in
    sym (left.2 ∙ (ap (found_from c.loop-at.walk)
    (nothing_left c.args.text.now c.loop-at.at c.args.end left.0 left.1 (omega (arith, over))) ∙ nothing_found c.loop-at.walk))
