-- What is left to show of `put_reworded`.
use Rattle.std.proofs.Common.{◌∙◌, ◌++◌, sym, ap, append-nil, arith, drop}
use Rattle.mmtext.specs.Text.{tokens_from}
use Rattle.mmtext.specs.Views.{seen}
use Rattle.commentwords.specs.Views.{text_of}
use Rattle.items.specs.Items.{bytes_of}
use Rattle.items.specs.Reading.{IsFirst, end_of}
use Rattle.items.specs.Machine.{rest_then}
use Rattle.items.proofs.Places.{first_place}
use Rattle.items.proofs.Reworded.{nothing_left, something_left, one_left, word_put, from_start}
use Rattle.items.proofs.writing.put_reworded.Goals as goal

pub loop-at-init : goal.loop-at-init
loop-at-init c =
    let order = c.requires.order in
    let within = c.requires.within in
    record {
      within = omega (arith, order, within);
      inside = c.requires.within;
      put = λ x h start comment part. (
        x,
        h,
        ap (λ r. c.args.out.now.items ++ bytes_of r)
            (from_start c.args.changes.now start c.at-place.result x (comment ∙ sym c.at-place.ensures.comment) (part ∙ sym
            c.at-place.ensures.part)),
      );
    }

pub returns-in_default : goal.returns-in_default
returns-in_default c = λ x h start comment part.
    let put = c.loop-at.invariant.put x h start comment part in
    absurd (something_left c.args.text.now c.loop-at.at c.args.end put.0 put.1 c.loop-at-test.true c.in_default.ensures.none)

pub slice_bounds-extend_from_slice-count : goal.slice_bounds-extend_from_slice-count
slice_bounds-extend_from_slice-count c =
    let t = seen c.in-Some.token in
    first_place c.loop-at.at (drop c.loop-at.at c.args.text.now) t (tokens_from (end_of t) (drop (end_of t) c.args.text.now))
    c.in-Some.ensures.some

pub slice_bounds-extend_from_slice-start : goal.slice_bounds-extend_from_slice-start
slice_bounds-extend_from_slice-start c =
    let t = seen c.in-Some.token in
    first_place c.loop-at.at (drop c.loop-at.at c.args.text.now) t (tokens_from (end_of t) (drop (end_of t) c.args.text.now))
    c.in-Some.ensures.some

pub loop-at-preserved : goal.loop-at-preserved
loop-at-preserved c =
    let text = c.args.text.now in
    let cs = c.args.changes.now in
    let next = c.in-Some.ensures in
    let t = seen c.in-Some.token in
    let is : IsFirst text c.loop-at.at t = record { next = next.some; later = next.later; within = next.within } in
    record {
      within = next.within;
      inside = c.requires.within;
      put = λ x h start comment part.
          let put = c.loop-at.invariant.put x h start comment part in
          let one = one_left text c.loop-at.at c.args.end put.0 t put.1 c.loop-at-test.true is in (
            one.0,
            one.2,
            put.2 ∙ ap (λ y. c.loop-at.out.items ++ bytes_of (rest_then cs c.loop-at.place y)) one.1
                ∙ word_put cs c.loop-at.place c.take.result.1 c.loop-at.out.items _ t.text (text_of c.take.result.0) one.0 c.take.ensures
                ∙ ap (λ out. out ++ bytes_of (rest_then cs c.take.result.1 one.0))
                (sym (c.in_ok-put.ensures ∙ ap (λ o. o ++ (text_of c.take.result.0))
                c.in_ok-extend_from_slice.ensures.items)),
          );
    }

pub returns : goal.returns
returns c = λ x h start comment part.
    let put = c.loop-at.invariant.put x h start comment part in
    let over = c.loop-at-test.false in
    sym (put.2 ∙ ap (λ y. c.loop-at.out.items ++ bytes_of (rest_then c.args.changes.now c.loop-at.place y))
    (nothing_left c.args.text.now c.loop-at.at c.args.end put.0 put.1 (omega (arith, over)))
    ∙ append-nil c.loop-at.out.items)
