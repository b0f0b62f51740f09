-- What is left to show of `put_words`.
use Rattle.std.proofs.Common.{◌≡◌, ◌∙◌, ◌++◌, None, drop, refl, sym, ap, append-nil, arith}
use Rattle.std.specs.Option.{option_map}
use Rattle.mmtext.specs.Text.{tokens_from}
use Rattle.mmtext.specs.Views.{seen}
use Rattle.items.specs.Reading.{IsFirst, end_of, piece_at}
use Rattle.items.proofs.Places.{first_place}
use Rattle.items.proofs.Reworded.{nothing_left, something_left, one_left}
use Rattle.dressing.specs.Described.{space_with, with_comment}
use Rattle.dressing.specs.Putting.{opens_behind, proof_behind, put_from, word_then}
use Rattle.dressing.proofs.WordByWord.{word_put}
use Rattle.dressing.proofs.putting.put_words.Goals as goal

pub loop-at-init : goal.loop-at-init
loop-at-init c =
    let order = c.requires.order in
    let within = c.requires.within in
    record {
      within = omega (arith, order, within);
      inside = c.requires.within;
      put = λ x h. (x, h, refl);
    }

pub returns-in_default : goal.returns-in_default
returns-in_default c = λ x h.
    let put = c.loop-at.invariant.put x h in
    absurd (something_left c.args.text.now c.loop-at.at c.args.end put.0 put.1 c.loop-at-test.true c.in_default.ensures.none)

pub slice_bounds-put_space-count : goal.slice_bounds-put_space-count
slice_bounds-put_space-count c =
    let t = seen c.in-Some.token in
    first_place c.loop-at.at (drop c.loop-at.at c.args.text.now) t (tokens_from (end_of t) (drop (end_of t) c.args.text.now))
    c.in-Some.ensures.some

pub slice_bounds-put_space-start : goal.slice_bounds-put_space-start
slice_bounds-put_space-start c =
    let t = seen c.in-Some.token in
    first_place c.loop-at.at (drop c.loop-at.at c.args.text.now) t (tokens_from (end_of t) (drop (end_of t) c.args.text.now))
    c.in-Some.ensures.some

pub loop-at-preserved : goal.loop-at-preserved
loop-at-preserved c =
    let text = c.args.text.now in
    let cs = c.args.labels.now in
    let at = c.loop-at.at in
    let is_open = c.loop-at.is_open in
    let proof = option_map (λ p. p.now) c.args.attire.proof in
    let comment = option_map (λ c. c.now) c.loop-at.comment in
    let old = c.loop-at.out.items in
    let new = c.extend_from_slice.new.self.items in
    let next = c.in-Some.ensures in
    let t = seen c.in-Some.token in
    let is : IsFirst text at t = record { next = next.some; later = next.later; within = next.within } in
    let p = piece_at text at t in
    let goes = opens_behind is_open t.text in
    let none : None ≡ proof_behind proof is_open t.text =
    sym (ap (option_map (λ p. p.now)) c.in_default-proof_behind.is) ∙ c.proof_behind.ensures in
    let put : new ≡ (old ++ space_with comment p.space) ++ word_then cs is_open t.text =
    c.in_ok-extend_from_slice.ensures.items
    ∙ ap (λ w. c.put_space.new.out.items ++ w) c.word_then.ensures
    ∙ ap (λ o. o ++ word_then cs is_open t.text) c.in_ok-put_space.ensures in
    record {
      within = next.within;
      inside = c.requires.within;
      put = λ x h.
          let so_far = c.loop-at.invariant.put x h in
          let one = one_left text at c.args.end so_far.0 t so_far.1 c.loop-at-test.true is in (
            one.0,
            one.2,
            so_far.2
                ∙ ap (λ y. old ++ put_from cs proof is_open (with_comment comment y)) one.1
                ∙ word_put cs proof comment old is_open p one.0 none
                ∙ ap (λ o. o ++ put_from cs proof goes (with_comment None one.0)) (sym put)
                ∙ ap (λ b. new ++ put_from cs proof b (with_comment None one.0)) (sym c.opens_behind-is_open.ensures),
          );
    }

pub returns : goal.returns
returns c = λ x h.
    let put = c.loop-at.invariant.put x h in
    let over = c.loop-at-test.false in
    sym (put.2
    ∙ ap (λ y. c.loop-at.out.items ++ put_from c.args.labels.now (option_map (λ p. p.now) c.args.attire.proof) c.loop-at.is_open
    (with_comment (option_map (λ c. c.now) c.loop-at.comment) y))
    (nothing_left c.args.text.now c.loop-at.at c.args.end put.0 put.1 (omega (arith, over)))
    ∙ append-nil c.loop-at.out.items)
