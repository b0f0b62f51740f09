use Rattle.std.proofs.Common.{◌≡◌, ◌+◌, ◌∙◌, sym, subst, true, inl, inr, arith, get_or}
use Rattle.std.proofs.lemmas.Option.{slice_get-get_or, get_or_from_slice_get}
use Rattle.cells.specs.Slots.{is_ranged}
use Rattle.plaincells.specs.Plain.{AreNamedBy}
use Rattle.plaincells.proofs.OfWords.{none_more, one_more}
use Rattle.plaincells.proofs.plain.named_ranges.Goals as goal
use Rattle.plaincells.proofs.plain.named_ranges.Goals.{then-is_range_cell+then-value-ne0+in_ok-push, else-is_range_cell}

pub loop-cell-preserved : goal.loop-cell-preserved
loop-cell-preserved c =
    let slots = c.args.slots in
    let values = c.args.values.now in
    let cell = c.loop-cell.cell in
    let places = c.loop-cell.ranges.items in
    elim c.if-is_range_cell.branch [
      | then-is_range_cell+then-value-ne0+in_ok-push w ↦
          let ranged : is_ranged slots cell ≡ true = sym c.is_range_cell.ensures ∙ w.if-is_range_cell.true in
          subst (λ made. AreNamedBy slots values (cell + 1) made.items) (sym w.ranges-is)
          (subst (AreNamedBy slots values (cell + 1)) (sym w.in_ok-push.ensures.items)
          (one_more slots values cell places c.loop-cell.invariant (get_or values cell 0) w.named.result
          (slice_get-get_or values cell 0 c.loop-cell-test.true) ranged w.if-value-ne0.true (w.named.ensures.start, w.named.ensures.len)))
      | else-is_range_cell w ↦
          subst (λ made. AreNamedBy slots values (cell + 1) made.items) (sym w.ranges-is)
          (none_more slots values cell places c.loop-cell.invariant (λ v at ranged some.
          elim w.else-is_range_cell.either [
            | inl none ↦ some (sym (get_or_from_slice_get values cell v 0 at) ∙ none.1)
            | inr other ↦ let is = c.is_range_cell.ensures in absurd cc
          ]))
    ]

pub returns : goal.returns
returns c =
    let all = c.loop-cell.invariant.all in
    record {
      named = c.loop-cell.invariant.named;
      all = λ k v lt at. all k v (omega (arith, lt, c.loop-cell-test.false)) at;
    }
