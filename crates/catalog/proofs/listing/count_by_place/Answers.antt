use Rattle.std.proofs.Common.{◌≡◌, ◌≤◌, length, take, sym, ap, ◌∙◌, arith, length-take}
use Rattle.std.specs.List.{count_by}
use Rattle.std.proofs.lemmas.List.{take_all, with_items_is}
use Rattle.std.proofs.lemmas.List.Sums.{count_by-le-length}
use Rattle.library.specs.Library.{label_of}
use Rattle.library.specs.Edits.{cites}
use Rattle.catalog.specs.Testing.{passes_there}
use Rattle.catalog.proofs.Counting.{counted-empty, counted-proof}
use Rattle.catalog.proofs.Living.{count-living}
use Rattle.catalog.proofs.listing.count_by_place.Goals as goal
use Rattle.catalog.proofs.listing.count_by_place.Goals.{in-Some, in_default}

pub note_proof-requires-clause-room : goal.note_proof-requires-clause-room
note_proof-requires-clause-room c = λ p e at.
    let few = count_by-le-length (passes_there (cites (label_of e))) (take c.loop-place.place c.args.entries.now) in
    let front = length-take c.loop-place.place c.args.entries.now in
    let counted = c.loop-place.invariant.counted p e at in
    rw c.as_mut_slice.ensures.value (omega arith)

pub loop-place-preserved : goal.loop-place-preserved
loop-place-preserved c =
    let xs = c.args.entries.now in
    let k = c.loop-place.place in
    let o = c.index-entries-place.result in
    let here = sym c.index-entries-place.is in
    let inv = c.loop-place.invariant in
    elim c.match-entry.branch [
      | in-Some w ↦
          let counts = c.loop-place.counts in
          let stamps = c.loop-place.stamps in
          let counts' = w.note_proof.new.counts in
          let stamps' = w.note_proof.new.stamps in
          let noted = rw w.as_mut_slice.ensures.value at w.note_proof.ensures in
          let counts_kept : length counts' ≡ length counts.items = w.note_proof.auto.counts ∙ ap length w.as_mut_slice.ensures.value in
          let stamps_kept : length stamps' ≡ length stamps.items =
          w.note_proof.auto.stamps ∙ ap length w.as_mut_slice-in-Some.ensures.value in
          let counts_now = ap (λ v. v.items) w.counts-is
          ∙ with_items_is counts counts' (w.note_proof.auto.counts ∙ w.as_mut_slice.ensures.len) in
          let stamps_now = ap (λ v. v.items) w.stamps-is
          ∙ with_items_is stamps stamps' (w.note_proof.auto.stamps ∙ w.as_mut_slice-in-Some.ensures.len) in
          rw (counts_now, stamps_now)
          (counted-proof xs k o c.loop-place-test.true here counts.items stamps.items counts' stamps' w.in-Some.entry w.in-Some.is inv
          noted counts_kept stamps_kept)
      | in_default w ↦
          rw (w.counts-is, w.stamps-is)
          (counted-empty xs k o c.loop-place-test.true here c.loop-place.counts.items c.loop-place.stamps.items w.in_default.is inv)
    ]

pub returns : goal.returns
returns c =
    let xs = c.args.entries.now in
    let inv = c.loop-place.invariant in
    let past : length xs ≤ c.loop-place.place = c.loop-place-test.false in
    record {
      long = inv.counts_long;
      counted = λ p e at.
          inv.counted p e at ∙ ap (count_by (passes_there (cites (label_of e)))) (take_all c.loop-place.place xs past)
          ∙ sym (count-living (cites (label_of e)) xs);
    }
