use Rattle.std.proofs.Common.{◌∙◌, ap, length, None, subst, sym, ◌≤◌}
use Rattle.tlcore.proofs.Words.{resting_at}
use Rattle.tlwords.proofs.RunSteps.{begun_fits, begun_at, begun_knows, begin_tells}
use Rattle.tlwords.specs.Runs.{noted}
use Rattle.tlwords.specs.Known.{going_of}
use Rattle.tlwords.specs.Calls.{Begins}
use Rattle.tlwords.proofs.Logs.{blank_kept}
use Rattle.tlwords.proofs.Modes.{no_reads}
use Rattle.tlwords.proofs.runs.begin.Goals as goal

pub begin-place-requires-clause-table : goal.begin-place-requires-clause-table
begin-place-requires-clause-table g c = ap (λ k. k.home.table) c.into_parts-seat.ensures.known ∙ ap (λ h. h.table) c.requires.opening

pub begin-place-requires-clause-phase : goal.begin-place-requires-clause-phase
begin-place-requires-clause-phase g c = resting_at _ c.into_parts-seat.ensures.rests.fits.1

pub invariant_of-result : goal.invariant_of-result
invariant_of-result g c =
    let p = c.into_parts-seat.ensures in
    let f = p.rests in
    let home = ap (λ k. k.home) p.known ∙ c.requires.opening in
    let t = c.begin-place.ensures.told in record {
      table_is = (
        c.begin-place.ensures.seat.0 ∙ ap (λ h. h.table) home,
        c.args.words.now.counted ∙ (ap (λ h. length h.base) (sym home) ∙ sym (ap (λ v. length v.base) t.is)),
      );
      room_is = ap (λ h. h.room) (sym home) ∙ sym (ap (λ v. v.room) t.is);
      fits = begun_fits g.L.Law.terms _ _ _ _ t f.fits;
      kept =
          let u = c.begin-place.new.seat.me.0.seat in
          blank_kept (noted c.args.mode u) _ (no_reads c.args.mode u (ap (λ v. v.seat.reads) t.is)) f.blank;
      room = f.room ∙ sym (ap (λ v. length v.base) t.is);
      knows = begun_knows g.L.Law.terms _ _ _ _ t f.fits.0 f.knows;
      bare = c.begin-place.ensures.seat.2 ∙ f.bare;
    }

pub returns-clause-begins : goal.returns-clause-begins
returns-clause-begins g c =
    let p = c.into_parts-seat in
    let b = c.begin-place in
    let f = p.ensures.rests in
    subst (λ k. Begins g.L.Law.terms c.args.mode k (going_of b.new.seat.table_id b.new.seat.me.0 b.result c.args.mode None
    p.result.1.slots)) p.ensures.known
    (begin_tells g.L.Law.terms p.result.0.table_id b.new.seat.table_id p.result.0.me b.new.seat.me c.args.mode p.result.2 b.result
    p.result.1.slots
    b.ensures.seat.0 b.ensures.told (begun_fits g.L.Law.terms _ _ _ _ b.ensures.told f.fits) f.blank f.room)

pub returns-clause-place : goal.returns-clause-place
returns-clause-place g c =
    subst (λ k. length k.seen.history ≤ c.begin-place.result) c.into_parts-seat.ensures.known
    (begun_at g.L.Law.terms _ _ _ c.begin-place.ensures.told)

pub returns-clause-cells : goal.returns-clause-cells
returns-clause-cells g c =
    let home = ap (λ k. k.home) c.into_parts-seat.ensures.known ∙ c.requires.opening in
    ap (λ v. length v.base) c.begin-place.ensures.told.is ∙ (ap (λ h. length h.base) home ∙ sym c.args.words.now.counted)
