use Rattle.std.proofs.Common.{ap, sym, length, subst, ◌∙◌}
use Rattle.tlwords.specs.Plays.{witness}
use Rattle.tlwords.specs.Known.{known_of}
use Rattle.tlwords.specs.Calls.{Learns}
use Rattle.tlwords.proofs.RunSteps.{learned_fits, learned_knows, refreshed_fits, refreshed_knows, learn_tells}
use Rattle.tlwords.proofs.runs.learn.Goals as goal

pub invariant_of-pass : goal.invariant_of-pass
invariant_of-pass g c =
    let m = c.pass.inside.seat.me in
    let i = c.pass.invariant in
    let a = c.tell.ensures.seat in
    let b = c.begin.ensures in
    let u = witness c.refresh.new.seat.me.0 in
    record {
      fits = learned_fits g.L.Law.terms m c.tell.new.seat.me c.begin.new.seat.me u _ _ a.1 b.told i.fits;
      knows = learned_knows g.L.Law.terms m c.tell.new.seat.me c.begin.new.seat.me u _ _ a.1 b.told i.fits.0 i.knows;
      bare = b.seat.2 ∙ (a.0.2 ∙ i.bare);
      blank = i.blank;
      room = i.room ∙ sym (ap (λ v. length v.base) b.told.is ∙ ap (λ m. length m.0.base) a.1);
    }

pub invariant_of-other : goal.invariant_of-other
invariant_of-other g c =
    let m = c.other.inside.seat.me in
    let i = c.other.invariant in
    let q = c.refresh.ensures in
    let a = c.tell.ensures.other in
    record {
      fits = refreshed_fits g.L.Law.terms m c.refresh.new.seat.me c.tell.new.other.me _ q.told a.1 i.fits;
      knows = refreshed_knows g.L.Law.terms m c.refresh.new.seat.me c.tell.new.other.me _ q.told a.1 i.fits.0 i.knows;
      bare = a.0.2 ∙ (q.seat.2 ∙ i.bare);
      blank = i.blank;
      room = i.room ∙ sym (ap (λ m. length m.0.base) a.1 ∙ ap (λ v. length v.base) q.told.is);
    }

pub returns : goal.returns
returns g c =
    let p = c.pass.inside.seat in
    let o = c.other.inside.seat in
    let a = c.tell.ensures in
    let k = known_of c.begin.new.seat.table_id c.begin.new.seat.me.0 in
    let j = known_of c.tell.new.other.table_id c.tell.new.other.me.0 in
    subst (λ x. Learns g.L.Law.terms x c.args.other.now k j) c.pass.view_is
    (subst (λ y. Learns g.L.Law.terms (known_of p.table_id p.me.0) y k j) c.other.view_is
    (learn_tells g.L.Law.terms p.table_id o.table_id c.begin.new.seat.table_id c.tell.new.other.table_id p.me o.me c.refresh.new.seat.me
    c.tell.new.seat.me c.tell.new.other.me c.begin.new.seat.me _ _ _ (c.begin.ensures.seat.0 ∙ a.seat.0.0)
    (a.other.0.0 ∙ c.refresh.ensures.seat.0)
    c.pass.invariant.fits c.other.invariant.fits c.refresh.ensures.told a.seat.1 a.other.1 c.begin.ensures.told))
