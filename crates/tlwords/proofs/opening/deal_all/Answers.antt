use Rattle.std.proofs.Common.{arith, ◌∙◌, ap, sym, is_some, length, ◌≡◌, ◌-◌}
use Rattle.tlcore.specs.Seats.{is_resting}
use Rattle.ranges.specs.Ranges.{ranges_named}
use Rattle.tlwords.specs.Known.{known_of}
use Rattle.tlwords.specs.Calls.{IsDealt}
use Rattle.tlwords.proofs.OpenSteps.{deals}
use Rattle.tlwords.proofs.Openings.{dealt_all, new_of, dealer_more, new_knows}
use Rattle.tlwords.proofs.opening.deal_all.Goals as goal

pub split_seat-requires : goal.split_seat-requires
split_seat-requires g c =
    let i = c.loop.invariant in let e : c.loop.seat.me.0.rights ≡ c.args.sessions - c.loop.counter = ap (λ v. v.rights) i.1 in let l =
    c.loop-test.true in let m = c.requires.first.0 in (
      i.0,
      (let s = c.args.words.now.sized in omega arith),
      deals g.L.Law.terms _ _ _ _ _ _ (ap (λ v. v.drawn) i.1) (omega arith) (ap (λ v. v.full) i.1) (ap (λ v. v.taken) i.1)
          (ap (λ v. v.seat) i.1) (ap (λ v. v.gone) i.1),
    )

pub loop-preserved : goal.loop-preserved
loop-preserved g c =
    let i = c.loop.invariant in let e = c.split_seat.ensures in
    let setting = c.args.setting.now in let base = c.args.values.now in let room = c.args.words.now.room in let ranges =
    ranges_named (g.L.Law.terms.ranged setting) c.args.store.now c.args.values.now in
    let new = new_of setting base room ranges c.args.sessions c.loop.seat.me c.split_seat.result.me c.loop.counter i.1 e.4 in
    let m = dealt_all (λ p. IsDealt setting base room ranges c.args.words.now.table.shared.table_id p) (λ p. p.name) c.args.sessions
    c.loop.passes.items c.reserve.new.self.items c.push_reserved.new.self.items _ c.loop.counter c.in_ok-reserve.ensures.items
    c.push_reserved.ensures.items i.2 i.3 i.4
    (λ j. known_of ((e.3 ∙ i.0) j) (new.0 j)) new.1 in (
      e.0 ∙ i.0,
      dealer_more setting base room ranges c.args.sessions c.loop.seat.me c.split_seat.new.seat.me c.loop.counter i.1 e.2,
      m.0,
      m.1,
      m.2,
    )

pub invariant_of-pass : goal.invariant_of-pass
invariant_of-pass g c =
    let i = c.loop.invariant in
    let setting = c.args.setting.now in let base = c.args.values.now in let room = c.args.words.now.room in let ranges =
    ranges_named (g.L.Law.terms.ranged setting) c.args.store.now c.args.values.now in
    let new = (new_of setting base room ranges c.args.sessions c.loop.seat.me c.split_seat.result.me c.loop.counter i.1
    c.split_seat.ensures.4).0 in
    record {
      fits = (
        ap (λ v. is_some v.setting) new,
        ap (λ v. is_resting v.seat.phase) new,
        ap (λ v. v.rights) new,
        ap (λ v. length v.drawn) new,
        omega arith,
      );
      knows = new_knows setting base room ranges c.args.sessions c.split_seat.result.me new c.requires.store;
      bare = ap (λ m. m.1) c.split_seat.ensures.4;
      blank = c.in_ok-log.ensures.1;
      room = c.in_ok-log.ensures.0 ∙ (c.requires.table.1 ∙ sym (ap (λ v. length v.base) new));
    }
