use Rattle.std.proofs.Common.{arith, ◌∙◌, sym, ap, Some}
use Rattle.std.proofs.lemmas.List.Elements.{All-pop}
use Rattle.claims.specs.Claims.{IsClaimantOf}
use Rattle.claims.specs.Rule.{with_claimant, gathered}
use Rattle.claims.proofs.RuleSteps.{joins}
use Rattle.claims.proofs.Gathered.{gathered_last, gathered_seat}
use Rattle.claims.proofs.closing.gather_all.Goals as goal

pub join_seat-requires : goal.join_seat-requires
join_seat-requires c =
    let i = c.loop-claimant.invariant in
    let laid = c.numbers.invariant in
    let key = c.numbers.inside.table.shared.key in
    let home = sym (ap (λ v. v.table) c.numbers.view_is) in
    let own =
    All-pop (IsClaimantOf c.args.numbers.now) c.loop-claimant.claimants.items c.pop.new.self.items
    (Some c.in-Some.claimant) c.in-Some.ensures.items i.own in (
      i.table ∙ (c.requires.table ∙ home),
      ap (λ v. v.table) c.claimant.view_is ∙ (own.1.0 ∙ home),
      c.claimant.invariant.free,
      omega (arith, laid.words),
      joins key.count key.claimants _ _ _ _,
    )

pub loop-claimant-preserved : goal.loop-claimant-preserved
loop-claimant-preserved c =
    let i = c.loop-claimant.invariant in
    let joined = c.join_seat.ensures in
    let cs = c.pop.new.self.items in
    let seat = c.claimant.inside.seat in
    let me = c.loop-claimant.seat.me in
    let own =
    All-pop (IsClaimantOf c.args.numbers.now) c.loop-claimant.claimants.items cs (Some c.in-Some.claimant) c.in-Some.ensures.items i.own in
    record {
      table = joined.0 ∙ i.table;
      id = joined.1 ∙ i.id;
      me =
          ap (λ m. gathered m cs) (joined.2
          ∙ (gathered_seat me seat.me seat.table_id c.claimant.inside.ended c.claimant.invariant
          ∙ ap (λ x. with_claimant me x) c.claimant.view_is))
          ∙ (sym (gathered_last me cs c.in-Some.claimant) ∙ (ap (λ xs. gathered me xs) (sym c.in-Some.ensures.items) ∙ i.me));
      own = own.0;
    }
