use Rattle.std.proofs.Common.{◌≡◌, ◌∷◌, [], All, ap, subst, ◌∙◌}
use Rattle.tlwords.specs.Plays.{given_up}
use Rattle.tlwords.specs.Known.{gone_known}
use Rattle.tlwords.proofs.Gathers.{gives_up, all_front, all_last, given_more, gone_more}
use Rattle.tlwords.proofs.closing.give_up_all.Goals as goal

pub join_seat-requires : goal.join_seat-requires
join_seat-requires g c =
    let p = c.into_parts-parts.ensures in
    let f = p.rests in
    let at = all_last (λ p. p.home.table ≡ c.args.table.now.shared.table_id) c.pop.new.self.items c.in-Some.pass
    (subst (λ ps. All (λ p. p.home.table ≡ c.args.table.now.shared.table_id) ps) c.in-Some.ensures.items c.loop-pass.invariant.3) in (
      c.loop-pass.invariant.0.0 ∙ c.requires.seat.0,
      ap (λ k. k.home.table) p.known ∙ at,
      f.bare,
      c.requires.seat.1,
      gives_up g.L.Law.terms _ _ _ _ _ _ _ _ f.fits.2 f.fits.1 f.knows.alone,
    )

pub loop-pass-preserved : goal.loop-pass-preserved
loop-pass-preserved g c =
    let i = c.loop-pass.invariant in
    let p = c.into_parts-parts in
    let w = c.in-Some.pass in
    let e = c.join_seat.ensures in
    let all = subst (λ ps. All (λ p. p.home.table ≡ c.args.table.now.shared.table_id) ps) c.in-Some.ensures.items i.3 in
    let is : c.join_seat.new.seat.me.0 ≡ given_up c.loop-pass.seat.me.0 p.result.0.me.0 = ap (λ m. m.0) e.2 in (
      (e.0 ∙ i.0.0, e.1 ∙ i.0.1, ap (λ m. m.1) e.2 ∙ i.0.2),
      given_more c.args.seat.now.me.0 c.loop-pass.seat.me.0 c.join_seat.new.seat.me.0 p.result.0.me.0 i.1 is,
      gone_more gone_known c.loop-pass.passes.items c.pop.new.self.items w c.loop-pass.seat.me.0.gone _ c.join_seat.new.seat.me.0.gone
          c.in-Some.ensures.items i.2 (ap (λ v. v.gone) is ∙ ap (λ k. gone_known k ∷ c.loop-pass.seat.me.0.gone) p.ensures.known),
      all_front (λ p. p.home.table ≡ c.args.table.now.shared.table_id) c.pop.new.self.items (w ∷ []) all,
    )
