use Rattle.std.proofs.Common.{if◌then◌else◌, length, ◌∙◌, sym, ap}
use mathlib.Core.Option.{some}
use Rattle.claims.proofs.Gathered.{all_gathered}
use Rattle.claims.proofs.numbers.Numbers.close.Goals as goal

pub returns : goal.returns
returns c =
    let final = c.close_with.ensures.values.2 in
    let sits = c.last.invariant in
    let cs = c.pop.new.self.items in
    let last = c.in-Some.last in
    let seat = c.last.inside.seat in
    let key = c.self.inside.table.shared.key in
    let is = c.last.view_is in
    rw (c.in-Some.ensures.items, ← c.self.view_is)
    (all_gathered _ cs last seat.me final.0 c.gather_all.new.seat.id final.1.0
    (final.1.1 ∙ ap (λ m. some m.0) c.gather_all.ensures.me) sits.one
    (ap (λ v. v.claimed) is) (sits.ended_is ∙ ap (λ v. if v.ended then 1 else 0) is)
    (sym (ap length c.in-Some.ensures.items) ∙ (c.requires.all ∙ sym (ap (λ v. v.claimants) c.self.view_is))))
