use Rattle.std.proofs.Common.{sym, ap, refl, ◌∙◌}
use Rattle.lending.proofs.Kept.{blank_writes}
use Rattle.lending.proofs.Lending.{agrees_of, began_lent}
use Rattle.lending.proofs.live.Live.begin.Goals as goal

pub invariant_of-result : goal.invariant_of-result
invariant_of-result c =
    let a = c.args in
    let k = c.kit.inside in
    let b = c.begin in
    let lent = began_lent a.given.now a.kit.pass k.stage a.mode a.may_stage c.of.result.value k.pass c.of-began.result.value b.result
    (ap (λ k. k.pass) c.kit.view_is) c.of.ensures c.of-began.ensures b.ensures.begins c.requires.on b.ensures.place c.kit.invariant in
    (∣ agrees_of _ _ _ lent ∣₁, tt)

pub invariant_of-result-2 : goal.invariant_of-result-2
invariant_of-result-2 c =
    let a = c.args in
    let k = c.kit.inside in
    let b = c.begin in
    let lent = began_lent a.given.now a.kit.pass k.stage a.mode a.may_stage c.of.result.value k.pass c.of-began.result.value b.result
    (ap (λ k. k.pass) c.kit.view_is) c.of.ensures c.of-began.ensures b.ensures.begins c.requires.on b.ensures.place c.kit.invariant in
    (sym (ap (λ g. g.slots) c.of.ensures), lent)

pub returns : goal.returns
returns c =
    record {
      given = c.of.ensures;
      began = c.of-began.ensures ∙ ap (λ k. k.pass) c.kit.view_is;
      mode_is = ap (λ x. x.mode) c.begin.ensures.begins.is;
      may = refl;
      blank = blank_writes c.begin.result.slots c.begin.ensures.begins.blank;
      unread = ap (λ x. x.reads) c.begin.ensures.begins.is;
      unmet = ap (λ x. x.over) c.begin.ensures.begins.is;
      unrefused = refl;
      taken = ap (λ x. x.known.taken) c.begin.ensures.begins.is ∙ ap (λ k. k.pass.taken) c.kit.view_is;
      staged = ap (λ k. k.staged) c.kit.view_is;
    }
