use Rattle.std.proofs.Common.{◌≡◌, arith, ◌∙◌, ap, subst, sym, length, List, ℕ, map, ◌∷◌, ◌++◌, []}
use mathlib.Core.Option.{some}
use Rattle.tlwords.specs.Closing.{AreGathered, ClosesAll}
use Rattle.tlwords.specs.Known.{gone_known}
use Rattle.tlwords.proofs.Ends.{closes_all, gone_all}
use Rattle.tlwords.proofs.closing.end_with.Goals as goal

pub returns-clause-closes : goal.returns-clause-closes
returns-clause-closes g c =
    let f = c.close_with.ensures.values.2 in
    let k = c.close_with.ensures.counts.0 in
    let n = c.close_with.result.words.ok.0 in
    let about = c.args.table.shared.key in
    let p = c.into_parts in
    let own = p.result.0.me.0 in
    let f2 = p.ensures.rests in
    let all = c.give_up_all.ensures in
    let seat = c.give_up_all.new.seat in
    let gs = seat.me.0.gone in
    let gone : gs ≡ map gone_known c.args.passes.items = all.gone ∙ gone_all c.args.passes.items _ f2.knows.alone in
    λ cells x laid h.
    subst (λ k. ClosesAll g.L.Law.terms about.setting.value about.values.value.items about.store.value.items about.sessions
    (c.args.passes.items ++ k ∷ []) x) p.ensures.known
    (closes_all g.L.Law.terms about.setting.value about.values.value.items about.room
    (record { store = about.store.value.items; sessions = about.sessions }) f.0 f.1.0 cells x
    (ap length f.2 ∙ omega (arith, k, n, laid)) (subst (λ (words : List ℕ). AreGathered words cells about.room x) (sym f.2) h)
    p.result.0.table_id seat.id own gs (f.1.1 ∙ ap some all.is) f2.fits.1 f2.fits.2 c.args.passes.items gone)
