use Rattle.std.proofs.Common.{◌≡◌, length, rules, sym, ap, subst, ◌∙◌}
use Rattle.catalog.specs.Citers.{Covers, KeepsCiters}
use Rattle.history.specs.Drafts.{AreCiters}
use Rattle.history.proofs.Listed.{citers_grown}
use Rattle.catalog.proofs.Undoing.{written_whole}
use Rattle.history.proofs.draft.Draft.cite.Goals as goal

listed : (c : goal.After-self-1) → AreCiters c.enter_citer.new.citers c.self.inside.notes.items c.self.inside.entries.items
listed c =
    let i = c.self.inside in
    let own = c.as_mut_slice.ensures.value in
    let e = c.enter_citer.ensures in
    citers_grown i.citers.items c.enter_citer.new.citers i.notes.items i.entries.items (e.long ∙ ap length own) e.ascending
    (subst (λ l. KeepsCiters l c.enter_citer.new.citers) own e.kept) c.self.invariant.3

pub invariant_of-self : goal.invariant_of-self
invariant_of-self c =
    let i = c.self.inside in
    let all : i.citers.len ≡ length i.citers.items = search rules in
    let whole = written_whole i.citers.items c.enter_citer.new.citers i.citers.len all
    (c.enter_citer.ensures.long ∙ ap length c.as_mut_slice.ensures.value) in
    let v = c.self.invariant in
    (v.0, v.1, v.2, subst (λ l. AreCiters l i.notes.items i.entries.items) (sym whole) (listed c), v.4)

pub returns-clause-covered : goal.returns-clause-covered
returns-clause-covered c =
    let i = c.self.inside in
    let all : i.citers.len ≡ length i.citers.items = search rules in
    let whole = written_whole i.citers.items c.enter_citer.new.citers i.citers.len all
    (c.enter_citer.ensures.long ∙ ap length c.as_mut_slice.ensures.value) in
    subst (λ l. Covers l i.entries.items) (sym whole) (listed c).covers_now
