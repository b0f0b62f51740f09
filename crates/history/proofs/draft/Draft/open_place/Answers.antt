use Rattle.std.proofs.Common.{◌≡◌, ◌∷◌, ◌++◌, [], None, length, rules, sym, ap, subst, ◌∙◌}
use Rattle.catalog.specs.Entries.{living}
use Rattle.catalog.specs.Changes.{undone}
use Rattle.history.specs.Drafts.{Drafted, IsDraft, AreCiters, IsCounted}
use Rattle.catalog.proofs.Changing.{living-opened}
use Rattle.history.proofs.Listed.{citers_opened}
use Rattle.history.proofs.Drafting.{draft_opened}
use Rattle.history.proofs.draft.Draft.open_place.Goals as goal

abbrev Opened : goal.After-len → Type 0
Opened c =
    let i = c.self.inside in
    let now = c.push_reserved-2.new.self.items in
    IsDraft i.prelude i.places c.push_reserved.new.self.items i.notes.items now
    × IsCounted i.count i.start_count i.notes.items now
    × (living (undone i.notes.items now) ≡ living (undone i.notes.items i.entries.items))

opened : (c : goal.After-len) → Opened c
opened c =
    let i = c.self.inside in
    let es = i.entries.items in
    let ns = i.notes.items in
    let both = draft_opened i.prelude i.places i.frames.items c.args.frame ns es c.self.invariant.0 in
    let frames = c.push_reserved.ensures.items ∙ ap (λ l. l ++ c.args.frame ∷ []) c.reserve-2.ensures.items in
    let now = c.push_reserved-2.ensures.items ∙ ap (λ l. l ++ None ∷ []) c.reserve.ensures.items in
    let start = ap (λ l. living (undone ns l)) now ∙ both.1 in
    let k = c.self.invariant.1 in (
      subst (λ l. IsDraft i.prelude i.places c.push_reserved.new.self.items ns l) (sym now)
          (subst (λ fs. IsDraft i.prelude i.places fs ns (es ++ None ∷ [])) (sym frames) both.0),
      record {
        now_right = k.now_right ∙ sym (ap (λ l. length (living l)) now ∙ ap length (living-opened es));
        start_right =
            k.start_right ∙ ap length (sym start);
      },
      start,
    )

listed : (c : goal.After-len) → AreCiters c.push.new.self.items c.self.inside.notes.items c.push_reserved-2.new.self.items
listed c =
    let i = c.self.inside in
    let es = i.entries.items in
    let ns = i.notes.items in
    let more = citers_opened i.places i.citers.items c.new.result ns es c.new.ensures.items c.self.invariant.0.can_undo
    c.self.invariant.3 in
    let now = c.push_reserved-2.ensures.items ∙ ap (λ l. l ++ None ∷ []) c.reserve.ensures.items in
    let lists : c.push.new.self.items ≡ i.citers.items ++ c.new.result ∷ [] = search rules in
    subst (λ l. AreCiters c.push.new.self.items ns l) (sym now) (subst (λ l. AreCiters l ns (es ++ None ∷ [])) (sym lists) more)

pub invariant_of-self-2 : goal.invariant_of-self-2
invariant_of-self-2 c =
    let r = opened c in
    (r.0, r.1, c.self.invariant.2, listed c, c.self.invariant.4)

pub returns-clause-kept : goal.returns-clause-kept
returns-clause-kept c =
    let r = opened c in
    record { setting = ap (λ (d : Drafted). d.setting) c.self.view_is; start = r.2 ∙ ap (λ (d : Drafted). d.start) c.self.view_is }
