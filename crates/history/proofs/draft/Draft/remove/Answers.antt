use Rattle.std.proofs.Common.{◌≡◌, ℕ, ◌-◌, None, arith, ◌∷◌, ◌++◌, [], Some, length, set, refl, sym, ap, subst, ◌∙◌}
use Rattle.std.proofs.lemmas.Option.{slice_get_within, slice_get_read}
use Rattle.library.specs.declared.library.Ranked.{Ranked}
use Rattle.catalog.specs.declared.notes.Note.{Note}
use Rattle.catalog.specs.Entries.{Entries, living, StandsIn}
use Rattle.catalog.specs.Citers.{Covers}
use Rattle.catalog.specs.Changes.{undone}
use Rattle.history.specs.Drafts.{Drafted, IsDraft, IsCounted}
use Rattle.catalog.proofs.Changing.{count-removed}
use Rattle.catalog.proofs.Covering.{covers-removed}
use Rattle.history.proofs.Listed.{citers_noted}
use Rattle.history.proofs.Drafting.{draft_noted}
use Rattle.history.proofs.draft.Draft.remove.Goals as goal

stands_in : (d : Drafted) (es : Entries) (p : ℕ) → (at : (e : Ranked) × StandsIn d.entries p e) → es ≡ d.entries → StandsIn es p at.0
stands_in d es p at held = subst (λ l. StandsIn l p at.0) (sym held) at.1

abbrev Removed : goal.After-self-2-1 → Type 0
Removed c =
    let i = c.self.inside in
    let now = set i.entries.items c.args.place c.take-former.new.self in
    IsDraft i.prelude i.places i.frames.items c.push_reserved.new.self.items now
    × IsCounted (i.count - 1) i.start_count c.push_reserved.new.self.items now
    × (undone c.push_reserved.new.self.items now ≡ undone i.notes.items i.entries.items)

removed : (c : goal.After-self-2-1) → Removed c
removed c =
    let i = c.self.inside in
    let es = i.entries.items in
    let m = i.places in
    let p = c.args.place in
    let was = c.requires.0 in
    let stands = stands_in c.args.self.now i.entries.items p c.requires (ap (λ (d : Drafted). d.entries) c.self.view_is) in
    let at =
    slice_get_read es (length es) p c.index_mut.result.now refl (slice_get_within es p (Some was) stands) c.index_mut.ensures.value
    ∙ ap (λ x. Some x) (sym c.take-former.ensures.value) in
    let note : Note = record { place = p; former = c.take-former.result } in
    let noted = c.push_reserved.ensures.items ∙ ap (λ ks. ks ++ note ∷ []) c.reserve.ensures.items in
    let one = count-removed es p was stands in
    let count = c.self.invariant.1.now_right in
    draft_noted i.prelude m m i.frames.items i.notes.items c.push_reserved.new.self.items es _ p c.take-former.result None i.count
    (i.count - 1) i.start_count c.self.invariant.0 c.self.invariant.1 at (λ e is. absurd cc) tt (λ q. refl) noted
    (ap (set es p) c.take-former.ensures.after) (omega arith)

pub overflow_sub-self : goal.overflow_sub-self
overflow_sub-self c =
    let i = c.self.inside in
    let stands = stands_in c.args.self.now i.entries.items c.args.place c.requires (ap (λ (d : Drafted). d.entries) c.self.view_is) in
    let one = count-removed i.entries.items c.args.place c.requires.0 stands in
    let count = c.self.invariant.1.now_right in
    omega arith

pub invariant_of-self-2 : goal.invariant_of-self-2
invariant_of-self-2 c =
    let i = c.self.inside in
    let es = i.entries.items in
    let p = c.args.place in
    let r = removed c in
    let covered = covers-removed i.citers.items es p c.self.invariant.3.covers_now in
    let listed = citers_noted i.citers.items i.notes.items c.push_reserved.new.self.items es p c.take-former.new.self c.self.invariant.3
    (subst (λ o. Covers i.citers.items (set es p o)) (sym c.take-former.ensures.after) covered) r.2 in
    (r.0, r.1, c.self.invariant.2, listed, c.self.invariant.4)

pub returns-clause-kept : goal.returns-clause-kept
returns-clause-kept c =
    let r = removed c in
    record {
      setting = ap (λ (d : Drafted). d.setting) c.self.view_is;
      start =
          ap living r.2 ∙ ap (λ (d : Drafted). d.start) c.self.view_is;
    }
