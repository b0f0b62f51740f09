use Rattle.std.proofs.Common.{◌≡◌, ◌∷◌, ◌++◌, [], Some, length, set, refl, sym, ap, subst, ◌∙◌}
use Rattle.std.specs.List.{slice_get}
use Rattle.std.proofs.lemmas.Option.{slice_get_within, slice_get_read}
use Rattle.mmframes.specs.Frames.{frame}
use Rattle.library.specs.declared.library.Ranked.{Ranked}
use Rattle.library.specs.Library.{label_of}
use Rattle.catalog.specs.declared.notes.Note.{Note}
use Rattle.catalog.specs.Entries.{living, StandsIn}
use Rattle.catalog.specs.Places.{Puts, place_in}
use Rattle.catalog.specs.Citers.{Covers}
use Rattle.catalog.specs.Changes.{IsAlone, undone}
use Rattle.history.specs.Drafts.{Drafted, IsDraft, IsCounted}
use Rattle.catalog.proofs.Changing.{count-changed}
use Rattle.catalog.proofs.Indexes.{puts-same, stands-alone}
use Rattle.history.proofs.Listed.{citers_noted}
use Rattle.history.proofs.Drafting.{draft_noted}
use Rattle.history.proofs.draft.Draft.replace.Goals as goal

abbrev Replaced : goal.After-push_reserved → Type 0
Replaced c =
    let i = c.self.inside in
    let now = set i.entries.items c.args.place c.replace-former.new.dest in
    IsDraft i.prelude i.places i.frames.items c.push_reserved.new.self.items now
    × IsCounted i.count i.start_count c.push_reserved.new.self.items now
    × (undone c.push_reserved.new.self.items now ≡ undone i.notes.items i.entries.items)

replaced : (c : goal.After-push_reserved) → Replaced c
replaced c =
    let i = c.self.inside in
    let t = i.prelude in
    let es = i.entries.items in
    let m = i.places in
    let p = c.args.place in
    let new = c.args.new in
    let was = c.requires.succeeds.former in
    let held : es ≡ c.args.self.now.entries = ap (λ (d : Drafted). d.entries) c.self.view_is in
    let stands : StandsIn es p was = subst (λ l. StandsIn l p was) (sym held) c.requires.succeeds.at in
    let one = stands-alone m es p was c.self.invariant.0.indexed stands in
    let alone : IsAlone es (label_of new) p = subst (λ w. IsAlone es w p) (sym c.requires.succeeds.labelled) one in
    let puts : Puts m (label_of new) p m =
    puts-same m (label_of new) p (ap (place_in m) c.requires.succeeds.labelled ∙ c.self.invariant.0.indexed.finds p was stands) in
    let framed = c.self.invariant.0.framed.framed p was stands in
    let table = ap (λ (d : Drafted). d.setting.prelude) c.self.view_is in
    let frames : frame t new.assertion ≡ frame t was.assertion = rw table c.requires.succeeds.framed in
    let own : (e : Ranked) → Some new ≡ Some e → slice_get i.frames.items p ≡ Some (frame t e.assertion) = λ e is.
    let same : new ≡ e = cc in
    framed ∙ ap (λ f. Some f) (sym frames) ∙ ap (λ (x : Ranked). Some (frame t x.assertion)) same in
    let at =
    slice_get_read es (length es) p c.index_mut.result.now refl (slice_get_within es p (Some was) stands) c.index_mut.ensures.value
    ∙ ap (λ x. Some x) (sym c.replace-former.ensures.value) in
    let note : Note = record { place = p; former = c.replace-former.result } in
    let noted = c.push_reserved.ensures.items ∙ ap (λ ks. ks ++ note ∷ []) c.reserve.ensures.items in
    draft_noted t m m i.frames.items i.notes.items c.push_reserved.new.self.items es _ p c.replace-former.result
    (Some new) i.count i.count i.start_count c.self.invariant.0 c.self.invariant.1 at own alone puts noted
    (ap (set es p) c.replace-former.ensures.after) (c.self.invariant.1.now_right ∙ sym (count-changed es p was new stands))

pub invariant_of-self-2 : goal.invariant_of-self-2
invariant_of-self-2 c =
    let i = c.self.inside in
    let es = i.entries.items in
    let p = c.args.place in
    let r = replaced c in
    let covered = subst (λ (d : Drafted). Covers d.citers (set d.entries p (Some c.args.new))) (sym c.self.view_is) c.requires.covered in
    let listed = citers_noted i.citers.items i.notes.items c.push_reserved.new.self.items es p c.replace-former.new.dest c.self.invariant.3
    (subst (λ o. Covers i.citers.items (set es p o)) (sym c.replace-former.ensures.after) covered) r.2 in
    (r.0, r.1, c.self.invariant.2, listed, c.self.invariant.4)

pub returns-clause-kept : goal.returns-clause-kept
returns-clause-kept c =
    let r = replaced c in
    record {
      setting = ap (λ (d : Drafted). d.setting) c.self.view_is;
      start =
          ap living r.2 ∙ ap (λ (d : Drafted). d.start) c.self.view_is;
    }
