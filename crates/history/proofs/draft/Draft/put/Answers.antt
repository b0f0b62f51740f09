use Rattle.std.proofs.Common.{◌≡◌, ℕ, ◌+◌, List, ◌<◌, ◌∷◌, ◌++◌, [], Option, Some, false, get_or, length, set, refl, sym, ap, subst, ◌∙◌}
use Rattle.std.proofs.Common.{rules, arith}
use Rattle.std.specs.List.{slice_get}
use Rattle.std.proofs.lemmas.List.{length-set}
use Rattle.std.proofs.lemmas.Option.{slice_get_within, slice_get_read}
use Rattle.mmsyntax.proofs.Names.{after_update}
use Rattle.mmsyntax.specs.declared.statement.Frame.{Frame}
use Rattle.mmframes.specs.Frames.{frame}
use Rattle.library.specs.declared.library.Ranked.{Ranked}
use Rattle.library.specs.Library.{label_of}
use Rattle.library.specs.Edits.{has}
use Rattle.catalog.specs.declared.notes.Note.{Note}
use Rattle.catalog.specs.Entries.{Entries, living}
use Rattle.catalog.specs.Places.{Puts}
use Rattle.catalog.specs.Trunks.{IsEntered, AreTrunks}
use Rattle.catalog.specs.Citers.{Covers}
use Rattle.catalog.specs.Changes.{undone}
use Rattle.history.specs.Drafts.{Drafted, IsDraft, IsCounted}
use Rattle.catalog.proofs.Changing.{count-into, count-within}
use Rattle.catalog.proofs.Dotted.{trunks-put, trunks-kept, labels-same}
use Rattle.catalog.proofs.Indexes.{free-alone}
use Rattle.history.proofs.Listed.{citers_noted}
use Rattle.history.proofs.Drafting.{draft_noted, draft_same}
use Rattle.history.proofs.draft.Draft.put.Goals as goal

-- the place, by its frame
within : (es : Entries) (frames held : List Frame) (p : ℕ) (f : Frame) → length frames ≡ length es → frames ≡ held
    → slice_get held p ≡ Some f
    → p < length es
within es frames held p f long same at =
    let lt = slice_get_within held p f at in
    let lengths = ap length same in
    omega arith

pub invariant_of-self-in_err-enter_trunk : goal.invariant_of-self-in_err-enter_trunk
invariant_of-self-in_err-enter_trunk c =
    let i = c.self.inside in
    rw c.reserve.ensures.items (
      c.self.invariant.0,
      c.self.invariant.1,
      c.self.invariant.2,
      c.self.invariant.3,
      trunks-kept i.trunks c.enter_trunk.new.trunks i.places i.places c.in_err-enter_trunk.ensures.kept (labels-same i.places i.places refl)
          c.self.invariant.4,
    )

pub invariant_of-self-in_err-insert : goal.invariant_of-self-in_err-insert
invariant_of-self-in_err-insert c =
    let i = c.self.inside in
    rw c.reserve.ensures.items (
      draft_same i.prelude i.places c.insert.new.self i.frames.items i.notes.items i.entries.items c.in_err-insert.ensures.err
          c.self.invariant.0,
      c.self.invariant.1,
      c.self.invariant.2,
      c.self.invariant.3,
      trunks-kept i.trunks c.enter_trunk.new.trunks i.places c.insert.new.self c.in_ok-enter_trunk.ensures.kept
          (labels-same i.places c.insert.new.self c.in_err-insert.ensures.err) c.self.invariant.4,
    )

pub index_mut-requires : goal.index_mut-requires
index_mut-requires c =
    let i = c.self.inside in
    let frames = ap (λ (d : Drafted). d.frames) c.self.view_is in
    let lt = within i.entries.items i.frames.items c.args.self.now.frames c.args.place _ c.self.invariant.0.framed.long frames
    c.requires.framed in
    let all : i.entries.len ≡ length i.entries.items = search rules in
    omega arith

-- what stood at the place
stood : (es : Entries) (p : ℕ) (d r : Option Ranked) → p < length es → d ≡ get_or es p d → r ≡ d → slice_get es p ≡ Some r
stood es p d r lt read same = slice_get_read es (length es) p d refl lt read ∙ ap (λ x. Some x) (sym same)

pub overflow_add-self : goal.overflow_add-self
overflow_add-self c =
    let i = c.self.inside in
    let es = i.entries.items in
    let p = c.args.place in
    let frames = ap (λ (d : Drafted). d.frames) c.self.view_is in
    let lt = within es i.frames.items c.args.self.now.frames p _ c.self.invariant.0.framed.long frames c.requires.framed in
    let at = stood es p c.index_mut.result.now c.replace-former.result lt c.index_mut.ensures.value c.replace-former.ensures.value in
    let one = count-into es p c.replace-former.result c.args.new c.is_none.result at c.is_none.ensures in
    let count = c.self.invariant.1.now_right in
    let few = count-within (set es p (Some c.args.new)) in
    let long = length-set es p (Some c.args.new) in
    let all : i.entries.len ≡ length es = search rules in
    let bit = c.from.ensures in
    omega arith

abbrev Put : goal.After-push_reserved → Type 0
Put c =
    let i = c.self.inside in
    let now = set i.entries.items c.args.place c.replace-former.new.dest in
    IsDraft i.prelude c.insert.new.self i.frames.items c.push_reserved.new.self.items now
    × IsCounted (i.count + c.from.result) i.start_count c.push_reserved.new.self.items now
    × (undone c.push_reserved.new.self.items now ≡ undone i.notes.items i.entries.items)

put : (c : goal.After-push_reserved) → Put c
put c =
    let i = c.self.inside in
    let t = i.prelude in
    let es = i.entries.items in
    let m = i.places in
    let n = c.insert.new.self in
    let p = c.args.place in
    let new = c.args.new in
    let w = label_of new in
    let held = ap (λ (d : Drafted). d.entries) c.self.view_is in
    let frames = ap (λ (d : Drafted). d.frames) c.self.view_is in
    let table = ap (λ (d : Drafted). d.setting.prelude) c.self.view_is in
    let lt = within es i.frames.items c.args.self.now.frames p _ c.self.invariant.0.framed.long frames c.requires.framed in
    let at = stood es p c.index_mut.result.now c.replace-former.result lt c.index_mut.ensures.value c.replace-former.ensures.value in
    let free : has (living es) w ≡ false = subst (λ l. has (living l) w ≡ false) (sym held) c.requires.free in
    let framed : slice_get i.frames.items p ≡ Some (frame t new.assertion) =
    subst (λ fs. slice_get fs p ≡ Some (frame t new.assertion)) (sym frames)
    (subst (λ y. slice_get c.args.self.now.frames p ≡ Some (frame y new.assertion)) (sym table) c.requires.framed) in
    let own : (e : Ranked) → Some new ≡ Some e → slice_get i.frames.items p ≡ Some (frame t e.assertion) = λ e is.
    let same : new ≡ e = cc in
    framed ∙ ap (λ (x : Ranked). Some (frame t x.assertion)) same in
    let key : c.in_ok-key.key.items ≡ w = search rules in
    let puts = subst (λ k. Puts m k p n) key (after_update c.in_ok-key.key.items m n (Some p) c.in_ok-insert.ensures.updates) in
    let note : Note = record { place = p; former = c.replace-former.result } in
    let noted = c.push_reserved.ensures.items ∙ ap (λ ks. ks ++ note ∷ []) c.reserve.ensures.items in
    let one = count-into es p c.replace-former.result new c.is_none.result at c.is_none.ensures in
    let count = c.self.invariant.1.now_right in
    let bit = c.from.ensures in
    draft_noted t m n i.frames.items i.notes.items c.push_reserved.new.self.items es _ p c.replace-former.result (Some new) i.count
    (i.count + c.from.result) i.start_count c.self.invariant.0 c.self.invariant.1 at own (free-alone es w p free) puts noted
    (ap (set es p) c.replace-former.ensures.after) (omega arith)

entered : (c : goal.After-push_reserved) → AreTrunks c.enter_trunk.new.trunks c.insert.new.self
entered c =
    let i = c.self.inside in
    let tr = c.enter_trunk.new.trunks in
    let n = c.insert.new.self in
    let w = label_of c.args.new in
    let key : c.in_ok-key.key.items ≡ w = search rules in
    let puts = after_update c.in_ok-key.key.items i.places n (Some c.args.place) c.in_ok-insert.ensures.updates in
    trunks-put i.trunks tr i.places n w c.args.place c.self.invariant.4 c.in_ok-enter_trunk.ensures.kept
    (subst (IsEntered tr) c.as_slice-label.ensures c.in_ok-enter_trunk.ensures.entered)
    (subst (λ k. Puts i.places k c.args.place n) key puts)

pub invariant_of-self-2 : goal.invariant_of-self-2
invariant_of-self-2 c =
    let i = c.self.inside in
    let es = i.entries.items in
    let p = c.args.place in
    let r = put c in
    let covered = subst (λ (d : Drafted). Covers d.citers (set d.entries p (Some c.args.new))) (sym c.self.view_is) c.requires.covered in
    let listed = citers_noted i.citers.items i.notes.items c.push_reserved.new.self.items es p c.replace-former.new.dest c.self.invariant.3
    (subst (λ o. Covers i.citers.items (set es p o)) (sym c.replace-former.ensures.after) covered) r.2 in
    (r.0, r.1, c.self.invariant.2, listed, entered c)

pub returns-clause-kept : goal.returns-clause-kept
returns-clause-kept c =
    let r = put c in
    record {
      setting = ap (λ (d : Drafted). d.setting) c.self.view_is;
      start =
          ap living r.2 ∙ ap (λ (d : Drafted). d.start) c.self.view_is;
    }

pub returns-clause-done : goal.returns-clause-done
returns-clause-done c =
    record {
      entries = ap (set c.self.inside.entries.items c.args.place) c.replace-former.ensures.after
          ∙ ap (λ (d : Drafted). set d.entries c.args.place (Some c.args.new)) c.self.view_is;
      frames = ap (λ (d : Drafted). d.frames) c.self.view_is;
      citers = ap (λ (d : Drafted). d.citers) c.self.view_is;
    }
