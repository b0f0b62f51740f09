use Rattle.std.proofs.Common.{◌≡◌, ◌<◌, ◌-◌, slice_set, length, subst, sym, refl, ap, ◌∙◌, true, false, is_some, Some}
use Rattle.tlwords.specs.Runs.{was_read, HasKept}
use Rattle.tlwords.specs.Entries.{slots_of}
use Rattle.tlwords.proofs.Entries.{read_placed, entry_set, value_kept_new}
use Rattle.tlwords.proofs.slots.Slots.keep.Goals as goal

pub invariant_of-self : goal.invariant_of-self
invariant_of-self c =
    let s = c.self.inside in
    let l : c.args.cell < length (slots_of s.places.items s.entries.items) = subst (λ x. c.args.cell < length x) (sym c.self.view_is)
    c.requires.cell in
    let read : was_read (slots_of s.places.items s.entries.items) c.args.cell ≡ true = subst (λ x. was_read x c.args.cell ≡ true)
    (sym c.self.view_is) c.requires.read in
    let some = read_placed s.places.items s.entries.items c.self.invariant.0 c.args.cell c.index.result.now l c.index.ensures
    (λ z. let a : true ≡ false = sym read ∙ ap is_some z in cc) in
    let e = c.index-entry.result.now in
    let i = c.self.invariant in (
      entry_set s.places.items s.entries.items i.0 c.args.cell c.index.result.now l c.index.ensures some
          (record { cell = c.args.cell; word = e.word; kept = Some c.args.value }) refl,
      i.1,
      i.2,
    )

pub returns : goal.returns
returns c =
    let s = c.self.inside in
    let l : c.args.cell < length (slots_of s.places.items s.entries.items) = subst (λ x. c.args.cell < length x) (sym c.self.view_is)
    c.requires.cell in
    let read : was_read (slots_of s.places.items s.entries.items) c.args.cell ≡ true = subst (λ x. was_read x c.args.cell ≡ true)
    (sym c.self.view_is) c.requires.read in
    let some = read_placed s.places.items s.entries.items c.self.invariant.0 c.args.cell c.index.result.now l c.index.ensures
    (λ z. let a : true ≡ false = sym read ∙ ap is_some z in cc) in
    let e = c.index-entry.result.now in
    let after = slots_of s.places.items (slice_set s.entries.items (c.index.result.now - 1)
    (record { cell = c.args.cell; word = e.word; kept = Some c.args.value })) in
    subst (λ x. HasKept x after c.args.cell c.args.value) c.self.view_is
    (value_kept_new s.places.items s.entries.items c.self.invariant.0 c.args.cell c.index.result.now l c.index.ensures some e
    c.index-entry.ensures c.args.value read)
