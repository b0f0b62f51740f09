use Rattle.std.proofs.Common.{arith, ◌≡◌, ◌<◌, length, subst, sym, Some}
use Rattle.tlwords.specs.Runs.{word_seen, value_kept}
use Rattle.tlwords.specs.Entries.{slots_of}
use Rattle.tlwords.proofs.Entries.{entry_within, entry_seen}
use Rattle.tlwords.proofs.slots.Slots.get.Goals as goal

pub index-entry-requires : goal.index-entry-requires
index-entry-requires c =
    let s = c.self.inside in
    let l : c.args.cell < length (slots_of s.places.items s.entries.items) = subst (λ x. c.args.cell < length x) (sym c.self.view_is)
    c.requires in
    let a = entry_within s.places.items s.entries.items c.self.invariant.0 c.args.cell c.index-place.result.now l c.index-place.ensures
    c.if-place-eq0.false in
    let b = s.entries.ok.0 in omega arith

pub returns : goal.returns
returns c =
    let s = c.self.inside in
    let l : c.args.cell < length (slots_of s.places.items s.entries.items) = subst (λ x. c.args.cell < length x) (sym c.self.view_is)
    c.requires in
    let e = c.index-entry.result.now in
    subst (λ x. (word_seen x c.args.cell ≡ Some e.word) × (value_kept x c.args.cell ≡ e.kept)) c.self.view_is
    (entry_seen s.places.items s.entries.items c.self.invariant.0 c.args.cell c.index-place.result.now l c.index-place.ensures
    c.if-place-eq0.false e c.index-entry.ensures)
