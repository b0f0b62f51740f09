use Rattle.std.proofs.Common.{arith, ◌≡◌, ◌<◌, ◌-◌, ◌+◌, slice_set, length, length-set, subst, sym, refl}
use Rattle.tlwords.specs.Runs.{HasNoted}
use Rattle.tlwords.specs.Entries.{slots_of}
use Rattle.tlwords.proofs.Entries.{room_left, noted_indexed, noted_new, entry_within, entry_set, noted_again}
use Rattle.tlwords.proofs.slots.Slots.note.Goals as goal

pub push_reserved-requires : goal.push_reserved-requires
push_reserved-requires c =
    let s = c.self.inside in
    let l : c.args.cell < length (slots_of s.places.items s.entries.items) = subst (λ x. c.args.cell < length x) (sym c.self.view_is)
    c.requires.cell in
    let a = room_left s.places.items s.entries.items c.self.invariant.0 c.args.cell c.index-place.result.now l c.index-place.ensures
    c.if-place-eq0.true in
    let b = s.entries.ok.0 in let i = c.self.invariant.1 in omega arith

pub overflow_cast-len : goal.overflow_cast-len
overflow_cast-len c =
    let s = c.self.inside in
    let l : c.args.cell < length (slots_of s.places.items s.entries.items) = subst (λ x. c.args.cell < length x) (sym c.self.view_is)
    c.requires.cell in
    let a = room_left s.places.items s.entries.items c.self.invariant.0 c.args.cell c.index-place.result.now l c.index-place.ensures
    c.if-place-eq0.true in
    let b = s.entries.ok.0 in let i = c.self.invariant.2 in let k = c.push_reserved.ensures.len in let m = c.len.ensures in omega arith

pub invariant_of-self : goal.invariant_of-self
invariant_of-self c =
    let s = c.self.inside in
    let i = c.self.invariant in
    let l : c.args.cell < length (slots_of s.places.items s.entries.items) = subst (λ x. c.args.cell < length x) (sym c.self.view_is)
    c.requires.cell in
    let long : c.len.result ≡ length s.entries.items + 1 = let b = s.entries.ok.0 in let k = c.push_reserved.ensures.len in let m =
    c.len.ensures in omega arith in
    let size = length-set s.places.items c.args.cell c.len.result in
    let room = c.push_reserved.ensures.capacity in (
      noted_indexed s.places.items s.entries.items i.0 c.args.cell c.index-place.result.now l c.index-place.ensures c.if-place-eq0.true
          c.args.word c.len.result c.push_reserved.new.self.items long c.push_reserved.ensures.items,
      (let a = i.1 in omega arith),
      (let a = i.2 in omega arith),
    )

pub index-entry-requires : goal.index-entry-requires
index-entry-requires c =
    let s = c.self.inside in
    let l : c.args.cell < length (slots_of s.places.items s.entries.items) = subst (λ x. c.args.cell < length x) (sym c.self.view_is)
    c.requires.cell in
    let a = entry_within s.places.items s.entries.items c.self.invariant.0 c.args.cell c.index-place.result.now l c.index-place.ensures
    c.if-place-eq0.false in
    let b = s.entries.ok.0 in omega arith

pub index_mut-requires-else-place-eq0 : goal.index_mut-requires-else-place-eq0
index_mut-requires-else-place-eq0 c =
    let s = c.self.inside in
    let l : c.args.cell < length (slots_of s.places.items s.entries.items) = subst (λ x. c.args.cell < length x) (sym c.self.view_is)
    c.requires.cell in
    let a = entry_within s.places.items s.entries.items c.self.invariant.0 c.args.cell c.index-place.result.now l c.index-place.ensures
    c.if-place-eq0.false in
    let b = s.entries.ok.0 in omega arith

pub invariant_of-self-else-place-eq0 : goal.invariant_of-self-else-place-eq0
invariant_of-self-else-place-eq0 c =
    let s = c.self.inside in
    let i = c.self.invariant in
    let l : c.args.cell < length (slots_of s.places.items s.entries.items) = subst (λ x. c.args.cell < length x) (sym c.self.view_is)
    c.requires.cell in (
      entry_set s.places.items s.entries.items i.0 c.args.cell c.index-place.result.now l c.index-place.ensures c.if-place-eq0.false
          (record { cell = c.args.cell; word = c.args.word; kept = c.index-entry.result.now.kept }) refl,
      i.1,
      i.2,
    )

pub returns-then-place-eq0 : goal.returns-then-place-eq0
returns-then-place-eq0 c =
    let s = c.self.inside in
    let i = c.self.invariant in
    let l : c.args.cell < length (slots_of s.places.items s.entries.items) = subst (λ x. c.args.cell < length x) (sym c.self.view_is)
    c.requires.cell in
    let long : c.len.result ≡ length s.entries.items + 1 = let b = s.entries.ok.0 in let k = c.push_reserved.ensures.len in let m =
    c.len.ensures in omega arith in
    subst (λ x. HasNoted x (slots_of (slice_set s.places.items c.args.cell c.len.result) c.push_reserved.new.self.items) c.args.cell
    c.args.word) c.self.view_is
    (noted_new s.places.items s.entries.items i.0 c.args.cell c.index-place.result.now l c.index-place.ensures c.if-place-eq0.true
    c.args.word c.len.result c.push_reserved.new.self.items long c.push_reserved.ensures.items c.requires.even)

pub returns-else-place-eq0 : goal.returns-else-place-eq0
returns-else-place-eq0 c =
    let s = c.self.inside in
    let i = c.self.invariant in
    let l : c.args.cell < length (slots_of s.places.items s.entries.items) = subst (λ x. c.args.cell < length x) (sym c.self.view_is)
    c.requires.cell in
    let e = c.index-entry.result.now in
    let after = slots_of s.places.items (slice_set s.entries.items (c.index-place.result.now - 1)
    (record { cell = c.args.cell; word = c.args.word; kept = e.kept })) in
    subst (λ x. HasNoted x after c.args.cell c.args.word) c.self.view_is
    (noted_again s.places.items s.entries.items i.0 c.args.cell c.index-place.result.now l c.index-place.ensures c.if-place-eq0.false e
    c.index-entry.ensures
    c.args.word c.requires.even)
