use Rattle.std.proofs.Common.{arith, sym, slice_index_or, None}
use Rattle.std.proofs.lemmas.Option.{get_or_from_slice_get}
use Rattle.tlwords.specs.declared.slots.Entry.{Entry}
use Rattle.tlwords.proofs.Entries.{wiped_next, wiped_all, entry_bound}
use Rattle.tlwords.proofs.slots.wipe.Goals as goal

pub offset_bounds-places-cell : goal.offset_bounds-places-cell
offset_bounds-places-cell c =
    let d : Entry = record { cell = 0; word = 0; kept = None } in
    let a = entry_bound c.args.places.now c.args.entries.now c.requires.indexed c.loop-i.i d c.loop-i-test.true in
    let b = c.requires.small in omega arith

pub bounds-places-cell : goal.bounds-places-cell
bounds-places-cell c =
    let d : Entry = record { cell = 0; word = 0; kept = None } in
    let a = entry_bound c.args.places.now c.args.entries.now c.requires.indexed c.loop-i.i d c.loop-i-test.true in
    let b = c.loop-i.auto.places in omega arith

pub loop-i-preserved : goal.loop-i-preserved
loop-i-preserved c =
    let d : Entry = record { cell = 0; word = 0; kept = None } in
    wiped_next c.args.places.now c.args.entries.now c.loop-i.places c.loop-i.i (slice_index_or c.args.entries.now c.loop-i.i d)
    (λ f g. sym (get_or_from_slice_get c.args.entries.now c.loop-i.i f d g)) c.loop-i.invariant

pub returns : goal.returns
returns c = wiped_all c.args.places.now c.args.entries.now c.loop-i.places c.loop-i.i c.requires.indexed c.loop-i-test.false
    c.loop-i.invariant
