use Rattle.std.proofs.Common.{◌<◌, length, ◌∙◌, rules}
use Rattle.mmsyntax.specs.declared.statement.Step.TheVariants.{Cite}
use Rattle.mmsyntax.specs.ProofWords.{seen_step}
use Rattle.mmsyntax.proofs.Names.{bytes_eq-sym}
use Rattle.library.specs.Library.{label_of}
use Rattle.catalog.proofs.Counting.{no-citation, place-within, noted-else, noted-again, noted-new}
use Rattle.catalog.proofs.Living.{has-not-at}
use Rattle.catalog.proofs.listing.note_step.Goals as goal

pub returns-in_default : goal.returns-in_default
returns-in_default c = λ steps first h.
    noted-else c.args.entries.now c.args.number steps first c.args.counts.now c.args.stamps.now (seen_step c.args.step) h
    (λ p e at. no-citation c.args.step (label_of e) c.in_default.not-Cite)

pub returns-in_default-find_label : goal.returns-in_default-find_label
returns-in_default-find_label c = λ steps first h.
    let w = c.in-Cite.label.now in
    rw c.in-Cite.is
    (noted-else c.args.entries.now c.args.number steps first c.args.counts.now c.args.stamps.now (Cite w) h
    (λ p e at. bytes_eq-sym (label_of e) w ∙ has-not-at c.args.entries.now w p e c.in_default-find_label.ensures at))

pub bounds-stamps-place : goal.bounds-stamps-place
bounds-stamps-place c = place-within c.args.entries.now _ c.in-Some.place c.args.stamps.now c.in-Some.ensures c.requires.stamps_long

pub bounds-stamps-place-then-stamps-place : goal.bounds-stamps-place-then-stamps-place
bounds-stamps-place-then-stamps-place c =
    place-within c.args.entries.now _ c.in-Some.place c.args.stamps.now c.in-Some.ensures c.requires.stamps_long

pub bounds-counts-place : goal.bounds-counts-place
bounds-counts-place c = place-within c.args.entries.now _ c.in-Some.place c.args.counts.now c.in-Some.ensures c.requires.counts_long

pub bounds-counts-place-then-stamps-place : goal.bounds-counts-place-then-stamps-place
bounds-counts-place-then-stamps-place c =
    place-within c.args.entries.now _ c.in-Some.place c.args.counts.now c.in-Some.ensures c.requires.counts_long

pub offset_bounds-stamps-place : goal.offset_bounds-stamps-place
offset_bounds-stamps-place c =
    let within : c.in-Some.place < length c.args.stamps.now =
    place-within c.args.entries.now _ c.in-Some.place c.args.stamps.now c.in-Some.ensures c.requires.stamps_long in
    search rules

pub offset_bounds-stamps-place-then-stamps-place : goal.offset_bounds-stamps-place-then-stamps-place
offset_bounds-stamps-place-then-stamps-place c =
    let within : c.in-Some.place < length c.args.stamps.now =
    place-within c.args.entries.now _ c.in-Some.place c.args.stamps.now c.in-Some.ensures c.requires.stamps_long in
    search rules

pub offset_bounds-counts-place : goal.offset_bounds-counts-place
offset_bounds-counts-place c =
    let within : c.in-Some.place < length c.args.counts.now =
    place-within c.args.entries.now _ c.in-Some.place c.args.counts.now c.in-Some.ensures c.requires.counts_long in
    search rules

pub returns-then-stamps-place : goal.returns-then-stamps-place
returns-then-stamps-place c = λ steps first h.
    let c_in = place-within c.args.entries.now _ c.in-Some.place c.args.counts.now c.in-Some.ensures c.requires.counts_long in
    let s_in = place-within c.args.entries.now _ c.in-Some.place c.args.stamps.now c.in-Some.ensures c.requires.stamps_long in
    rw c.in-Cite.is
    (noted-new c.args.entries.now c.args.number steps first c.args.counts.now c.args.stamps.now c.args.places.now c.requires.indexed
    c.in-Cite.label.now c.in-Some.place c.in-Some.ensures h c.if-stamps-place.true c_in s_in)

pub returns-else-stamps-place : goal.returns-else-stamps-place
returns-else-stamps-place c = λ steps first h.
    rw c.in-Cite.is
    (noted-again c.args.entries.now c.args.number steps first c.args.counts.now c.args.stamps.now c.args.places.now c.requires.indexed
    c.in-Cite.label.now c.in-Some.place c.in-Some.ensures h c.if-stamps-place.false)
