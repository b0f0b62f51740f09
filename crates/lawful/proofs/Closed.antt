-- What the words say and show at the end.
use Rattle.std.proofs.Common.{◌≡◌, ℕ, ◌/◌, List, length, map, Some, sym, ap, subst, ◌∙◌, arith}
use Rattle.std.specs.Prelude.{slice_get, slice_index}
use Rattle.std.proofs.lemmas.List.{get_or-map, take_all}
use Rattle.std.proofs.lemmas.Option.{slice_get_within, get_or_from_slice_get}
use Rattle.library.specs.Histories.{after_all}
use Rattle.tlwords.specs.declared.closing.ClosedCell.{ClosedCell}
use Rattle.cells.specs.Shows.{Shows}
use Rattle.lawful.specs.Lawful.{setting_given, first_library, state_of}
use Rattle.lawful.specs.History.{history_of, library_after, state_after}
use Rattle.lawful.specs.Laws.{ClosedHistoriesStand, ClosedWordsShow}
use Rattle.lawful.proofs.Entries.{at_index, length-entries_of}
use Rattle.lawful.proofs.Keeping.{shown_is_kept}
use Rattle.lawful.proofs.Standing.{is_history, all_agree, small_store}

abbrev values_of : List ClosedCell → List ℕ
values_of cells = map (λ x. x.value) cells

value_in : (cells : List ClosedCell) (i : ℕ) (x : ClosedCell) → slice_get cells i ≡ Some x → slice_index (values_of cells) i ≡ x.value
value_in cells i x at =
    get_or-map (λ (y : ClosedCell). y.value) cells i x 0 (slice_get_within cells i x at)
    ∙ ap (λ (y : ClosedCell). y.value) (get_or_from_slice_get cells i x x at)

pub closed_histories_stand : ClosedHistoriesStand
closed_histories_stand g base opened words c small =
    let store = small_store c.seen.ranges small c.ranges in
    (is_history g base c.seen c.legal c.noted c.opening store, all_agree g base c.seen c.legal c.noted c.opening store)

pub closed_words_show : ClosedWordsShow
closed_words_show g base opened words c small free =
    let seen = c.seen in
    let history = (closed_histories_stand g base opened words c small).0 in
    let size = length-entries_of seen.history seen.notes in
    let library : library_after g seen (length seen.history) ≡ after_all (setting_given g) (first_library g) (history_of seen) =
    ap (library_after g seen) (sym size)
    ∙ ap (after_all (setting_given g) (first_library g)) (take_all _ (history_of seen) (omega arith)) in
    let count = c.shows.count in
    let wide = c.opening.opens.count in
    shown_is_kept g.slots (state_after base seen (length seen.history)) (state_of (values_of words.cells.items) seen.ranges) _
    (λ i lt.
    let x = at_index words.cells.items i (omega (arith, lt, count, wide)) in
    let even = free i x.0 x.1 in
    value_in words.cells.items i x.0 x.1 ∙ (c.shows.free i (x.0.lock / 2) x.0 x.1 (omega (arith, even))).1)
    (λ r has. has)
    (subst (λ z. Shows g.slots (state_after base seen (length seen.history)) z) library (history.show (length seen.history) (omega arith)))
