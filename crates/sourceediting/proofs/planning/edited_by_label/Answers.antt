-- What is left to show of `edited_by_label`.
use Rattle.std.proofs.Common.{◌≡◌, ◌∙◌, Some, get_or, map, sym, ap, rules, arith}
use Rattle.std.specs.Option.{option_map}
use Rattle.std.proofs.lemmas.List.{length-map}
use Rattle.std.proofs.lemmas.Option.{slice_get-map, slice_get-get_or}
use Rattle.mmsyntax.specs.declared.statement.Assertion.{Assertion}
use Rattle.library.proofs.Filtered.{contains_mapped}
use Rattle.library.specs.declared.library.Ranked.{Ranked}
use Rattle.sourceediting.proofs.Labelled.{labelled_more, found_more, placed}
use Rattle.sourceediting.proofs.planning.edited_by_label.Goals as goal

abbrev assertion : Ranked → Assertion
assertion r = r.assertion

pub loop-entry-preserved : goal.loop-entry-preserved
loop-entry-preserved c =
    let entries = c.args.entries.now in
    let i = c.loop-entry.entry-index in
    let entry = c.entry-item.result in
    let there : get_or entries i entry ≡ entry = search rules in
    record {
      labelled =
          labelled_more c.loop-entry.found c.insert.new.self (map assertion entries) c.as_slice.result.now _
          c.loop-entry.invariant.labelled
          (contains_mapped assertion entries entry (i, c.loop-entry-test.true, there)) (sym c.as_slice.ensures)
          c.in_ok-insert.ensures.updates;
      all =
          found_more c.loop-entry.found c.insert.new.self (map assertion entries) i _ c.as_slice.result.now (sym c.as_slice.ensures)
          (slice_get-map assertion entries i
          ∙ ap (option_map assertion) (slice_get-get_or entries i entry c.loop-entry-test.true ∙ ap (λ (r : Ranked). Some r) there))
          c.in_ok-insert.ensures.updates c.loop-entry.invariant.all;
    }

pub returns-clause-all : goal.returns-clause-all
returns-clause-all c = λ a has.
    let place = placed (map assertion c.args.entries.now) a has in
    let many = length-map c.args.entries.now assertion in
    c.loop-entry.invariant.all place.0 a place.2 (omega (arith, place.1, many, c.loop-entry-test.false))
