-- What is left to show of `next_place`.
use Rattle.std.proofs.Common.{sym, subst}
use Rattle.mmtext.specs.Views.{seen}
use Rattle.mmtext.proofs.Turns.{same_reading}
use Rattle.mmsyntax.specs.Faults.{in_place}
use Rattle.mmunits.specs.Views.{known_of}
use Rattle.statementreader.specs.declared.place.Place.{Place}
use Rattle.statementreader.specs.Views.{seen_place, seen_position, Leads}
use Rattle.statementreader.proofs.Runs.{row_at, stands_on}
use Rattle.mmreader.proofs.reading.next_place.Goals as goal

pub returns-in-Prelude-clause-leads : goal.returns-in-Prelude-clause-leads
returns-in-Prelude-clause-leads c =
    let here = seen_position c.args.symbols.now c.args.units.now c.args.place in
    let t = seen c.args.marked.token in
    let r = c.next_prelude_place in
    same_reading _ r.result _ _ (sym (row_at here t c.args.marked.mark c.requires.mark))
    (subst
    (λ (p : Place). Leads r.new.symbols c.args.units.now r.result
    (in_place (known_of c.args.symbols.now c.args.units.now) (seen_place p) t c.args.marked.mark))
    (sym c.in-Prelude.is) r.ensures)

pub returns-in-Prelude-clause-stands : goal.returns-in-Prelude-clause-stands
returns-in-Prelude-clause-stands c =
    let here = seen_position c.args.symbols.now c.args.units.now c.args.place in
    let t = seen c.args.marked.token in
    let r = c.next_prelude_place in
    stands_on here t c.args.marked.mark r.new.symbols c.args.units.now r.result c.requires.mark c.requires.stands
    (subst
    (λ (p : Place). Leads r.new.symbols c.args.units.now r.result
    (in_place (known_of c.args.symbols.now c.args.units.now) (seen_place p) t c.args.marked.mark))
    (sym c.in-Prelude.is) r.ensures)

pub returns-in-Unit-clause-leads : goal.returns-in-Unit-clause-leads
returns-in-Unit-clause-leads c =
    let here = seen_position c.args.symbols.now c.args.units.now c.args.place in
    let t = seen c.args.marked.token in
    let r = c.next_unit_place in
    same_reading _ r.result _ _ (sym (row_at here t c.args.marked.mark c.requires.mark))
    (subst
    (λ (p : Place). Leads c.args.symbols.now r.new.units r.result
    (in_place (known_of c.args.symbols.now c.args.units.now) (seen_place p) t c.args.marked.mark))
    (sym c.in-Unit.is) r.ensures)

pub returns-in-Unit-clause-stands : goal.returns-in-Unit-clause-stands
returns-in-Unit-clause-stands c =
    let here = seen_position c.args.symbols.now c.args.units.now c.args.place in
    let t = seen c.args.marked.token in
    let r = c.next_unit_place in
    stands_on here t c.args.marked.mark c.args.symbols.now r.new.units r.result c.requires.mark c.requires.stands
    (subst
    (λ (p : Place). Leads c.args.symbols.now r.new.units r.result
    (in_place (known_of c.args.symbols.now c.args.units.now) (seen_place p) t c.args.marked.mark))
    (sym c.in-Unit.is) r.ensures)
