-- What is left to show of `place_by_row`.
use Rattle.std.proofs.Common.{sym, subst, ap, ◌∙◌}
use Rattle.mmsyntax.specs.Faults.{in_place}
use Rattle.mmtext.specs.Views.{seen}
use Rattle.mmunits.specs.Views.{known_of}
use Rattle.statementreader.specs.Views.{seen_place, seen_position, Leads}
use Rattle.statementreader.proofs.Runs.{unit_row_at}
use Rattle.statementreader.proofs.units.place_by_row.Goals as goal

pub returns : goal.returns
returns c =
    let here = seen_position c.args.symbols.now c.args.units.now c.args.place in
    let token = seen c.args.marked.token in
    let before = sym (c.is_behind_unit.ensures c.args.symbols.now) ∙ c.if-is_behind_unit.false in
    let at_place =
    ap (λ p. in_place (known_of c.args.symbols.now c.args.units.now) (seen_place p) token c.args.marked.mark) (sym c.in-Unit.is) in
    subst (Leads c.args.symbols.now c.next_unit_place.new.units c.next_unit_place.result)
    (at_place ∙ sym (unit_row_at here token c.args.marked.mark c.requires.mark before)) c.next_unit_place.ensures
