-- What is left to show of `progress`.
use Rattle.std.proofs.Common.{[], sym, ◌∙◌}
use Rattle.mmsyntax.specs.Tables.{Tables}
use Rattle.mmunits.specs.Views.{known_of}
use Rattle.statementreader.specs.Views.{seen_place}
use Rattle.statementreader.proofs.UnitRows.{some_first}
use Rattle.statementreader.proofs.unit_reader.progress.Goals as goal

pub unreachable-requires : goal.unreachable-requires
unreachable-requires c =
    let t : Tables = record { constants = []; variables = []; floats = [] } in
    some_first (known_of t c.args.units) (seen_place c.args.place) (sym c.if-is_behind_unit.true ∙ c.is_behind_unit.ensures t)
    (sym c.into_first.ensures ∙ c.in-None.is)
