-- What is left to show of `UnitReader::read`.
use Rattle.std.proofs.Common.{sym, subst, ◌∙◌}
use Rattle.mmtext.specs.Views.{seen, Fails}
use Rattle.statementreader.proofs.UnitRows.{kept, row_read, progressed, fails_progress}
use Rattle.statementreader.proofs.unit_reader.UnitReader.read.Goals as goal

pub next_unit_place-requires : goal.next_unit_place-requires
next_unit_place-requires c = c.self.invariant.stands c.symbols.result.now

pub returns-in-Err : goal.returns-in-Err
returns-in-Err c =
    let why = c.in-Err.stop in
    let read = row_read c.args.prelude.now c.symbols.result.now c.args.self c.self.inside.units c.self.inside.place (seen c.args.token)
    c.mark_word.result c.symbols.ensures (sym c.self.view_is) c.mark_word.ensures in
    fails_progress c.args.prelude.now why _ (subst (Fails why) (sym read) c.in-Err.ensures)

pub progress-requires-clause-unit : goal.progress-requires-clause-unit
progress-requires-clause-unit c =
    (kept c.symbols.result.now c.self.inside.units c.self.inside.place (seen c.args.token) c.mark_word.result
    c.next_unit_place.new.units c.in-Ok.place c.self.invariant c.mark_word.ensures c.in-Ok.ensures).unit

pub progress-requires-clause-goes_on : goal.progress-requires-clause-goes_on
progress-requires-clause-goes_on c =
    (kept c.symbols.result.now c.self.inside.units c.self.inside.place (seen c.args.token) c.mark_word.result
    c.next_unit_place.new.units c.in-Ok.place c.self.invariant c.mark_word.ensures c.in-Ok.ensures).goes_on

pub returns-in-Ok : goal.returns-in-Ok
returns-in-Ok c =
    let t = c.args.prelude.now in
    let read = row_read t c.symbols.result.now c.args.self c.self.inside.units c.self.inside.place (seen c.args.token)
    c.mark_word.result c.symbols.ensures (sym c.self.view_is) c.mark_word.ensures in
    progressed t c.symbols.result.now c.progress.result _ c.next_unit_place.new.units c.in-Ok.place c.symbols.ensures
    (read ∙ c.in-Ok.ensures) (c.progress.ensures t)
