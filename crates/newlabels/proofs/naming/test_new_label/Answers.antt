use Rattle.std.proofs.Common.{sym, subst, ◌∙◌}
use Rattle.cells.specs.Lookups.{TellsAvailability}
use Rattle.newlabels.specs.Naming.{TellsNotNew}
use Rattle.newlabels.proofs.NewLabels.{lawful_later, taken_refuses, clash_refuses, new_passes}
use Rattle.cells.proofs.Along.{where_same}
use Rattle.newlabels.proofs.naming.test_new_label.Goals as goal

pub returns-in-Taken-clause-err : goal.returns-in-Taken-clause-err
returns-in-Taken-clause-err g c =
    let s = g.C.Cells.sight c.availability_of.new.cells in
    let own = c.args.own.now in
    let label = c.args.label.now in
    let lawful = lawful_later _ s c.args.prelude.now label c.requires c.availability_of.ensures.looks
    (sym c.is_lawful_label.ensures ∙ c.if-not-is_lawful_label.false) in
    let told = c.in_ok-availability_of.ensures.ok in
    subst (TellsNotNew s own label) (sym c.into-in-Taken.ensures)
    (taken_refuses s own label lawful (subst (TellsAvailability s own label) c.in-Taken.is told))

pub returns-in-Clashing-clause-err : goal.returns-in-Clashing-clause-err
returns-in-Clashing-clause-err g c =
    let s = g.C.Cells.sight c.availability_of.new.cells in
    let own = c.args.own.now in
    let label = c.args.label.now in
    let lawful = lawful_later _ s c.args.prelude.now label c.requires c.availability_of.ensures.looks
    (sym c.is_lawful_label.ensures ∙ c.if-not-is_lawful_label.false) in
    let told = c.in_ok-availability_of.ensures.ok in
    subst (TellsNotNew s own label) (sym c.into-in-Clashing.ensures)
    (clash_refuses s own label lawful (subst (TellsAvailability s own label) c.in-Clashing.is told))

pub returns-in-Free-clause-ok : goal.returns-in-Free-clause-ok
returns-in-Free-clause-ok g c =
    let s = g.C.Cells.sight c.availability_of.new.cells in
    let own = c.args.own.now in
    let label = c.args.label.now in
    let lawful = lawful_later _ s c.args.prelude.now label c.requires c.availability_of.ensures.looks
    (sym c.is_lawful_label.ensures ∙ c.if-not-is_lawful_label.false) in
    let told = c.in_ok-availability_of.ensures.ok in
    new_passes s own label lawful (subst (TellsAvailability s own label) c.in-Free.is told)

pub returns-then-not-is_lawful_label-clause-reads : goal.returns-then-not-is_lawful_label-clause-reads
returns-then-not-is_lawful_label-clause-reads g c = where_same _

pub returns-in_err-availability_of-clause-looks : goal.returns-in_err-availability_of-clause-looks
returns-in_err-availability_of-clause-looks g c = c.availability_of.ensures.looks

pub returns-in_err-availability_of-clause-reads : goal.returns-in_err-availability_of-clause-reads
returns-in_err-availability_of-clause-reads g c = c.availability_of.ensures.reads

pub returns-in-Taken-clause-looks : goal.returns-in-Taken-clause-looks
returns-in-Taken-clause-looks g c = c.availability_of.ensures.looks

pub returns-in-Taken-clause-reads : goal.returns-in-Taken-clause-reads
returns-in-Taken-clause-reads g c = c.availability_of.ensures.reads

pub returns-in-Clashing-clause-looks : goal.returns-in-Clashing-clause-looks
returns-in-Clashing-clause-looks g c = c.availability_of.ensures.looks

pub returns-in-Clashing-clause-reads : goal.returns-in-Clashing-clause-reads
returns-in-Clashing-clause-reads g c = c.availability_of.ensures.reads

pub returns-in-Free-clause-looks : goal.returns-in-Free-clause-looks
returns-in-Free-clause-looks g c = c.availability_of.ensures.looks

pub returns-in-Free-clause-reads : goal.returns-in-Free-clause-reads
returns-in-Free-clause-reads g c = c.availability_of.ensures.reads
