-- What is left to show of `without_comings`.
use Rattle.std.proofs.Common.{[], subst}
use Rattle.arranging.specs.Outcomes.{IsOutcome}
use Rattle.sourceediting.specs.Views.{edited_of}
use Rattle.sourceediting.proofs.Bared.{bare_in}
use Rattle.sourceediting.proofs.rearranging.without_comings.Goals as goal

pub returns-in-Text-clause-arranged : goal.returns-in-Text-clause-arranged
returns-in-Text-clause-arranged c =
    let edits = c.args.edits in
    subst (IsOutcome edits.changes.now edits.proofs.now (edited_of edits []) c.args.source.now) c.in-Text.is c.in_ok-out.ensures

pub returns-in-Bare-clause-refused : goal.returns-in-Bare-clause-refused
returns-in-Bare-clause-refused c = λ living edited listed.
    let edits = c.args.edits in
    bare_in living edited c.args.source.now edits.proofs.now
    (subst (IsOutcome edits.changes.now edits.proofs.now (edited_of edits []) c.args.source.now) c.in-Bare.is c.in_ok-out.ensures) listed
