-- What is left to show of `next_place`.
use Rattle.std.proofs.Common.{sym}
use Rattle.mmtext.specs.Views.{seen}
use Rattle.mmtext.proofs.Turns.{same_reading}
use Rattle.sourcereader.specs.Views.{seen_at}
use Rattle.sourcereader.proofs.Runs.{row_at, ready_on}
use Rattle.sourcereader.proofs.reading.next_place.Goals as goal

pub returns-clause-leads : goal.returns-clause-leads
returns-clause-leads g c =
    let here = seen_at (g.S.Standing.stand c.args.standing.now) c.args.place in
    same_reading _ c.place_by_mark.result _ _ (sym (row_at here (seen c.args.token) c.args.mark c.requires.mark))
    c.place_by_mark.ensures.leads

pub returns-clause-ready : goal.returns-clause-ready
returns-clause-ready g c =
    let here = seen_at (g.S.Standing.stand c.args.standing.now) c.args.place in
    let next = c.place_by_mark.new.standing in
    ready_on here (seen c.args.token) c.args.mark (g.S.Standing.stand next) (g.S.Standing.marks next) c.place_by_mark.result
    c.requires.ready.stands c.place_by_mark.ensures.leads c.place_by_mark.ensures.counted
