use Rattle.std.proofs.Common.{sym, ◌∙◌}
use Rattle.library.specs.Edits.{cites}
use Rattle.catalog.proofs.Members.{passes-standing, passes-absent}
use Rattle.catalog.proofs.testing.cites_at.Goals as goal

pub returns-in-None : goal.returns-in-None
returns-in-None c = sym (passes-absent (cites c.args.label.now) c.args.entries.now c.args.place c.in-None.ensures.none)

pub returns-in-Some : goal.returns-in-Some
returns-in-Some c =
    c.cites.ensures
    ∙ sym (passes-standing (cites c.args.label.now) c.args.entries.now c.args.place c.in-Some.entry.now c.in-Some.ensures.some)
