use Rattle.std.proofs.Common.{sym, ◌∙◌}
use Rattle.std.specs.Prelude.{nat_le}
use Rattle.std.proofs.lemmas.Bool.{le-leb, lt-leb}
use Rattle.library.specs.Edits.{cites}
use Rattle.catalog.specs.Testing.{cites_from}
use Rattle.catalog.proofs.Members.{passes-standing, passes-absent, and-true, and-false}
use Rattle.catalog.proofs.testing.cites_at_below.Goals as goal

pub returns-in-None : goal.returns-in-None
returns-in-None c =
    sym (passes-absent (cites_from c.args.label.now c.args.rank) c.args.entries.now c.args.place c.in-None.ensures.none)

pub returns-then-entry-rank : goal.returns-then-entry-rank
returns-then-entry-rank c =
    let e = c.in-Some.entry.now in
    let w = c.args.label.now in
    c.cites.ensures ∙ sym (and-true (cites w e) (nat_le e.rank c.args.rank) (le-leb e.rank c.args.rank c.if-entry-rank.true))
    ∙ sym (passes-standing (cites_from w c.args.rank) c.args.entries.now c.args.place e c.in-Some.ensures.some)

pub returns-else-entry-rank : goal.returns-else-entry-rank
returns-else-entry-rank c =
    let e = c.in-Some.entry.now in
    let w = c.args.label.now in
    sym (and-false (cites w e) (nat_le e.rank c.args.rank) (lt-leb e.rank c.args.rank c.if-entry-rank.false))
    ∙ sym (passes-standing (cites_from w c.args.rank) c.args.entries.now c.args.place e c.in-Some.ensures.some)
