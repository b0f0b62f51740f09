use Rattle.std.proofs.Common.{◌∙◌}
use Rattle.std.specs.Prelude.{nat_le}
use Rattle.mmsyntax.proofs.Distinct.{and_true}
use Rattle.library.specs.Edits.{cites}
use Rattle.catalog.specs.Testing.{cites_from}
use Rattle.catalog.proofs.Members.{any-members}
use Rattle.catalog.proofs.testing.has_citer_below.Goals as goal

pub returns : goal.returns
returns c =
    let w = c.args.label.now in
    c.some_cites_below.ensures
    ∙ any-members (cites_from w c.args.rank) c.args.entries.now c.args.citers.now
    (λ q f at here. c.requires.all q f at (and_true (cites w f) (nat_le f.rank c.args.rank) here).0)
