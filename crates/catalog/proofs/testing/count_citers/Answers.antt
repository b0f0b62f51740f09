use Rattle.std.proofs.Common.{rules, ◌∙◌, ◌≡◌}
use Rattle.std.specs.List.{count_by}
use Rattle.library.specs.Edits.{cites}
use Rattle.catalog.specs.Testing.{passes_at}
use Rattle.catalog.proofs.Members.{count-members}
use Rattle.catalog.proofs.testing.count_citers.Goals as goal

pub returns : goal.returns
returns c =
    let es = c.args.entries.now in
    let places = c.args.citers.now in
    let test = cites c.args.label.now in
    let by_place : c.count.result ≡ count_by (passes_at test es) places = search rules in
    by_place ∙ count-members test es places c.requires.ascending c.requires.all.all
