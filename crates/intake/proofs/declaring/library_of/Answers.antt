-- What is left to show of `library_of`.
use Rattle.std.proofs.Common.{◌∙◌}
use Rattle.taking.specs.Reasons.{told_in}
use Rattle.drafts.specs.Drafts.{contents_of}
use Rattle.gathering.specs.Gatherings.{told_names}
use Rattle.intake.proofs.Steps.{taken_as}
use Rattle.intake.proofs.declaring.library_of.Goals as goal

pub returns-in-Ok-clause-taken : goal.returns-in-Ok-clause-taken
returns-in-Ok-clause-taken g c =
    λ s w is.
    c.with_proofs.ensures.taken s w
    (taken_as s w c.args.placed.now.sites.now c.args.placed.now.names.now c.args.gathered c.args.chosen.now c.requires is c.in-Ok.database
    (told_names c.in_ok-changed.changed.items) (c.in-Ok.ensures.made ∙ c.in_ok-draft.ensures) c.in_ok-changed.ensures).taken_by

pub returns-in-Ok-clause-refused : goal.returns-in-Ok-clause-refused
returns-in-Ok-clause-refused g c =
    λ s w is.
    c.with_proofs.ensures.refused s w
    (taken_as s w c.args.placed.now.sites.now c.args.placed.now.names.now c.args.gathered c.args.chosen.now c.requires is c.in-Ok.database
    (told_names c.in_ok-changed.changed.items) (c.in-Ok.ensures.made ∙ c.in_ok-draft.ensures) c.in_ok-changed.ensures).taken_by

pub returns-clause-refused : goal.returns-clause-refused
returns-clause-refused g c =
    λ s w is.
    c.undeclared.ensures s w (contents_of c.in_ok-draft.draft) (told_in c.args.gathered.axioms.items)
    (told_names c.in_ok-changed.changed.items) c.args.chosen.now
    (taken_as s w c.args.placed.now.sites.now c.args.placed.now.names.now c.args.gathered c.args.chosen.now c.requires is
    (contents_of c.in_ok-draft.draft) (told_names c.in_ok-changed.changed.items) c.in_ok-draft.ensures c.in_ok-changed.ensures)
    c.in-Err.ensures.refused c.in-Err.ensures.told
