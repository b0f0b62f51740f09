-- What is left to show of `undeclared`: a limit is told with the name of what passes it.
use Rattle.intake.proofs.Steps.{refused_as_passing, refused_as_unlawful}
use Rattle.intake.proofs.declaring.undeclared.Goals as goal

pub returns-in-Passes : goal.returns-in-Passes
returns-in-Passes c =
    λ s w db axioms names flags drafted none told.
    refused_as_passing s w c.args.sites.now db axioms names flags drafted c.in-Passes.limit c.name_at.result c.args.why c.in-Passes.is
    c.name_at.ensures none told

pub returns-in-Unlawful : goal.returns-in-Unlawful
returns-in-Unlawful c =
    λ s w db axioms names flags drafted none told.
    refused_as_unlawful s w c.args.sites.now db axioms names flags drafted c.args.why c.in-Unlawful.is none told
