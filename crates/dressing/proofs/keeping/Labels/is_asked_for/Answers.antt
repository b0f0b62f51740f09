-- What is left to show of `is_asked_for`.
use Rattle.std.proofs.Common.{◌∙◌, sym}
use Rattle.std.specs.Str.{bytes_eq}
use Rattle.mmsyntax.proofs.FirstPlace.{first_before, none_before}
use Rattle.dressing.proofs.keeping.Labels.is_asked_for.Goals as goal

pub returns-in-Some : goal.returns-in-Some
returns-in-Some g c =
    first_before (bytes_eq c.args.label.now) c.args.self.now.wanted.now c.in-Some.place c.args.self.now.before
    (sym c.place.ensures.place ∙ c.in-Some.is)

pub returns-in-None : goal.returns-in-None
returns-in-None g c =
    sym (none_before (bytes_eq c.args.label.now) c.args.self.now.wanted.now c.args.self.now.before
    (sym c.place.ensures.place ∙ c.in-None.is))
