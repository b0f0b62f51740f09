-- What is left to show of `earlier_place`.
use Rattle.std.proofs.Common.{sym, ◌∙◌}
use Rattle.std.specs.Str.{bytes_eq}
use Rattle.mmsyntax.proofs.FirstPlace.{none_in_front}
use Rattle.explaining.proofs.Earlier.{in_front, behind}
use Rattle.explaining.proofs.assertion.earlier_place.Goals as goal

pub returns-in-None : goal.returns-in-None
returns-in-None g c =
    none_in_front (λ a. bytes_eq c.args.label.now a.label) (g.D.Declared.scope c.args.declared.now).assertions c.args.place
    (sym c.place_of.ensures ∙ c.in-None.is)

pub returns-then-found-place : goal.returns-then-found-place
returns-then-found-place g c =
    in_front (λ a. bytes_eq c.args.label.now a.label) (g.D.Declared.scope c.args.declared.now).assertions c.args.place c.in-Some.found
    (sym c.place_of.ensures ∙ c.in-Some.is) c.if-found-place.true

pub returns-else-found-place : goal.returns-else-found-place
returns-else-found-place g c =
    behind (λ a. bytes_eq c.args.label.now a.label) (g.D.Declared.scope c.args.declared.now).assertions c.args.place c.in-Some.found
    (sym c.place_of.ensures ∙ c.in-Some.is) c.if-found-place.false
