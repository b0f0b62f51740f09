-- What is left to show of `earlier_place`.
use Rattle.std.proofs.Common.{sym, ◌∙◌}
use Rattle.std.specs.Str.{bytes_eq}
use Rattle.mmsyntax.proofs.FirstPlace.{none_in_front}
use Rattle.sourcecheck.proofs.Labelled.{front_past}
use Rattle.sourcecheck.proofs.naming.earlier_place.Goals as goal

pub returns-in-None : goal.returns-in-None
returns-in-None g c =
    none_in_front (λ a. bytes_eq c.args.label.now a.label) (g.D.Declared.scope c.args.declared.now).assertions c.args.place
    (sym c.place_of.ensures ∙ c.in-None.is)

pub returns-else-cited-place : goal.returns-else-cited-place
returns-else-cited-place g c =
    front_past (λ a. bytes_eq c.args.label.now a.label) (g.D.Declared.scope c.args.declared.now).assertions c.args.place c.in-Some.cited
    (sym c.place_of.ensures ∙ c.in-Some.is) c.if-cited-place.false
