-- What is left to show of `is_in_front`.
use Rattle.std.proofs.Common.{◌∙◌, sym, ap}
use Rattle.std.specs.Prelude.{is_some}
use Rattle.std.specs.Str.{bytes_eq}
use Rattle.mmsyntax.proofs.FirstPlace.{none_in_front}
use Rattle.source.specs.Scopes.{Assertion}
use Rattle.dressing.proofs.Naming.{in_front}
use Rattle.dressing.proofs.listing.is_in_front.Goals as goal

pub returns-in-Some : goal.returns-in-Some
returns-in-Some g c =
    let xs = (g.D.Declared.scope c.args.declared.now).assertions in
    in_front (λ (a : Assertion). bytes_eq c.args.label.now a.label) xs c.args.place c.in-Some.found (sym c.place_of.ensures ∙ c.in-Some.is)

pub returns-in-None : goal.returns-in-None
returns-in-None g c =
    let xs = (g.D.Declared.scope c.args.declared.now).assertions in
    sym (ap is_some (none_in_front (λ (a : Assertion). bytes_eq c.args.label.now a.label) xs c.args.place
    (sym c.place_of.ensures ∙ c.in-None.is)))
