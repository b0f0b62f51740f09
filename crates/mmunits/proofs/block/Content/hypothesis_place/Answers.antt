use Rattle.std.proofs.Common.{ap, sym, ◌∙◌}
use Rattle.mmsyntax.specs.Steps.{hypothesis_named}
use Rattle.mmunits.proofs.BlockPlaces.{place_within}
use Rattle.mmunits.proofs.block.Content.hypothesis_place.Goals as goal

pub returns-then-len-le-FEW-clause-few : goal.returns-then-len-le-FEW-clause-few
returns-then-len-le-FEW-clause-few c = λ n e.
    place_within c.self.inside.hyps.items c.args.word.now n c.self.invariant.few
    (ap (λ hs. hypothesis_named hs c.args.word.now) (sym c.deref.ensures.value) ∙ sym c.first_labelled.ensures ∙ e)

pub returns-clause-few : goal.returns-clause-few
returns-clause-few c = λ n e.
    place_within c.self.inside.hyps.items c.args.word.now n c.self.invariant.few
    (sym (c.self.invariant.found c.args.word.now) ∙ sym c.get.ensures.value ∙ sym c.copied.ensures ∙ e)
