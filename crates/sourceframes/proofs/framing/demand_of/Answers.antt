-- What is left to show of `demand_of`.
use Rattle.std.proofs.Common.{Err, map, ap, sym, ◌∙◌}
use Rattle.source.specs.Views.{seen_words, seen_hypothesis}
use Rattle.sourceframes.specs.Frames.{part_in, asked_in}
use Rattle.sourceframes.proofs.framing.demand_of.Goals as goal

pub returns-in_ok-pieces_of-in-Premise-clause-made : goal.returns-in_ok-pieces_of-in-Premise-clause-made
returns-in_ok-pieces_of-in-Premise-clause-made c = λ hs is more.
    ap (λ l. Err l) (c.in_ok-pieces_of-in-Premise.ensures.made hs is more
    ∙ ap (λ ws. map (part_in hs) (seen_words ws)) c.as_slice.ensures.value)
    ∙ sym (ap (λ h. asked_in hs (seen_hypothesis h)) c.in-Premise.is)
