use Rattle.std.proofs.Common.{◌∙◌, Some, sym, ap}
use Rattle.arranging.proofs.Depths.{describes, undescribing, ends_last}
use Rattle.arranging.proofs.checking.ends_described.Goals as goal

pub returns-in-Description : goal.returns-in-Description
returns-in-Description c =
    let last = ends_last c.args.parts.now in
    let is = c.in-Some.ensures.value in
    sym (last ∙ (ap describes (sym is) ∙ ap (λ p. describes (Some p)) c.in-Description.is))

pub returns-in_default : goal.returns-in_default
returns-in_default c =
    let last = ends_last c.args.parts.now in
    let is = c.in-Some.ensures.value in
    sym (last ∙ (ap describes (sym is) ∙ undescribing c.in-Some.last.now c.in_default.not-Description))
