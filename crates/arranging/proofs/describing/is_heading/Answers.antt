-- What is left to show of `is_heading`.
use Rattle.std.proofs.Common.{◌∙◌, ap, sym}
use Rattle.mmtext.specs.Views.{seen}
use Rattle.items.specs.Reading.{tokens_at, end_of}
use Rattle.arranging.specs.Parts.{is_rule}
use Rattle.arranging.proofs.FirstWords.{begins_with, same_first, not_last}
use Rattle.arranging.proofs.describing.is_heading.Goals as goal

pub returns-in_default : goal.returns-in_default
returns-in_default c = λ x end stands is.
    let b = begins_with c.args.text.now c.args.from end x stands is in
    absurd (not_last c.args.text.now c.args.from b.opening b.first c.in_default.ensures.none)

pub returns-in-Some-next_token : goal.returns-in-Some-next_token
returns-in-Some-next_token c = λ x end stands is.
    let text = c.args.text.now in
    let b = begins_with text c.args.from end x stands is in
    let opening = same_first text c.args.from b.opening b.first (seen c.in-Some.opening) _ c.in-Some.ensures.some in
    let word =
    same_first text (end_of b.opening) b.word b.second (seen c.in-Some-next_token.word) _
    (ap (λ t. tokens_at text (end_of t)) opening ∙ c.in-Some-next_token.ensures.some) in
    c.is_rule.ensures ∙ (ap (λ t. is_rule t.text) (sym word) ∙ b.heading)

pub returns-in-None : goal.returns-in-None
returns-in-None c = λ x end stands is.
    let text = c.args.text.now in
    let b = begins_with text c.args.from end x stands is in
    let opening = same_first text c.args.from b.opening b.first (seen c.in-Some.opening) _ c.in-Some.ensures.some in
    absurd (not_last text (end_of b.opening) b.word b.second (ap (λ t. tokens_at text (end_of t)) opening ∙ c.in-None.ensures.none))
