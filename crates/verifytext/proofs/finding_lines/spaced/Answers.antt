-- What is left to show of `spaced`.
use Rattle.std.proofs.Common.{◌∷◌, ◌++◌, ap, sym, ◌∙◌}
use Rattle.std.specs.List.{flat_map}
use Rattle.source.specs.Views.{seen_words}
use Rattle.locating.specs.Told.{shown}
use Rattle.verifytext.specs.FindingLines.{spaced}
use Rattle.verifytext.proofs.Spaced.{spaced_is}
use Rattle.verifytext.proofs.finding_lines.spaced.Goals as goal

pub returns : goal.returns
returns c =
    let rest = seen_words c.in-Some.rest.now in
    c.in_ok-put_symbols.ensures
    ∙ ap (λ l. l ++ flat_map (λ w. 32 ∷ shown w) rest) (c.in_ok-out.ensures.ok ∙ c.printed_name.ensures)
    ∙ spaced_is c.in-Some.first.now.now rest
    ∙ sym (ap (λ ws. spaced (seen_words ws)) c.in-Some.ensures.cases.0)
