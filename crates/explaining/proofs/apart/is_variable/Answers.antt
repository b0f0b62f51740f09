-- What is left to show of `is_variable`.
use Rattle.std.proofs.Common.{ap, ◌∙◌}
use Rattle.std.specs.List.{list_any}
use Rattle.source.specs.declared.contents.HypothesisWords.{HypothesisWords}
use Rattle.source.specs.Scopes.{is_float_of}
use Rattle.source.specs.Views.{seen_hypothesis}
use Rattle.explaining.proofs.Lists.{any_mapped}
use Rattle.explaining.proofs.apart.is_variable.Goals as goal

pub returns : goal.returns
returns c =
    let w = c.args.symbol.now in
    c.has_float.ensures
    ∙ ap (λ hs. list_any (λ (h : HypothesisWords). is_float_of w (seen_hypothesis h)) hs) c.as_slice.ensures.value
    ∙ any_mapped (is_float_of w) seen_hypothesis c.args.theorem.now.active.items
