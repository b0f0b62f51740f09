-- What is left to show of `label_set`.
use Rattle.std.proofs.Common.{◌≡◌, ◌∙◌, List, ap}
use Rattle.std.proofs.lemmas.Result.{IfOk-weaker}
use Rattle.mmtext.specs.Words.{Word}
use Rattle.source.specs.Scopes.{is_in}
use Rattle.source.specs.Views.{seen_words, seen_pairs}
use Rattle.giving.specs.Staying.{Change}
use Rattle.expanding.specs.Bars.{holds}
use Rattle.expanding.proofs.Looking.{holds_pairs}
use Rattle.expanding.proofs.labels.label_set.Goals as goal

pub returns : goal.returns
returns c =
    let ws = seen_words c.args.labels.now in
    IfOk-weaker c.new.result (λ (made : List Change). made ≡ seen_pairs c.in_ok-pairs_of.field-0.items)
    (λ (made : List Change). (w : Word) → holds made w ≡ is_in ws w)
    (λ made is w. ap (λ ps. holds ps w) (is ∙ c.in_ok-pairs_of.ensures) ∙ holds_pairs ws w) c.new.ensures
