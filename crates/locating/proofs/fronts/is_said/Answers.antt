-- What is left to show of `is_said`.
use Rattle.std.proofs.Common.{rules, ◌∙◌, sym, inl, inr, Bool}
use Rattle.std.proofs.lemmas.Bool.{cases_Bool}
use Rattle.std.proofs.lemmas.List.Folds.{list_any_none, list_any-from_Any}
use Rattle.mmtext.specs.declared.token.Token.{Token}
use Rattle.mmtext.specs.Views.{seen}
use Rattle.locating.specs.Fronts.{says}
use Rattle.locating.proofs.Cuts.{any_seen}
use Rattle.locating.proofs.fronts.is_said.Goals as goal

pub returns : goal.returns
returns c =
    let words = c.args.words.now in
    let p : Token → Bool = λ t. says c.args.word.now (seen t) in
    elim (cases_Bool c.any.result) [
      | inl y ↦ y ∙ sym (list_any-from_Any p words (search rules)) ∙ sym (any_seen seen (says c.args.word.now) words)
      | inr n ↦ n ∙ sym (list_any_none p words (search rules)) ∙ sym (any_seen seen (says c.args.word.now) words)
    ]
