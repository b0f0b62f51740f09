-- What is left to show of `first_bad_byte`.
use Rattle.std.proofs.Common.{sym, ◌∙◌}
use Rattle.std.proofs.lemmas.List.Sums.{AllPass-from_list_all}
use Rattle.mmtext.specs.Text.{is_lawful}
use Rattle.mmtext.proofs.Readings.{none_from_clean}
use Rattle.mmtext.proofs.token.first_bad_byte.Goals as goal

pub returns-then-are_lawful : goal.returns-then-are_lawful
returns-then-are_lawful c =
    let all = AllPass-from_list_all is_lawful c.args.text.now (sym c.are_lawful.ensures ∙ c.if-are_lawful.true) in
    sym (none_from_clean c.args.text.now (λ k lt. all k 0 lt))
