-- What is left to show of `behind_first`.
use Rattle.std.proofs.Common.{rules, ◌∙◌, sym, ap, map}
use Rattle.mmtext.specs.Views.{seen}
use Rattle.locating.specs.Fronts.{says}
use Rattle.locating.proofs.Cuts.{cut_behind, nothing_behind, behind_seen}
use Rattle.locating.proofs.fronts.behind_first.Goals as goal

pub returns-in-Some : goal.returns-in-Some
returns-in-Some c =
    let words = c.args.words.now in
    ap (map seen) (cut_behind (λ t. says c.args.word.now (seen t)) words c.in-Some.place (search rules) (search rules) (search rules))
    ∙ sym (behind_seen seen (says c.args.word.now) words)

pub returns-in-None : goal.returns-in-None
returns-in-None c =
    let words = c.args.words.now in
    ap (map seen) (nothing_behind (λ t. says c.args.word.now (seen t)) words (search rules))
    ∙ sym (behind_seen seen (says c.args.word.now) words)
