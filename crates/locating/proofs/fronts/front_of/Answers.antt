-- What is left to show of `front_of`.
use Rattle.std.proofs.Common.{rules, ◌∙◌, sym, ap, map}
use Rattle.mmtext.specs.Views.{seen}
use Rattle.locating.specs.Fronts.{ends_statement}
use Rattle.locating.proofs.Cuts.{cut_last, uncut_last, last_seen}
use Rattle.locating.proofs.fronts.front_of.Goals as goal

pub returns-in-Some : goal.returns-in-Some
returns-in-Some c =
    let words = c.args.words.now in
    ap (map seen) (cut_last (λ t. ends_statement (seen t)) words c.in-Some.last (search rules) (search rules) (search rules))
    ∙ sym (last_seen seen ends_statement words)

pub returns-in-None : goal.returns-in-None
returns-in-None c =
    let words = c.args.words.now in
    ap (map seen) (uncut_last (λ t. ends_statement (seen t)) words (search rules)) ∙ sym (last_seen seen ends_statement words)
