-- What is left to show of `proof_words`.
use Rattle.std.proofs.Common.{rules, ◌∙◌, sym, ap, map, codes}
use Rattle.std.specs.List.{before_first, after_first}
use Rattle.mmtext.specs.Views.{seen}
use Rattle.locating.specs.Fronts.{says}
use Rattle.locating.proofs.Cuts.{cut_before, uncut_before, before_seen}
use Rattle.locating.proofs.steps.proof_words.Goals as goal

pub returns-in-Some : goal.returns-in-Some
returns-in-Some c =
    let behind = c.behind_first-behind.result.now in
    ap (map seen) (cut_before (λ t. says (codes "$.") (seen t)) behind c.in-Some.end (search rules) (search rules) (search rules))
    ∙ sym (before_seen seen (says (codes "$.")) behind)
    ∙ ap (before_first (says (codes "$."))) (c.behind_first-behind.ensures ∙ ap (after_first (says (codes "$="))) c.from_theorem.ensures)

pub returns-in-None : goal.returns-in-None
returns-in-None c =
    let behind = c.behind_first-behind.result.now in
    ap (map seen) (uncut_before (λ t. says (codes "$.") (seen t)) behind (search rules))
    ∙ sym (before_seen seen (says (codes "$.")) behind)
    ∙ ap (before_first (says (codes "$."))) (c.behind_first-behind.ensures ∙ ap (after_first (says (codes "$="))) c.from_theorem.ensures)
