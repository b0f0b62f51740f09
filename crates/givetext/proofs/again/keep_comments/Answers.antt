-- What is left to show of `keep_comments`.
use Rattle.std.proofs.Common.{◌≡◌, ◌∙◌, true, false, List, ap, subst, rules}
use Rattle.mmtext.specs.Words.{Word}
use Rattle.source.specs.Views.{seen_words}
use Rattle.comments.specs.Kept.{AreKept, AreLost}
use Rattle.sourceediting.proofs.Marks.{firsts, firsts_marked}
use Rattle.givetext.proofs.again.keep_comments.Goals as goal

pub returns-clause-kept : goal.returns-clause-kept
returns-clause-kept c =
    let yes : c.in_ok-are_kept.field-0 ≡ true = search rules in
    subst (λ (ws : List Word). AreKept c.args.changes.now ws c.args.source.now c.args.out.now)
    (ap firsts c.in_ok-gone.ensures ∙ firsts_marked (seen_words c.args.gone.now)) (c.in_ok-are_kept.ensures.kept yes)

pub returns-then-not-branch-clause-refused : goal.returns-then-not-branch-clause-refused
returns-then-not-branch-clause-refused c =
    let isnt : c.in_ok-are_kept.field-0 ≡ false = search rules in
    subst (λ (ws : List Word). AreLost c.args.changes.now ws c.args.source.now c.args.out.now)
    (ap firsts c.in_ok-gone.ensures ∙ firsts_marked (seen_words c.args.gone.now)) (c.in_ok-are_kept.ensures.lost isnt)
