-- What is left to show of `leads_across`.
use Rattle.std.proofs.Common.{◌≡◌, ◌∙◌, true, false, take, get_or, sym, ap, rules, tests}
use Rattle.std.specs.Prelude.{◌==◌}
use mathlib.Core.Bool.{not}
use Rattle.commentwords.specs.Words.{leads_across}
use Rattle.commentwords.proofs.Across.{turned, across_more}
use Rattle.commentwords.proofs.comment_place.leads_across.Goals as goal
use Rattle.commentwords.proofs.comment_place.leads_across.Goals.{then-byte-eq96, else-byte-eq96}

pub loop-byte-preserved : goal.loop-byte-preserved
loop-byte-preserved c =
    let w = c.args.word.now in
    let i = c.loop-byte.byte-index in
    let so_far = leads_across (take i w) in
    let more = across_more w i c.loop-byte-test.true in
    elim c.if-byte-eq96.branch [
      | then-byte-eq96 b ↦
          let is : (get_or w i 0 == 96) ≡ true = ap (λ n. n == 96) b.if-byte-eq96.true in
          b.across-is ∙ ap not c.loop-byte.invariant ∙ sym (more ∙ ap (λ v. turned v so_far) is)
      | else-byte-eq96 b ↦
          let is : (get_or w i 0 == 96) ≡ false = search (rules, tests) in
          b.across-is ∙ c.loop-byte.invariant ∙ sym (more ∙ ap (λ v. turned v so_far) is)
    ]
