-- What is left to show of `lost_of`: a label more, and that all were gone through.
use Rattle.std.proofs.Common.{◌≡◌, ◌∙◌, ◌+◌, ℕ, Bool, List, take, sym, ap, subst, Bor, Vec, Global}
use Rattle.std.specs.Prelude.{filter}
use Rattle.std.proofs.lemmas.List.{take_all}
use mathlib.Core.Bool.{not}
use Rattle.mmtext.specs.Words.{Word}
use Rattle.source.specs.Scopes.{is_in}
use Rattle.source.specs.Views.{seen_words}
use Rattle.sourceediting.proofs.Marks.{firsts, firsts_marked}
use Rattle.pasting.proofs.Picked.{picked_next, left_out}
use Rattle.editedsource.proofs.spoken.lost_of.Goals as goal
use Rattle.editedsource.proofs.spoken.lost_of.Goals.{then-is_lost+in_ok-push, else-is_lost}

pub loop-label-preserved : goal.loop-label-preserved
loop-label-preserved c =
    let dead : Word → Bool = λ w. not (is_in (firsts c.in_ok-living.living) w) in
    let labels = c.as_slice-label-items.result.now in
    let i = c.loop-label.label-index in
    elim c.if-is_lost.branch [
      | then-is_lost+in_ok-push w ↦
          picked_next dead labels i _ c.loop-label-test.true w.if-is_lost.ensures c.loop-label.made.items _ c.loop-label.invariant
          (ap (λ v. v.items) w.made-is ∙ w.in_ok-push.ensures.items)
      | else-is_lost w ↦
          subst (λ (v : Vec (Bor (List ℕ)) Global). seen_words v.items ≡ filter dead (seen_words (take (i + 1) labels))) (sym w.made-is)
          (left_out dead labels i _ c.loop-label-test.true w.if-is_lost.ensures c.loop-label.made.items c.loop-label.invariant)
    ]

pub returns : goal.returns
returns c =
    let dead : Word → Bool = λ w. not (is_in (firsts c.in_ok-living.living) w) in
    let labels = c.as_slice-label-items.result.now in
    let gone = c.args.following.now.gone.items in
    c.loop-label.invariant
    ∙ ap (λ ws. filter dead (seen_words ws)) (take_all c.loop-label.label-index labels c.loop-label-test.false
    ∙ c.as_slice-label-items.ensures.value)
    ∙ ap (λ (ws : List Word). filter (λ w. not (is_in ws w)) (seen_words gone))
    (ap firsts c.in_ok-living.ensures ∙ firsts_marked (seen_words c.as_slice.result.now)
    ∙ ap seen_words c.as_slice.ensures.value ∙ c.in_ok-then.ensures)
