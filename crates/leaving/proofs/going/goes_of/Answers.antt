-- What is left to show of `goes_of`.
use Rattle.std.proofs.Common.{◌≡◌, ◌∙◌, ◌+◌, ◌^◌, ◌<◌, ◌++◌, [], length, get_or, drop, ltb, cond, sym, ap, subst, arith}
use Rattle.std.specs.Prelude.{◌||◌, IfSome}
use Rattle.std.proofs.lemmas.List.{take_rest}
use Rattle.leaving.specs.declared.part.Part.TheVariants.{Description}
use Rattle.leaving.specs.declared.going.Reach.{Reach}
use Rattle.leaving.specs.Leaving.{is_comment, goes_alone, AreGoing}
use Rattle.leaving.specs.Ends.{reach_at, open_after}
use Rattle.leaving.proofs.Reaching.{Reaches, IsAnyLeft, IsCommentedLeft}
use Rattle.leaving.proofs.Walked.{length-lefts}
use Rattle.leaving.proofs.Stepping.{begins, step_any, step_commented, step_depth, few_open, step_going, all_going}
use Rattle.leaving.proofs.going.goes_of.Goals as goal
use Rattle.leaving.proofs.going.goes_of.Goals.{then-goes_alone, else-goes_alone}

pub index-requires : goal.index-requires
index-requires c =
    let parts = c.args.parts.now in
    let long = ap length c.in_ok-lefts.ensures ∙ length-lefts (length parts) parts in
    omega arith

pub open_after-reach-requires : goal.open_after-reach-requires
open_after-reach-requires c =
    let parts = c.args.parts.now in
    let k = c.loop-k.k in
    let lt : k < length parts = omega arith in
    let o = c.index.result.now in
    let is = begins parts k lt o c.in_ok-lefts.lefts.items c.in_ok-lefts.ensures c.index.ensures in
    let few = few_open parts k lt c.loop-k.reach o is c.loop-k.invariant.depth (2 ^ 64) (omega arith) in
    subst (λ (r : Reach). IfSome r.depth (λ n. n + 1 < 2 ^ 64)) (sym c.at-reach.ensures) few

pub loop-k-preserved : goal.loop-k-preserved
loop-k-preserved c =
    let parts = c.args.parts.now in
    let k = c.loop-k.k in
    let lt : k < length parts = omega arith in
    let x = get_or parts k Description in
    let after = drop (k + 1) parts in
    let o = c.index.result.now in
    let r = c.loop-k.reach in
    let now = c.at-reach.result in
    let depth = c.loop-k.invariant.depth in
    let is = begins parts k lt o c.in_ok-lefts.lefts.items c.in_ok-lefts.ensures c.index.ensures in
    let reached : now ≡ reach_at r o = c.at-reach.ensures in
    let any : Reaches IsAnyLeft parts (k + 1) now.any =
    subst (λ y. Reaches IsAnyLeft parts (k + 1) y.any) (sym reached) (step_any parts k lt r o is depth c.loop-k.invariant.any) in
    let commented : Reaches IsCommentedLeft parts (k + 1) now.commented =
    subst (λ y. Reaches IsCommentedLeft parts (k + 1) y.commented) (sym reached)
    (step_commented parts k lt r o is depth c.loop-k.invariant.commented) in
    let alone : c.goes_alone.result ≡ goes_alone x after =
    c.goes_alone.ensures ∙ ap (goes_alone x) (take_rest parts (k + 1)) in
    let g = c.if-goes_alone.push in
    let inside = ltb k (cond (is_comment x) now.commented now.any) in
    let said : g ≡ (goes_alone x after || inside) =
    elim c.if-goes_alone.branch [
      | then-goes_alone w ↦
          let yes = w.if-goes_alone.true in w.push-is ∙ (yes ∙ ap (λ b. b || inside) (sym yes ∙ alone))
      | else-goes_alone w ↦
          let no = w.if-goes_alone.false in
          w.push-is ∙ (w.takes.ensures ∙ ap (λ b. b || inside) (sym no ∙ alone))
    ] in
    record {
      depth = c.open_after-reach.ensures ∙ (ap (λ y. open_after y.depth x) reached ∙ step_depth parts k lt r o is depth);
      any = any;
      commented = commented;
      going = λ gs more. subst (λ y. AreGoing [] parts (y ++ gs)) (sym c.in_ok-push.ensures.items)
          (step_going parts k lt g now.any now.commented any commented said c.loop-k.goes.items c.loop-k.invariant.going gs more);
    }

pub returns : goal.returns
returns c = all_going c.args.parts.now c.loop-k.k c.loop-k.goes.items (omega arith) c.loop-k.invariant.going
