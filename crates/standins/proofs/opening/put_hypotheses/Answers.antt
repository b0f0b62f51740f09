-- What is left to show of `put_hypotheses`: a step more.
use Rattle.std.proofs.Common.{◌∙◌, ◌++◌, ◌∷◌, [], ℕ, map, sym, ap, arith, append_assoc}
use Rattle.std.specs.List.{range_with_len}
use Rattle.std.proofs.lemmas.List.FromFn.{map-range_with_len_more}
use Rattle.mmsyntax.specs.declared.statement.Step.TheVariants.{Hyp}
use Rattle.standins.proofs.opening.put_hypotheses.Goals as goal

pub loop-place-preserved : goal.loop-place-preserved
loop-place-preserved c =
    let front = c.args.proof.now in
    let k = c.loop-place.place in
    let so_far = map (λ (n : ℕ). Hyp n) (range_with_len 0 k) in
    c.in_ok-push.ensures.ok
    ∙ ap (λ ps. ps ++ Hyp k ∷ []) c.loop-place.invariant
    ∙ append_assoc front so_far (Hyp k ∷ [])
    ∙ ap (λ ps. front ++ ps) (sym (map-range_with_len_more (λ n. Hyp n) 0 k k (omega arith)))
