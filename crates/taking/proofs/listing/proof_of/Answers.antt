-- What is left to show of `proof_of`.
use Rattle.std.proofs.Common.{◌≡◌, ◌<◌, ◌++◌, ◌∷◌, ◌∙◌, [], ℕ, sym, ap, ap₂, subst, refl, take, map, arith, get_or, add-one, length}
use Rattle.std.proofs.Math.Seq.{take-length, take-suc}
use Rattle.std.proofs.lemmas.List.{map_push}
use Rattle.std.specs.Borrow.{Bor}
use Rattle.mmsyntax.specs.declared.statement.Step.{Step}
use Rattle.taking.proofs.listing.proof_of.Goals as goal

pub loop-numbered-init : goal.loop-numbered-init
loop-numbered-init c = c.new-made.ensures

pub push-requires : goal.push-requires
push-requires c = c.if-not-is_small.ensures.0 refl

pub index_mut-requires : goal.index_mut-requires
index_mut-requires c = subst (λ (n : ℕ). c.numbered-item.result.0 < n) c.len.ensures c.if-number-len.true

pub loop-numbered-preserved : goal.loop-numbered-preserved
loop-numbered-preserved c =
    let steps = c.args.steps.now in
    let i = c.loop-numbered.numbered-index in
    let step = λ (s : ℕ × Bor Step). s.1.now in
    c.in_ok-place.ensures.ok
    ∙ ap₂ (λ xs x. xs ++ x ∷ []) c.loop-numbered.invariant (c.lend-step.ensures ∙ ap step c.numbered-item.is)
    ∙ sym (map_push step (take i steps) (get_or steps i c.numbered-item.result))
    ∙ ap (map step) (sym (ap (λ n. take n steps) (add-one i) ∙ take-suc steps i c.numbered-item.result c.loop-numbered-test.true))

pub returns : goal.returns
returns c =
    let steps = c.args.steps.now in
    let end : c.loop-numbered.numbered-index ≡ length steps =
    omega (arith, c.loop-numbered-test.false, c.loop-numbered.auto.numbered-index-end) in
    c.loop-numbered.invariant ∙ ap (λ k. map (λ (s : ℕ × Bor Step). s.1.now) (take k steps)) end
    ∙ ap (map (λ (s : ℕ × Bor Step). s.1.now)) (take-length steps)
