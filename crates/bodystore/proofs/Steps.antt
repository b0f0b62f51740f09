-- The steps of the words of a proof body.
use Rattle.std.proofs.Common.{◌≡◌, ℕ, ◌+◌, ◌*◌, ◌/◌, ◌%◌, ◌^◌, List, [], ◌∷◌, map, refl, ap, ◌∙◌, arith}
use Rattle.std.specs.Prelude.{All}
use Rattle.std.proofs.lemmas.Bool.{cond-true, cond-false, eq-eqb, ne_eqb}
use Rattle.std.proofs.lemmas.List.Elements.{All-head, All-tail}
use Rattle.bodystore.specs.declared.stored.StoredStep.{StoredStep}
use Rattle.bodystore.specs.declared.stored.StoredStep.TheVariants.{Float, Hyp, Slot}
use Rattle.bodystore.specs.Bodies.{step_word, stored_step, proof_body, IsSmallStep}

-- a step is that of its word
stored_back : (x : StoredStep) → IsSmallStep x → stored_step (step_word x) ≡ x
stored_back (Float i) h =
    cond-true _ _ _ (eq-eqb (3 * i % 3) 0 (omega arith))
    ∙ ap (λ (n : ℕ). Float n) (let e : 3 * i / 3 % 2 ^ 32 ≡ i = omega (arith, h) in e)
stored_back (Hyp k) h =
    cond-false _ _ _ (ne_eqb ((3 * k + 1) % 3) 0 (λ e. omega (arith, e))) ∙ cond-true _ _ _ (eq-eqb ((3 * k + 1) % 3) 1 (omega arith))
    ∙ ap (λ (n : ℕ). Hyp n) (let e : (3 * k + 1) / 3 % 2 ^ 32 ≡ k = omega (arith, h) in e)
stored_back (Slot j) h =
    cond-false _ _ _ (ne_eqb ((3 * j + 2) % 3) 0 (λ e. omega (arith, e)))
    ∙ cond-false _ _ _ (ne_eqb ((3 * j + 2) % 3) 1 (λ e. omega (arith, e)))
    ∙ ap (λ (n : ℕ). Slot n) (let e : (3 * j + 2) / 3 % 2 ^ 32 ≡ j = omega (arith, h) in e)

pub steps_back : (kept : List StoredStep) → All IsSmallStep kept → map stored_step (proof_body kept) ≡ kept
steps_back [] small = refl
steps_back (x ∷ xs) small =
    let here = stored_back x (All-head IsSmallStep x xs small) in
    let rest = steps_back xs (All-tail IsSmallStep x xs small) in
    λ n. here n ∷ rest n
