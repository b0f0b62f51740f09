-- What is written down of an assertion in the cells of its slot.
use Rattle.std.proofs.Common.{◌≡◌, ◌≢◌, ℕ, ◌+◌, ◌*◌, ◌<◌, ◌≤◌, List, refl, sym, subst, ◌∙◌, ◌⊎◌, ⊎_elim, arith}
use Rattle.mmsyntax.specs.declared.statement.Assertion.{Assertion}
use Rattle.mmsyntax.specs.declared.statement.Kind.{Kind}
use Rattle.mmsyntax.specs.declared.statement.Kind.TheVariants.{Axiom, Theorem}
use Rattle.bodystore.specs.declared.stored.StoredStep.{StoredStep}
use Rattle.bodystore.specs.Bodies.{label_body, statement_of, statement_body}
use Rattle.cells.specs.State.{State, HasBody, with_value}
use Rattle.cells.specs.Slots.{name_cell, statement_cell, proof_cell, rank_cell, citers_cell}
use Rattle.chains.specs.Filling.{LaysProof, LaysDown}
use Rattle.cells.proofs.Holding.{body_same}
use Rattle.cells.proofs.Values.{value_there, value_elsewhere}

-- ---- the cells of the slot

proof_stays : (st mid next : State) (i : ℕ) (kind : Kind) (kept : List StoredStep) → next.ranges ≡ mid.ranges
    → next.value (proof_cell i) ≡ mid.value (proof_cell i) → LaysProof st mid i kind kept → LaysProof st next i kind kept
proof_stays st mid next i Axiom kept ranges same h = same ∙ h
proof_stays st mid next i Theorem kept ranges same h = body_same mid next (proof_cell i) _ ranges same h

proof_since : (old st next : State) (i : ℕ) (kind : Kind) (kept : List StoredStep) → st.value (proof_cell i) ≡ old.value (proof_cell i)
    → LaysProof st next i kind kept → LaysProof old next i kind kept
proof_since old st next i Axiom kept same h = h ∙ same
proof_since old st next i Theorem kept same h = h

pub laid_down : (s0 s1 s2 s3 s5 : State) (i rank : ℕ) (a : Assertion) (kept : List StoredStep) (label : List ℕ) (statement : List ℕ)
    → s1.ranges ≡ s0.ranges → s2.ranges ≡ s0.ranges → s3.ranges ≡ s0.ranges
    → label ≡ label_body a.label → HasBody s1 (name_cell i) label → ((c : ℕ) → c ≢ name_cell i → s1.value c ≡ s0.value c)
    → statement ≡ statement_body (statement_of a) → HasBody s2 (statement_cell i) statement
    → ((c : ℕ) → c ≢ statement_cell i → s2.value c ≡ s1.value c)
    → LaysProof s2 s3 i a.kind kept → ((c : ℕ) → c ≢ proof_cell i → s3.value c ≡ s2.value c)
    → s5 ≡ with_value (citers_cell i) 0 (with_value (rank_cell i) rank s3) → LaysDown s0 s5 i rank a kept
laid_down s0 s1 s2 s3 s5 i rank a kept label statement r1 r2 r3 label_is name name_others statement_is stated statement_others proof
    proof_others made =
    subst (λ (x : State). LaysDown s0 x i rank a kept) (sym made) (record {
      name = body_same s1 s4 (name_cell i) (label_body a.label) (r3 ∙ sym r1)
          (after_proof (name_cell i) (λ z. omega (arith, z)) (λ z. omega (arith, z)) ∙ proof_others (name_cell i) (λ z. omega (arith, z))
          ∙ statement_others (name_cell i) (λ z. omega (arith, z))) (subst (HasBody s1 (name_cell i)) label_is name);
      statement = body_same s2 s4 (statement_cell i) (statement_body (statement_of a)) (r3 ∙ sym r2)
          (after_proof (statement_cell i) (λ z. omega (arith, z)) (λ z. omega (arith, z))
          ∙ proof_others (statement_cell i) (λ z. omega (arith, z)))
          (subst (HasBody s2 (statement_cell i)) statement_is stated);
      proof = proof_since s0 s2 s4 i a.kind kept
          (statement_others (proof_cell i) (λ z. omega (arith, z)) ∙ name_others (proof_cell i) (λ z. omega (arith, z)))
          (proof_stays s2 s3 s4 i a.kind kept refl (after_proof (proof_cell i) (λ z. omega (arith, z)) (λ z. omega (arith, z))) proof);
      ranked = value_elsewhere (citers_cell i) 0 (with_value (rank_cell i) rank s3) (rank_cell i) (λ z. omega (arith, z))
          ∙ value_there (rank_cell i) rank s3;
      citers = value_there (citers_cell i) 0 (with_value (rank_cell i) rank s3);
      others = λ c out. after_proof c (λ z. apart c out 4 (omega arith) z) (λ z. apart c out 3 (omega arith) z)
          ∙ proof_others c (λ z. apart c out 2 (omega arith) z) ∙ statement_others c (λ z. apart c out 1 (omega arith) z)
          ∙ name_others c (λ z. apart c out 0 (omega arith) (omega (arith, z)));
    })
  where
    s4 : State
    s4 = with_value (5 * i + 4) 0 (with_value (5 * i + 3) rank s3)

    after_proof : (c : ℕ) → c ≢ citers_cell i → c ≢ rank_cell i
        → (with_value (citers_cell i) 0 (with_value (rank_cell i) rank s3)).value c ≡ s3.value c
    after_proof c no_citers no_rank = value_elsewhere (citers_cell i) 0 (with_value (rank_cell i) rank s3) c no_citers
        ∙ value_elsewhere (rank_cell i) rank s3 c no_rank

    apart : (c : ℕ) → (c < 5 * i) ⊎ (5 * i + 5 ≤ c) → (k : ℕ) → k < 5 → c ≡ 5 * i + k → ⊥
    apart c out k lt z = ⊎_elim (λ before. omega (arith, before, z)) (λ behind. omega (arith, behind, z)) out
