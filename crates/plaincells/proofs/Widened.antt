-- A state that shows a library shows it where there are more ranges.
use Rattle.std.proofs.Common.{ℕ, List, [], ◌∷◌, inl, inr}
use Rattle.std.specs.Prelude.{◌⊎◌}
use Rattle.std.proofs.lemmas.List.Elements.{All-weaker}
use Rattle.mmsyntax.specs.declared.statement.Kind.{Kind}
use Rattle.mmsyntax.specs.declared.statement.Kind.TheVariants.{Axiom, Theorem}
use Rattle.mmsyntax.specs.declared.statement.Step.{Step}
use Rattle.mmsyntax.specs.declared.statement.Step.TheVariants.{Float, Hyp, Cite}
use Rattle.bodystore.specs.declared.stored.StoredStep.{StoredStep}
use Rattle.bodystore.specs.declared.stored.StoredStep.TheVariants as stored
use Rattle.library.specs.declared.library.Ranked.{Ranked}
use Rattle.ranges.specs.Ranges.{Range, Has, Within}
use Rattle.cells.specs.State.{State, HasBody}
use Rattle.cells.specs.Slots.{next_cell}
use Rattle.cells.specs.Shows.{Held, slots_of, IsNamed, IsStoredAs, AreStoredAs, HoldsProof, Holds, IsEmpty, IsChain, Shows, ShowsHeld}

module _ (slots : ℕ) (value : ℕ → ℕ) (ranges more : List Range) (within : Within ranges more) where
  abbrev few : State
  few = record { value = value; ranges = ranges }

  abbrev many : State
  many = record { value = value; ranges = more }

  body_widened : (cell : ℕ) (words : List ℕ) → HasBody few cell words → HasBody many cell words
  body_widened cell words h = record {
    start = h.start;
    finished = within (record { start = h.start; words = words }) h.finished;
    named =
        h.named;
    some = h.some;
  }

  pub named_widened : (i : ℕ) (label : List ℕ) → IsNamed slots few i label → IsNamed slots many i label
  named_widened i label h = record { within = h.within; body = body_widened _ _ h.body }

  step_widened : (x : Step) (y : StoredStep) → IsStoredAs (IsNamed slots few) x y → IsStoredAs (IsNamed slots many) x y
  step_widened (Float i) (stored.Float j) h = h
  step_widened (Float i) (stored.Hyp j) h = absurd h
  step_widened (Float i) (stored.Slot s) h = absurd h
  step_widened (Hyp i) (stored.Float j) h = absurd h
  step_widened (Hyp i) (stored.Hyp j) h = h
  step_widened (Hyp i) (stored.Slot s) h = absurd h
  step_widened (Cite label) (stored.Float j) h = absurd h
  step_widened (Cite label) (stored.Hyp j) h = absurd h
  step_widened (Cite label) (stored.Slot s) h = named_widened s label h

  pub steps_widened : (xs : List Step) (ys : List StoredStep) → AreStoredAs slots few xs ys → AreStoredAs slots many xs ys
  steps_widened [] [] h = tt
  steps_widened [] (y ∷ ys) h = absurd h
  steps_widened (x ∷ xs) [] h = absurd h
  steps_widened (x ∷ xs) (y ∷ ys) h = (step_widened x y h.0, steps_widened xs ys h.1)

  proof_widened : (i : ℕ) (k : Kind) (steps : List Step) → HoldsProof slots few i k steps → HoldsProof slots many i k steps
  proof_widened i Axiom steps h = h
  proof_widened i Theorem steps h = (h.0, body_widened _ _ h.1, steps_widened steps h.0 h.2)

  holds_widened : (lib : List Ranked) (i : ℕ) (e : Ranked) → Holds slots few lib i e → Holds slots many lib i e
  holds_widened lib i e h =
      record {
        name = named_widened _ _ h.name;
        statement = body_widened _ _ h.statement;
        proof = proof_widened i e.assertion.kind e.assertion.proof h.proof;
        rank = h.rank;
        citers = h.citers;
      }

  pub empty_widened : (i : ℕ) → IsEmpty slots few i → IsEmpty slots many i
  empty_widened i h =
      record { name = h.name; statement = h.statement; proof = h.proof; rank = h.rank; citers = h.citers; next = h.next }

  chain_widened : (is : List ℕ) (word : ℕ) → IsChain slots few is word → IsChain slots many is word
  chain_widened [] word h = h
  chain_widened (i ∷ is) word h = (h.0, h.1, chain_widened is (value (next_cell slots i)) h.2)

  -- and the same assertions are held by the same slots
  pub shows_widened : (lib : List Ranked) (held : List Held) → ShowsHeld slots few lib held → ShowsHeld slots many lib held
  shows_widened lib held (h, is) = (
    record {
      held = h.held;
      library = h.library;
      holds = All-weaker (λ p. Holds slots few lib p.slot p.entry) (λ p. Holds slots many lib p.slot p.entry)
          (λ p f. holds_widened lib p.slot p.entry f) h.held h.holds;
      apart = h.apart;
      others = λ i lt. others_widened h i (h.others i lt);
      chained = λ b lt. let c = h.chained b lt in record { chain = c.chain; starts = chain_widened c.chain _ c.starts; has = c.has };
    },
    is,
  )
    where
      others_widened : (g : Shows slots few lib) (i : ℕ) → Has i (slots_of g.held) ⊎ IsEmpty slots few i
          → Has i (slots_of g.held) ⊎ IsEmpty slots many i
      others_widened g i (inl f) = inl f
      others_widened g i (inr f) = inr (empty_widened i f)
