-- What is shown and what is lawful stays so where other ranges are finished, among them those that are needed.
use Rattle.std.proofs.Common.{◌≡◌, ◌∙◌, ap, ℕ, ◌*◌, ◌%◌, ◌<◌, true, List, [], ◌∷◌, inl, inr, arith}
use Rattle.std.specs.Prelude.{◌⊎◌, ◌&&◌, nat_lt}
use Rattle.std.proofs.lemmas.Bool.{lt-ltb}
use Rattle.std.proofs.lemmas.List.Elements.{All-weaker}
use Rattle.mmsyntax.specs.declared.statement.Kind.{Kind}
use Rattle.mmsyntax.specs.declared.statement.Kind.TheVariants.{Axiom, Theorem}
use Rattle.mmsyntax.specs.declared.statement.Step.{Step}
use Rattle.mmsyntax.specs.declared.statement.Step.TheVariants.{Float, Hyp, Cite}
use Rattle.bodystore.specs.declared.stored.StoredStep.{StoredStep}
use Rattle.bodystore.specs.declared.stored.StoredStep.TheVariants as stored
use Rattle.library.specs.declared.library.Ranked.{Ranked}
use Rattle.ranges.specs.Ranges.{Range, Has, Within}
use Rattle.ranges.specs.Pairs.{Pairs}
use Rattle.cells.specs.State.{State, HasBody}
use Rattle.cells.specs.Slots.{cell_count, name_cell, statement_cell, proof_cell, next_cell, is_ranged}
use Rattle.cells.specs.Shows.{Held, slots_of, IsNamed, IsStoredAs, AreStoredAs, HoldsProof, Holds, IsEmpty, IsChain, IsChained, Shows}
use Rattle.cells.specs.Sight.{Suits}
use Rattle.lawful.specs.declared.notes.Given.{Given}
use Rattle.lawful.specs.declared.notes.Note.TheVariants.{Done, Refused, Looked}
use Rattle.lawful.specs.Lawful.{sight_over}
use Rattle.lawful.specs.Laws.{ShownIsKept, LawfulIsKept}

-- ---- what is shown

is_range_cell : (slots c : ℕ) → c < 5 * slots → c % 5 < 3 → is_ranged slots c ≡ true
is_range_cell slots c below first = ap (λ b. b && nat_lt (c % 5) 3) (lt-ltb c (5 * slots) below) ∙ lt-ltb (c % 5) 3 first

module _ (slots : ℕ) (st next : State) (same : (c : ℕ) → c < cell_count slots → next.value c ≡ st.value c)
    (bodies : (c : ℕ) (words : List ℕ) → c < cell_count slots → is_ranged slots c ≡ true → HasBody st c words → HasBody next c words) where
  kept_in : (c : ℕ) (words : List ℕ) → c < 5 * slots → c % 5 < 3 → HasBody st c words → HasBody next c words
  kept_in c words below first h = bodies c words (omega (arith, below)) (is_range_cell slots c below first) h

  name_kept : (i : ℕ) (label : List ℕ) → IsNamed slots st i label → IsNamed slots next i label
  name_kept i label h =
      let lt = h.within in
      record { within = lt; body = kept_in (name_cell i) _ (omega (arith, lt)) (omega arith) h.body }

  step_kept : (x : Step) (y : StoredStep) → IsStoredAs (IsNamed slots st) x y → IsStoredAs (IsNamed slots next) x y
  step_kept (Float i) (stored.Float j) h = h
  step_kept (Float i) (stored.Hyp j) h = absurd h
  step_kept (Float i) (stored.Slot s) h = absurd h
  step_kept (Hyp i) (stored.Float j) h = absurd h
  step_kept (Hyp i) (stored.Hyp j) h = h
  step_kept (Hyp i) (stored.Slot s) h = absurd h
  step_kept (Cite label) (stored.Float j) h = absurd h
  step_kept (Cite label) (stored.Hyp j) h = absurd h
  step_kept (Cite label) (stored.Slot s) h = name_kept s label h

  steps_kept : (xs : List Step) (ys : List StoredStep) → AreStoredAs slots st xs ys → AreStoredAs slots next xs ys
  steps_kept [] [] h = tt
  steps_kept [] (y ∷ ys) h = absurd h
  steps_kept (x ∷ xs) [] h = absurd h
  steps_kept (x ∷ xs) (y ∷ ys) h = (step_kept x y h.0, steps_kept xs ys h.1)

  proof_kept : (i : ℕ) (kind : Kind) (steps : List Step) → i < slots → HoldsProof slots st i kind steps → HoldsProof slots next i kind steps
  proof_kept i Axiom steps lt h = (same _ (omega (arith, lt)) ∙ h.0, h.1)
  proof_kept i Theorem steps lt h =
      (h.0, kept_in (proof_cell i) _ (omega (arith, lt)) (omega arith) h.1, steps_kept steps h.0 h.2)

  holds_kept : (lib : List Ranked) (i : ℕ) (e : Ranked) → Holds slots st lib i e → Holds slots next lib i e
  holds_kept lib i e h =
      let lt = h.name.within in
      record {
        name = name_kept _ _ h.name;
        statement = kept_in (statement_cell i) _ (omega (arith, lt)) (omega arith) h.statement;
        proof = proof_kept _ e.assertion.kind e.assertion.proof lt h.proof;
        rank = same _ (omega (arith, lt)) ∙ h.rank;
        citers = same _ (omega (arith, lt)) ∙ h.citers;
      }

  empty_kept : (i : ℕ) → i < slots → IsEmpty slots st i → IsEmpty slots next i
  empty_kept i lt h =
      record {
        name = same _ (omega (arith, lt)) ∙ h.name;
        statement = same _ (omega (arith, lt)) ∙ h.statement;
        proof = same _ (omega (arith, lt)) ∙ h.proof;
        rank = same _ (omega (arith, lt)) ∙ h.rank;
        citers = same _ (omega (arith, lt)) ∙ h.citers;
        next = same _ (omega (arith, lt)) ∙ h.next;
      }

  -- the slots of a chain that goes on with the word of a cell
  chain_kept : (is : List ℕ) (cell : ℕ) → cell < cell_count slots → IsChain slots st is (st.value cell)
      → IsChain slots next is (next.value cell)
  chain_kept [] cell lt h = same cell lt ∙ h
  chain_kept (i ∷ is) cell lt h =
      let slot = h.0 in (h.0, same cell lt ∙ h.1, chain_kept is (next_cell slots i) (omega (arith, slot)) h.2)

  chained_kept : (held : List Held) (b : ℕ) → b < slots → IsChained slots st held b → IsChained slots next held b
  chained_kept held b lt h = record { chain = h.chain; starts = chain_kept h.chain _ (omega (arith, lt)) h.starts; has = h.has }

  others_kept : (held : List Held) (i : ℕ) → i < slots → Has i (slots_of held) ⊎ IsEmpty slots st i
      → Has i (slots_of held) ⊎ IsEmpty slots next i
  others_kept held i lt (inl h) = inl h
  others_kept held i lt (inr h) = inr (empty_kept i lt h)

  pub shows_kept : (lib : List Ranked) → Shows slots st lib → Shows slots next lib
  shows_kept lib h =
      record {
        held = h.held;
        library = h.library;
        holds = All-weaker (λ (p : Held). Holds slots st lib p.slot p.entry) (λ (p : Held). Holds slots next lib p.slot p.entry)
            (λ p at. holds_kept lib p.slot p.entry at) h.held h.holds;
        apart = h.apart;
        others = λ i lt. others_kept h.held i lt (h.others i lt);
        chained = λ b lt. chained_kept h.held b lt (h.chained b lt);
      }

pub shown_is_kept : ShownIsKept
shown_is_kept slots st next lib same more h =
    shows_kept slots st next same
    (λ c words lt ranged b. record { start = b.start; finished = more _ b.finished; named = same c lt ∙ b.named; some = b.some }) lib h

-- ---- what is lawful

-- what suits a run that knows more ranges suits one that knows fewer
fewer : (g : Given) (ranges more : List Range) (reads writes : Pairs) (st : State) (lib : List Ranked) → Within ranges more
    → Suits (sight_over g more reads writes) st lib → Suits (sight_over g ranges reads writes) st lib
fewer g ranges more reads writes st lib within h =
    record {
      matches = record { store = h.matches.store; has = λ r at. h.matches.has r (within r at); reads = h.matches.reads };
      shows = h.shows;
      verifies = h.verifies;
    }

pub lawful_is_kept : LawfulIsKept
lawful_is_kept g ranges more reads writes (Done commands replies) within h = (
  h.0,
  h.1,
  λ st lib s.
      let d = h.2 st lib (fewer g ranges more reads writes st lib within s) in
      record { next = d.next; applied = d.applied; shows = d.shows },
)
lawful_is_kept g ranges more reads writes (Refused commands refused) within h =
    (h.0, h.1, λ st lib s. h.2 st lib (fewer g ranges more reads writes st lib within s))
lawful_is_kept g ranges more reads writes (Looked library) within h =
    (h.0, h.1, λ st lib s. h.2 st lib (fewer g ranges more reads writes st lib within s))
