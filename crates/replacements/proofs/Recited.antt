-- Stored steps that cite one slot in place of another.
use Rattle.std.proofs.Common.{◌≡◌, ◌≢◌, ℕ, ◌<◌, Bool, true, false, List, [], ◌∷◌, map, refl, sym, ap, subst, ◌∙◌}
use Rattle.std.specs.Prelude.{◌==◌, ◌||◌, if◌then◌else◌, nat_le}
use Rattle.std.specs.Str.{bytes_eq}
use Rattle.std.proofs.Math.Bool.{or-false}
use Rattle.std.proofs.lemmas.Bool.{leb-false, lt-leb, or_parts}
use Rattle.mmsyntax.specs.declared.statement.Step.{Step}
use Rattle.mmsyntax.specs.declared.statement.Step.TheVariants.{Float, Hyp, Cite}
use Rattle.mmsyntax.specs.Assertions.{Distinct}
use Rattle.derivation.specs.Laws.{replacing, step_relabelled}
use Rattle.library.specs.declared.library.Ranked.{Ranked}
use Rattle.library.specs.Library.{label_of}
use Rattle.library.specs.Edits.{recited}
use Rattle.ranges.specs.Ranges.{AreOfOneStore}
use Rattle.ranges.proofs.Members.{mapped_has}
use Rattle.bodystore.specs.declared.stored.StoredStep.{StoredStep}
use Rattle.bodystore.specs.declared.stored.StoredStep.TheVariants as stored
use Rattle.cells.specs.State.{State, most_words}
use Rattle.cells.specs.Shows.{IsNamed, IsStoredAs, AreStoredAs, Shows}
use Rattle.cells.specs.Lookups.{AreWithin, IsFoundAt}
use Rattle.cells.proofs.Found.{slot_or_label}
use Rattle.cells.proofs.Holding.{named_held}
use Rattle.replacements.specs.Replacing.{recited_step}

-- all that they cite is a slot
pub recited_within : (slots old new : ℕ) (kept : List StoredStep) → new < slots → AreWithin slots (map (recited_step slots old new) kept)
recited_within slots old new kept within i has =
    let from = mapped_has (recited_step slots old new) kept i-step has in one from.0 from.2
  where
    i-step : StoredStep
    i-step = stored.Slot i

    chosen : (j : ℕ) (b : Bool) → (j == old || nat_le slots j) ≡ b → i ≡ (if b then new else j) → i < slots
    chosen j true is same = subst (λ n. n < slots) (sym same) within
    chosen j false is same =
        subst (λ n. n < slots) (sym same) (leb-false slots j (or_parts (j == old) (nat_le slots j) is).1)

    one : (x : StoredStep) → stored.Slot i ≡ recited_step slots old new x → i < slots
    one (stored.Float j) is = absurd cc
    one (stored.Hyp j) is = absurd cc
    one (stored.Slot j) is = chosen j (j == old || nat_le slots j) refl cc

-- steps that are stored so are the steps with the label of the one slot become that of the other
module _ (slots : ℕ) (st : State) (lib : List Ranked) (shows : Shows slots st lib) (store : AreOfOneStore most_words st.ranges)
    (apart : Distinct bytes_eq (map label_of lib)) (i k : ℕ) (old new : List ℕ) (at : IsFoundAt slots st lib old i)
    (named : IsNamed slots st k new) where
  slot_tells : (j : ℕ) (label : List ℕ) → IsNamed slots st j label → (j == i || nat_le slots j) ≡ bytes_eq old label
  slot_tells j label h =
      let p = named_held slots st lib shows store j label h in
      let same : (j == i) ≡ bytes_eq old label =
      subst (λ l. (j == i) ≡ bytes_eq old l) p.3
      (subst (λ n. (n == i) ≡ bytes_eq old (label_of p.0.entry)) p.2 (slot_or_label slots st lib shows store apart old i at p.0 p.1)) in
      ap (λ b. j == i || b) (lt-leb slots j h.within) ∙ or-false (j == i) ∙ same

  one_stored : (x : Step) (y : StoredStep) → IsStoredAs (IsNamed slots st) x y
      → IsStoredAs (IsNamed slots st) (step_relabelled (replacing old new) x) (recited_step slots i k y)
  one_stored (Float m) (stored.Float n) h = h
  one_stored (Float m) (stored.Hyp n) h = absurd h
  one_stored (Float m) (stored.Slot n) h = absurd h
  one_stored (Hyp m) (stored.Float n) h = absurd h
  one_stored (Hyp m) (stored.Hyp n) h = h
  one_stored (Hyp m) (stored.Slot n) h = absurd h
  one_stored (Cite label) (stored.Float n) h = absurd h
  one_stored (Cite label) (stored.Hyp n) h = absurd h
  one_stored (Cite label) (stored.Slot j) h =
      subst (λ b. IsNamed slots st (if b then k else j) (replacing old new label)) (sym (slot_tells j label h))
      (elim (bytes_eq old label) as (λ b. IsNamed slots st (if b then k else j) (if b then new else label)) [ true ↦ named | false ↦ h ])

  pub recited_stored : (steps : List Step) (kept : List StoredStep) → AreStoredAs slots st steps kept
      → AreStoredAs slots st (recited old new steps) (map (recited_step slots i k) kept)
  recited_stored [] [] h = tt
  recited_stored [] (y ∷ kept) h = absurd h
  recited_stored (x ∷ steps) [] h = absurd h
  recited_stored (x ∷ steps) (y ∷ kept) h = (one_stored x y h.0, recited_stored steps kept h.1)
