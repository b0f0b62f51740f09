-- Which cells are read where a theorem gets another proof.
use Rattle.std.proofs.Common.{◌≡◌, ℕ, List, inl, inr, subst}
use Rattle.mmsyntax.specs.declared.statement.Step.{Step}
use Rattle.library.specs.declared.library.Ranked.{Ranked}
use Rattle.library.specs.Edits.{with_proof}
use Rattle.library.specs.Library.{Setting}
use Rattle.library.proofs.Places.{found_in}
use Rattle.bodystore.specs.declared.stored.StoredStep.{StoredStep}
use Rattle.cells.specs.State.{State}
use Rattle.cells.specs.Slots.{proof_cell}
use Rattle.cells.specs.Shows.{AreStoredAs}
use Rattle.cells.specs.Sight.{Sight, Onward, Looks, ReadsWithin, after, Matches, Views}
use Rattle.cells.specs.Aside.{IsCitersOf}
use Rattle.cells.specs.Lookups.{ForEachHeld, IsFoundAt}
use Rattle.cells.proofs.Asking.{asks_wider}
use Rattle.cells.proofs.Sights.{matches_back, after_looks, setting_kept}
use Rattle.groundwork.specs.Changes.{AreExchanged}
use Rattle.groundwork.specs.Touches.{IsOfReproof}
use Rattle.groundwork.specs.Footprints.{ReprovesReading}
use Rattle.groundwork.proofs.Since.{ReadsSince, since_then}
use Rattle.groundwork.proofs.Touching.{dropped_cited, gained_cited}
use Rattle.groundwork.proofs.Seeing.{views_later, found_later}

-- the steps that were read are those of the assertion that was found
pub stored_before : {O : Type 0} → (s t : Sight O) (i : ℕ) (label : List ℕ) (former : List StoredStep) → Looks s t
    → ForEachHeld t i (λ st lib e. AreStoredAs t.setting.slots st e.assertion.proof former) → (st : State) (lib : List Ranked)
    → Matches t st
    → Views s st lib → (at : IsFoundAt s.setting.slots (after s st) lib label i)
    → AreStoredAs s.setting.slots (after s st) at.entry.assertion.proof former
stored_before s t i label former looks read st lib m v at =
    let now = found_later s t st lib label i looks at in
    subst (λ (x : State). AreStoredAs s.setting.slots x at.entry.assertion.proof former) (after_looks s t st looks)
    (subst (λ (x : Setting). AreStoredAs x.slots (after t st) at.entry.assertion.proof former) (setting_kept looks.onward)
    (read st lib (views_later s t st lib looks m v) now.entry (found_in lib label now.entry now.found).0 now.holds))

-- what may be read where the label was found in the slot, and the steps are stored so
abbrev pub OfResteps : {O : Type 0} → Sight O → ℕ → List ℕ → List StoredStep → State → List Ranked → ℕ → Type 0
OfResteps old i label kept st lib c =
    (at : IsFoundAt old.setting.slots st lib label i) (steps : List Step) → AreStoredAs old.setting.slots st steps kept
    → IsOfReproof old.setting.slots st lib i at.entry (with_proof steps at.entry) c

module _ {O : Type 0} (s0 : Sight O) (i : ℕ) (label : List ℕ) (kept : List StoredStep) where
  pub resteps_end : (t : Sight O) → ReadsSince (OfResteps s0 i label kept) s0 s0 t → ReprovesReading s0 t i label kept
  resteps_end t reads st lib m v at steps stored = asks_wider (λ c is. is at steps stored) (reads st lib m v)

  pub resteps_proof : (s t : Sight O) → ReadsWithin (λ c. c ≡ proof_cell i) s t → ReadsSince (OfResteps s0 i label kept) s0 s t
  resteps_proof s t reads st lib m v = asks_wider (λ c is at steps stored. inl is) reads

  -- the proof is read, and then its cell is written
  pub resteps_put : (s1 s2 : Sight O) → ReadsWithin (λ c. c ≡ proof_cell i) s0 s1 → Onward s1 s2 → ReadsWithin (λ c. c ≡ proof_cell i) s1 s2
      → ReadsSince (OfResteps s0 i label kept) s0 s0 s2
  resteps_put s1 s2 first on more =
      since_then (OfResteps s0 i label kept) (resteps_proof s0 s1 first) on (resteps_proof s1 s2 more)

  module _ (s1 s t : Sight O) (former : List StoredStep) (dropped gained : List ℕ) (looks : Looks s0 s1) (on1 : Onward s1 s)
      (on2 : Onward s t)
      (read : ForEachHeld s1 i (λ st lib e. AreStoredAs s1.setting.slots st e.assertion.proof former))
      (exchange : AreExchanged former kept dropped gained) (since : ReadsSince (OfResteps s0 i label kept) s0 s0 s) where
    -- what the former proof cites alone is counted out
    pub resteps_out : ReadsWithin (IsCitersOf dropped) s t → ReadsSince (OfResteps s0 i label kept) s0 s0 t
    resteps_out reads =
        since_then (OfResteps s0 i label kept) since on2 (λ st lib m v.
        asks_wider
        (λ c is at steps stored. inr (dropped_cited s0.setting.slots
        (after s0 st) lib v.shows v.matches.store v.verifies.library.distinct at.entry
        steps former kept exchange.before exchange.now
        (stored_before s0 s1 i label former looks read st lib (matches_back s1 s st on1 (matches_back s t st on2 m)) v at) stored
        exchange.cited_before exchange.cited_now dropped exchange.drops c is))
        reads)

    -- what the other cites alone is counted in
    pub resteps_in : ReadsWithin (IsCitersOf gained) s t → ReadsSince (OfResteps s0 i label kept) s0 s0 t
    resteps_in reads =
        since_then (OfResteps s0 i label kept) since on2 (λ st lib m v.
        asks_wider
        (λ c is at steps stored. inr (gained_cited s0.setting.slots
        (after s0 st) lib v.shows v.matches.store v.verifies.library.distinct at.entry
        steps former kept exchange.before exchange.now
        (stored_before s0 s1 i label former looks read st lib (matches_back s1 s st on1 (matches_back s t st on2 m)) v at) stored
        exchange.cited_before exchange.cited_now gained exchange.gains c is))
        reads)
