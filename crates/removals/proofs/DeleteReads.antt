-- Which cells `delete` reads, from what its parts read.
use Rattle.std.proofs.Common.{◌≡◌, ◌<◌, ◌≤◌, ◌*◌, ℕ, List, ap, subst, ◌∙◌, inl, inr, ⊎_elim, arith}
use Rattle.library.specs.declared.library.Ranked.{Ranked}
use Rattle.library.specs.declared.command.Command.TheVariants.{Delete}
use Rattle.library.specs.Library.{Setting}
use Rattle.ranges.specs.Ranges.{Has}
use Rattle.ranges.proofs.Members.{all_from_has}
use Rattle.bodystore.specs.declared.stored.StoredStep.{StoredStep}
use Rattle.cells.specs.State.{State}
use Rattle.cells.specs.Slots.{proof_cell}
use Rattle.cells.specs.Shows.{AreStoredAs}
use Rattle.cells.specs.Sight.{Sight, Matches, Views, Onward, Looks, ReadsWithin, after}
use Rattle.cells.specs.Aside.{IsOfSlot, IsCitersOf}
use Rattle.cells.specs.Counts.{AreCitedSlots}
use Rattle.cells.specs.Footprints.{ReadsWhere, IsOfTakingOut}
use Rattle.cells.specs.Lookups.{ForEachHeld, IsFoundAt}
use Rattle.cells.proofs.Asking.{asks_wider}
use Rattle.cells.proofs.Counted.{listed_within}
use Rattle.cells.proofs.Sights.{matches_back, after_looks, setting_kept}
use Rattle.groundwork.proofs.Restepped.{CountsOutOf}
use Rattle.groundwork.proofs.Since.{ReadsSince, OfCommandFound, since_then, of_slot, taking_out, look_before}
use Rattle.groundwork.proofs.Touching.{cited_citers}
use Rattle.groundwork.proofs.RestepReads.{stored_before}

module _ {O : Type 0} (s0 s1 : Sight O) (i : ℕ) (label : List ℕ) where
  pub removal_proof : ReadsWithin (λ c. c ≡ proof_cell i) s0 s1 → ReadsSince (OfCommandFound s0 i label (Delete label)) s0 s0 s1
  removal_proof reads st lib m v = asks_wider (λ c is at. inr (i, at, inr (inl (of_slot i 2 c (omega arith) is)))) reads

  module _ (s2 : Sight O) (former : List StoredStep) (listed : List ℕ) (looks : Looks s0 s1)
      (read : ForEachHeld s1 i (λ st lib e. AreStoredAs s1.setting.slots st e.assertion.proof former)) (cited : AreCitedSlots former listed)
      (on2 : Onward s1 s2) where
    pub removal_counts : ReadsWithin (IsCitersOf listed) s1 s2 → ReadsSince (OfCommandFound s0 i label (Delete label)) s0 s0 s1
        → ReadsSince (OfCommandFound s0 i label (Delete label)) s0 s0 s2
    removal_counts reads before =
        since_then (OfCommandFound s0 i label (Delete label)) before on2 (λ st lib m v.
        asks_wider (λ c is at. inr (
          i,
          at,
          inr (inr (cited_citers s0.setting.slots (after s0 st) lib v.shows v.matches.store at.entry former c
              (stored_before s0 s1 i label former looks read st lib (matches_back s1 s2 st on2 m) v at) (
                is.0,
                cited.cited is.0 is.1,
                is.2,
              ))),
        )) reads)

    -- no cell of a chain was changed
    chains_before : CountsOutOf s1 s2 listed → (st : State) (lib : List Ranked) → Matches s2 st → Views s0 st lib
        → IsFoundAt s0.setting.slots (after s0 st) lib label i
        → (c : ℕ) → 5 * s0.setting.slots ≤ c → (after s2 st).value c ≡ (after s0 st).value c
    chains_before counts st lib m v at c low =
        let stored = stored_before s0 s1 i label former looks read st lib (matches_back s1 s2 st on2 m) v at in
        let within : (j : ℕ) → Has j listed → j < s0.setting.slots =
        listed_within s0.setting.slots (after s0 st) lib v.shows v.matches.store at.entry.assertion.proof former listed stored cited in
        let early : s1.setting.slots ≡ s0.setting.slots = ap (λ (x : Setting). x.slots) (setting_kept looks.onward) in
        let counted = counts st m (all_from_has (λ j. j < s1.setting.slots) listed (λ j h. let lt = within j h in omega (arith, lt, early)))
        cited.apart in
        counted.others c (λ j h z. let lt = within j h in omega (arith, low, lt, z))
        ∙ ap (λ (x : State). x.value c) (after_looks s0 s1 st looks)

    pub removal_chain : (s3 : Sight O) → Onward s2 s3 → CountsOutOf s1 s2 listed → ReadsWhere (IsOfTakingOut s2.setting.slots i label) s2 s3
        → ReadsSince (OfCommandFound s0 i label (Delete label)) s0 s0 s2 → ReadsSince (OfCommandFound s0 i label (Delete label)) s0 s0 s3
    removal_chain s3 on3 counts reads before =
        since_then (OfCommandFound s0 i label (Delete label)) before on3 (λ st lib m v.
        let back = matches_back s2 s3 st on3 m in
        asks_wider (λ c is at.
        ⊎_elim (λ own. inr (i, at, inl own))
        (λ look. inl (look_before s0.setting.slots (after s0 st) (after s2 st) (chains_before counts st lib back v at) label c look))
        (taking_out s0.setting.slots i label (after s2 st) c
        (subst (λ (x : Setting). IsOfTakingOut x.slots i label (after s2 st) c) (setting_kept on2 ∙ (setting_kept looks.onward)) is)))
        (reads.each st m))

  pub removal_slot : (s2 : Sight O) → Onward s1 s2 → ReadsWithin (IsOfSlot i) s1 s2
      → ReadsSince (OfCommandFound s0 i label (Delete label)) s0 s0 s1
      → ReadsSince (OfCommandFound s0 i label (Delete label)) s0 s0 s2
  removal_slot s2 on reads before = since_then (OfCommandFound s0 i label (Delete label)) before on
      (λ st lib m v. asks_wider (λ c is at. inr (i, at, inr (inl is))) reads)
