-- For which cells `delete` keeps values aside, from what its parts keep aside.
use Rattle.std.proofs.Common.{◌≡◌, ◌<◌, ℕ, List, sym, ap, subst, ◌∙◌, inl, inr, ⊎_elim, arith}
use Rattle.library.specs.declared.command.Command.TheVariants.{Delete}
use Rattle.library.specs.Library.{Setting}
use Rattle.library.proofs.Places.{found_in}
use Rattle.ranges.specs.Ranges.{Has}
use Rattle.ranges.proofs.Members.{all_from_has}
use Rattle.bodystore.specs.declared.stored.StoredStep.{StoredStep}
use Rattle.cells.specs.State.{State}
use Rattle.cells.specs.Shows.{AreStoredAs}
use Rattle.cells.specs.Sight.{Sight, Matches, Onward, Looks, after}
use Rattle.cells.specs.Aside.{KeepsAside, IsOfSlot, IsCitersOf, IsOfLeaving}
use Rattle.chains.specs.Chains.{KeepsLeaving}
use Rattle.cells.specs.Counts.{AreCitedSlots}
use Rattle.cells.specs.Lookups.{ForEach, ForEachHeld, IsFoundAt}
use Rattle.cells.proofs.Sights.{matches_back, after_looks, setting_kept}
use Rattle.cells.proofs.Keeping.{keeps_same, keeps_trans, keeps_wider}
use Rattle.cells.proofs.Counted.{listed_within}
use Rattle.groundwork.specs.Touches.{IsOfDeletion, KeepsTo}
use Rattle.groundwork.proofs.Restepped.{CountsOutOf}
use Rattle.groundwork.proofs.Seeing.{views_later, found_later}
use Rattle.groundwork.proofs.Touching.{cited_citers}
use Rattle.removals.specs.Changes.{DeletesWithin}

pub removes_within : {O : Type 0} → (s0 s1 s2 s3 s4 : Sight O) (i : ℕ) (label : List ℕ) (former : List StoredStep) (listed : List ℕ)
    → Looks s0 s1 → Onward s1 s2 → Onward s2 s3 → Onward s3 s4
    → ForEachHeld s1 i (λ st lib e. AreStoredAs s1.setting.slots st e.assertion.proof former)
    → AreCitedSlots former listed → CountsOutOf s1 s2 listed → KeepsAside (IsCitersOf listed) s1 s2
    → KeepsLeaving i s2 s3 → KeepsAside (IsOfSlot i) s3 s4
    → DeletesWithin s0 s4 i label
removes_within s0 s1 s2 s3 s4 i label former listed looks on2 on3 on4 read cited counts out leaves emptied st lib m seen here =
    keeps_trans such s0 s1 s4 (keeps_same such s0 s1 looks.writes)
    (keeps_trans such s1 s3 s4
    (keeps_trans such s1 s2 s3
    (keeps_wider (IsCitersOf listed) such s1 s2
    (λ c is. inr (inr (cited_citers slots (after s0 st) lib seen.shows seen.matches.store here.entry former c stored
    (is.0, cited.cited is.0 is.1, is.2)))) out)
    (keeps_wider (IsOfLeaving s2.setting.slots (after s2 st) i) such s2 s3 (λ c is. inr (inl (still c is)))
    (leaves st (matches_back s3 s4 st on4 m))))
    (keeps_wider (IsOfSlot i) such s3 s4 (λ c is. inl is) emptied))
  where
    slots : ℕ
    slots = s0.setting.slots

    such : ℕ → Type 0
    such = IsOfDeletion s0.setting.slots (after s0 st) lib i here.entry

    m2 : Matches s2 st
    m2 = matches_back s2 s3 st on3 (matches_back s3 s4 st on4 m)

    stored : AreStoredAs s0.setting.slots (after s0 st) here.entry.assertion.proof former
    stored =
        let at = found_later s0 s1 st lib label i looks here in
        subst (λ (x : State). AreStoredAs s0.setting.slots x here.entry.assertion.proof former) (after_looks s0 s1 st looks)
        (subst (λ (x : Setting). AreStoredAs x.slots (after s1 st) here.entry.assertion.proof former) (setting_kept looks.onward)
        (read st lib (views_later s0 s1 st lib looks (matches_back s1 s2 st on2 m2) seen) at.entry (found_in lib label at.entry at.found).0
        at.holds))

    within : (j : ℕ) → Has j listed → j < s0.setting.slots
    within = listed_within slots (after s0 st) lib seen.shows seen.matches.store here.entry.assertion.proof former listed stored cited

    still : (c : ℕ) → IsOfLeaving s2.setting.slots (after s2 st) i c → IsOfLeaving s0.setting.slots (after s0 st) i c
    still c is =
        let early : s1.setting.slots ≡ s0.setting.slots = ap (λ (x : Setting). x.slots) (setting_kept looks.onward) in
        let slots_are : s2.setting.slots
        ≡ s0.setting.slots = ap (λ (x : Setting). x.slots) (setting_kept on2 ∙ (setting_kept looks.onward)) in
        let counted = counts st m2 (all_from_has (λ j. j < s1.setting.slots) listed (λ j h. let lt =
        within j h in omega (arith, lt, early)))
        cited.apart in
        ⊎_elim (λ leads. let low = leads.0 in
        inl (
          omega (arith, low, slots_are),
          sym (counted.others c (λ j h z. let lt = within j h in omega (arith, low, slots_are, lt, z))
              ∙ ap (λ (x : State). x.value c) (after_looks s0 s1 st looks)) ∙ leads.1,
        ))
        (λ own. inr (omega (arith, own, slots_are))) is

pub delete_keeps : {O : Type 0} → (s new : Sight O) (i : ℕ) (label : List ℕ)
    → ForEach s (λ st lib. IsFoundAt s.setting.slots st lib label i) → DeletesWithin s new i label → KeepsTo s new (Delete label)
delete_keeps s new i label here within st lib m v c was =
    let at = here st lib v in ⊎_elim (λ before. inl before) (λ is. inr (i, at, is)) (within st lib m v at c was)
