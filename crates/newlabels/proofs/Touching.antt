-- For which cells `add` and `rename` keep values aside, from what their parts keep aside.
use Rattle.std.proofs.Common.{◌≡◌, ◌≢◌, ◌<◌, ◌⊎◌, ℕ, List, sym, ap, subst, ◌∙◌, inl, inr, ⊎_elim, arith}
use Rattle.mmsyntax.specs.declared.statement.Assertion.{Assertion}
use Rattle.library.specs.declared.library.Ranked.{Ranked}
use Rattle.library.specs.declared.command.Command.TheVariants.{Add, Rename}
use Rattle.library.specs.Library.{Setting}
use Rattle.bodystore.specs.declared.stored.StoredStep.{StoredStep}
use Rattle.cells.specs.State.{State}
use Rattle.cells.specs.Slots.{name_cell, bucket}
use Rattle.cells.specs.Shows.{AreStoredAs}
use Rattle.cells.specs.Sight.{Sight, Views, Onward, after}
use Rattle.cells.specs.Aside.{KeepsAside, IsOfFront, IsOfLeaving}
use Rattle.chains.specs.Chains.{KeepsLeaving}
use Rattle.chains.specs.Filling.{IsOfFilling}
use Rattle.cells.specs.Lookups.{ForEach, IsFoundAt, IsFirstEmpty}
use Rattle.cells.proofs.Sights.{matches_back, setting_kept}
use Rattle.cells.proofs.Keeping.{keeps_trans, keeps_wider}
use Rattle.groundwork.specs.Touches.{IsFirstFree, Touches, KeepsTo}
use Rattle.groundwork.proofs.Touching.{cited_citers}
use Rattle.newlabels.specs.Changes.{RenamesWithin}

-- ---- another label

pub relabels_within : {O : Type 0} → (s0 s1 s2 s3 : Sight O) (i : ℕ) (to : List ℕ) → Onward s0 s1 → Onward s1 s2 → Onward s2 s3
    → i < s0.setting.slots → ((st : State) (c : ℕ) → c ≢ name_cell i → (after s1 st).value c ≡ (after s0 st).value c)
    → KeepsAside (λ c. c ≡ name_cell i) s0 s1 → KeepsLeaving i s1 s2
    → KeepsAside (IsOfFront s2.setting.slots i to) s2 s3 → RenamesWithin s0 s3 i to
relabels_within s0 s1 s2 s3 i to on1 on2 on3 within others named leaves comes st m =
    keeps_trans such s0 s2 s3
    (keeps_trans such s0 s1 s2 (keeps_wider (λ c. c ≡ name_cell i) such s0 s1 (λ c is. inl is) named)
    (keeps_wider (IsOfLeaving s1.setting.slots (after s1 st) i) such s1 s2 (λ c is. inr (inl (still c is)))
    (leaves st (matches_back s2 s3 st on3 m))))
    (keeps_wider (IsOfFront s2.setting.slots i to) such s2 s3
    (λ c is. inr (inr (subst (λ (x : Setting). IsOfFront x.slots i to c) (setting_kept on2 ∙ (setting_kept on1)) is))) comes)
  where
    such : ℕ → Type 0
    such c = (c ≡ name_cell i) ⊎ (IsOfLeaving s0.setting.slots (after s0 st) i c ⊎ IsOfFront s0.setting.slots i to c)

    still : (c : ℕ) → IsOfLeaving s1.setting.slots (after s1 st) i c → IsOfLeaving s0.setting.slots (after s0 st) i c
    still c is =
        let slots_are : s1.setting.slots ≡ s0.setting.slots = ap (λ (x : Setting). x.slots) (setting_kept on1) in
        ⊎_elim (λ leads. let low = leads.0 in
        inl (omega (arith, low, slots_are), sym (others st c (λ z. omega (arith, low, slots_are, within, z))) ∙ leads.1))
        (λ own. inr (omega (arith, own, slots_are))) is

pub rename_keeps : {O : Type 0} → (s new : Sight O) (i : ℕ) (from to : List ℕ)
    → ForEach s (λ st lib. IsFoundAt s.setting.slots st lib from i) → RenamesWithin s new i to → KeepsTo s new (Rename from to)
rename_keeps s new i from to here within st lib m v c was =
    ⊎_elim (λ before. inl before) (λ is. inr (i, here st lib v, is)) (within st m c was)

-- ---- an assertion more

-- what is filled is what the command touches
pub add_touches : {O : Type 0} → (s : Sight O) (from i rank : ℕ) (a : Assertion) (kept : List StoredStep)
    → from ≡ bucket s.setting.slots a.label
    → IsFirstEmpty s from i → ForEach s (λ st lib. AreStoredAs s.setting.slots st a.proof kept) → (st : State) (lib : List Ranked)
    → Views s st lib → (c : ℕ) → IsOfFilling s.setting.slots i a.label kept c → Touches s.setting.slots (after s st) lib (Add rank a) c
add_touches s from i rank a kept from_is first stored st lib v c is =
    let slots = s.setting.slots in
    let free : IsFirstFree s.setting.slots (after s st) from i =
    record { steps = first.steps; at = first.at; empty = first.empty st lib v; full = λ k lt. first.full k lt st lib v } in (
      i,
      subst (λ (n : ℕ). IsFirstFree s.setting.slots (after s st) n i) from_is free,
      ⊎_elim (λ own. inl own)
          (λ more. ⊎_elim (λ front. inr (inl front))
          (λ counted. inr (inr (cited_citers slots (after s st) lib v.shows v.matches.store (record { rank = rank; assertion = a }) kept c
          (stored st lib v) counted))) more) is,
    )

pub add_keeps : {O : Type 0} → (s new : Sight O) (from i rank : ℕ) (a : Assertion) (kept : List StoredStep)
    → from ≡ bucket s.setting.slots a.label
    → IsFirstEmpty s from i → ForEach s (λ st lib. AreStoredAs s.setting.slots st a.proof kept)
    → KeepsAside (IsOfFilling s.setting.slots i a.label kept) s new → KeepsTo s new (Add rank a)
add_keeps s new from i rank a kept from_is first stored within st lib m v c was =
    ⊎_elim (λ before. inl before) (λ is. inr (add_touches s from i rank a kept from_is first stored st lib v c is)) (within c was)
