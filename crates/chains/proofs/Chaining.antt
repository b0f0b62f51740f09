-- A slot that is taken out of its chain, and one that is put into one, by the calls that do so, for a library that was seen before.
use Rattle.std.proofs.Common.{◌≡◌, ℕ, ◌≤◌, List, ◌∷◌, length, sym, ap, subst, arith, nat_eq}
use Rattle.mmsyntax.specs.Assertions.{Distinct}
use Rattle.library.specs.declared.library.Ranked.{Ranked}
use Rattle.library.specs.Library.{Setting, label_of}
use Rattle.ranges.specs.Ranges.{Has}
use Rattle.cells.specs.State.{State}
use Rattle.cells.specs.Shows.{Held, slots_of, AreChained}
use Rattle.cells.specs.Sight.{Sight, Matches, Views, after}
use Rattle.cells.specs.Lookups.{IsFoundAt}
use Rattle.chains.specs.Chains.{Rechains, without_slot}
use Rattle.cells.proofs.Found.{length_held, found_held, found_label}

-- what the one call ensures
abbrev pub TakesOut : {O : Type 0} → Sight O → Sight O → ℕ → List ℕ → Type 0
TakesOut s t i label =
    (st : State) (held : List Held) (e : Ranked) → Matches t st → AreChained s.setting.slots (after s st) held
    → Distinct nat_eq (slots_of held) → Has (record { slot = i; entry = e }) held → label_of e ≡ label → length held ≤ s.setting.slots
    → Rechains s.setting.slots (after s st) (after t st) held (without_slot i held)

-- and the other
abbrev pub PutsIn : {O : Type 0} → Sight O → Sight O → ℕ → List ℕ → Type 0
PutsIn s t i label =
    (st : State) (held : List Held) (e : Ranked) → Matches t st → AreChained s.setting.slots (after s st) held → label_of e ≡ label
    → (Has i (slots_of held) → ⊥)
    → Rechains s.setting.slots (after s st) (after t st) held (record { slot = i; entry = e } ∷ held)

-- the slot of an assertion that was found is taken out, where the chains are still as they were seen
pub taken_out : {O : Type 0} → (old s t : Sight O) (i : ℕ) (label : List ℕ) (st : State) (lib : List Ranked) → s.setting ≡ old.setting
    → TakesOut s t i label
    → Matches t st → (v : Views old st lib) → IsFoundAt old.setting.slots (after old st) lib label i
    → AreChained old.setting.slots (after s st) v.shows.held
    → Rechains old.setting.slots (after s st) (after t st) v.shows.held (without_slot i v.shows.held)
taken_out old s t i label st lib setting takes m v at chained =
    let slots = old.setting.slots in
    let held = v.shows.held in
    let apart = v.verifies.library.distinct in
    let as_many = length_held slots (after old st) lib v.shows in
    let room = v.verifies.library.room in
    let slots_are : s.setting.slots ≡ old.setting.slots = ap (λ (x : Setting). x.slots) setting in
    subst (λ (n : ℕ). Rechains n (after s st) (after t st) held (without_slot i held)) slots_are
    (takes st held at.entry m (subst (λ (n : ℕ). AreChained n (after s st) held) (sym slots_are) chained) v.shows.apart
    (found_held slots (after old st) lib v.shows v.matches.store apart label i at)
    (found_label slots (after old st) lib v.shows v.matches.store apart label i at)
    (omega (arith, as_many, room, slots_are)))

-- a slot that is in no chain is put in
pub put_in_chain : {O : Type 0} → (old s t : Sight O) (i : ℕ) (label : List ℕ) (st : State) (held : List Held) (e : Ranked)
    → s.setting ≡ old.setting
    → PutsIn s t i label → Matches t st → label_of e ≡ label → (Has i (slots_of held) → ⊥) → AreChained old.setting.slots (after s st) held
    → Rechains old.setting.slots (after s st) (after t st) held (record { slot = i; entry = e } ∷ held)
put_in_chain old s t i label st held e setting puts m own free chained =
    let slots_are : s.setting.slots ≡ old.setting.slots = ap (λ (x : Setting). x.slots) setting in
    subst (λ (n : ℕ). Rechains n (after s st) (after t st) held (record { slot = i; entry = e } ∷ held)) slots_are
    (puts st held e m (subst (λ (n : ℕ). AreChained n (after s st) held) (sym slots_are) chained) own free)
