-- What is so of a run's setting, since what it has read agrees with some state that shows a library that verifies.
use Rattle.std.proofs.Common.{◌≡◌, ℕ, ◌<◌, ◌≤◌, List, ap, arith}
use Rattle.std.proofs.Math.Bridge.{le_prop}
use Rattle.std.proofs.Math.Logic.{∥∥₁_elim}
use Rattle.library.specs.Library.{Setting}
use Rattle.library.specs.declared.library.Ranked.{Ranked}
use Rattle.cells.specs.State.{State}
use Rattle.cells.specs.Sight.{Sight, Suits, Looks}
use Rattle.cells.proofs.Sights.{setting_kept}

module _ {O : Type 0} (s : Sight O) (grounded : ∥ ((st : State) × (lib : List Ranked) × Suits s st lib) ∥₁) where
  -- a library has a slot, and at most 4096
  pub some_slots : 1 ≤ s.setting.slots
  some_slots = ∥∥₁_elim grounded le_prop (λ x. x.2.verifies.setting.some)

  pub few_slots : s.setting.slots ≤ 4096
  few_slots = ∥∥₁_elim grounded le_prop (λ x. x.2.verifies.setting.few)

  pub small_slot : (i : ℕ) → i < s.setting.slots → i < 4096
  small_slot i lt = let few = few_slots in omega arith

pub same_slots : {O : Type 0} → (s t : Sight O) → Looks s t → t.setting.slots ≡ s.setting.slots
same_slots s t looks = ap (λ (x : Setting). x.slots) (setting_kept looks.onward)
