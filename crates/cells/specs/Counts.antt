-- What becomes of a state where the citers of the slots that steps cite are counted.
pub use Rattle.bodystore.specs.Citing.{AreCitedSlots}
use Rattle.std.specs.Prelude.{◌≡◌, ◌≢◌, ◌<◌, ℕ, ◌+◌, ◌-◌, ◌^◌, List, All, nat_eq}
use Rattle.mmsyntax.specs.Assertions.{Distinct}
use Rattle.ranges.specs.Ranges.{Has}
use Rattle.cells.specs.State.{State}
use Rattle.cells.specs.Slots.{citers_cell}
use Rattle.cells.specs.Sight.{Sight, Turns}

-- those of the listed slots that the others haven't, each once
pub record AreOnlyIn (listed others only : List ℕ) : Type 0 where
  pub apart : Distinct nat_eq only
  pub from : (i : ℕ) → Has i only → Has i listed × (Has i others → ⊥)
  pub all : (i : ℕ) → Has i listed → (Has i others → ⊥) → Has i only

-- each of these slots has one citer more, and nothing else changes
pub record CountsIn (listed : List ℕ) (st next : State) : Type 0 where
  pub counted : (i : ℕ) → Has i listed → next.value (citers_cell i) ≡ st.value (citers_cell i) + 1
  pub others : (c : ℕ) → ((i : ℕ) → Has i listed → c ≢ citers_cell i) → next.value c ≡ st.value c

-- so in each state that may be under the run, where no slot is listed twice, and none has 2^32 citers or more
abbrev pub CountsAnyIn : {O : Type 0} → List ℕ → Sight O → Sight O → Type 0
CountsAnyIn listed old new =
    Turns old new (λ st next.
    ((i : ℕ) → Has i listed → st.value (citers_cell i) < 2 ^ 32) → Distinct nat_eq listed → CountsIn listed st next)

-- each of these slots has one citer less, and nothing else changes
pub record CountsOut (listed : List ℕ) (st next : State) : Type 0 where
  pub counted : (i : ℕ) → Has i listed → next.value (citers_cell i) ≡ st.value (citers_cell i) - 1
  pub others : (c : ℕ) → ((i : ℕ) → Has i listed → c ≢ citers_cell i) → next.value c ≡ st.value c

-- so in each state that may be under the run, where all that is listed is a slot, and none is listed twice
abbrev pub CountsAnyOut : {O : Type 0} → List ℕ → Sight O → Sight O → Type 0
CountsAnyOut listed old new =
    Turns old new (λ st next. All (λ i. i < old.setting.slots) listed → Distinct nat_eq listed → CountsOut listed st next)
