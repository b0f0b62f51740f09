-- What becomes of the chains where a slot is put into one, or taken out.
use Rattle.std.specs.Prelude.{◌≡◌, ◌<◌, ◌≤◌, ◌*◌, ◌+◌, ℕ, List, ◌∷◌, ◌==◌, filter, nat_eq, length}
use mathlib.Core.Bool.{not}
use Rattle.mmsyntax.specs.Assertions.{Distinct}
use Rattle.library.specs.Library.{label_of}
use Rattle.library.specs.declared.library.Ranked.{Ranked}
use Rattle.ranges.specs.Ranges.{Has}
use Rattle.cells.specs.State.{State}
use Rattle.cells.specs.Slots.{bucket_cell, next_cell, bucket}
use Rattle.cells.specs.Shows.{Held, slots_of, AreChained}
use Rattle.cells.specs.Aside.{KeepsAside, IsOfLeaving}
use Rattle.cells.specs.Sight.{Sight, Matches, Turns, after}

-- without the one in the slot
abbrev pub without_slot : ℕ → List Held → List Held
without_slot i held = filter (λ p. not (p.slot == i)) held

-- the chains of these become the chains of those, and nothing else changes: no cell of a slot, and no next cell of a slot that is in
-- neither. The next cell of a slot that was taken out is 0
pub record Rechains (slots : ℕ) (st next : State) (held then : List Held) : Type 0 where
  pub chained : AreChained slots next then
  pub cells : (c : ℕ) → c < 5 * slots → next.value c ≡ st.value c
  pub others : (i : ℕ) → i < slots → (Has i (slots_of held) → ⊥) → (Has i (slots_of then) → ⊥)
      → next.value (next_cell slots i) ≡ st.value (next_cell slots i)
  pub out : (i : ℕ) → Has i (slots_of held) → (Has i (slots_of then) → ⊥) → next.value (next_cell slots i) ≡ 0

-- the slot is the first of the bucket's chain, and behind it comes what was the first
pub record GoesFirst (slots : ℕ) (st next : State) (i b : ℕ) : Type 0 where
  pub first : next.value (bucket_cell slots b) ≡ i + 1
  pub behind : next.value (next_cell slots i) ≡ st.value (bucket_cell slots b)

-- so in each state that may be under the run, in the chain of the label's bucket
abbrev pub GoesToFront : {O : Type 0} → ℕ → List ℕ → Sight O → Sight O → Type 0
GoesToFront slot label old new =
    let slots = old.setting.slots in Turns old new (λ st next. GoesFirst slots st next slot (bucket slots label))

-- in each state that may be under the run, whatever is chained there: a slot that is not among it comes to it, with an assertion that has
-- the label
abbrev pub PutsIn : {O : Type 0} → ℕ → List ℕ → Sight O → Sight O → Type 0
PutsIn slot label old new =
    (st : State) (held : List Held) (e : Ranked) → Matches new st → AreChained old.setting.slots (after old st) held → label_of e ≡ label
    → (Has slot (slots_of held) → ⊥)
    → Rechains old.setting.slots (after old st) (after new st) held (record { slot = slot; entry = e } ∷ held)

-- in each state that may be under the run, whatever is chained there, each in a slot of its own: the slot goes out of it, where it is there
-- with an assertion that has the label
abbrev pub TakesOut : {O : Type 0} → ℕ → List ℕ → Sight O → Sight O → Type 0
TakesOut slot label old new =
    (st : State) (held : List Held) (e : Ranked) → Matches new st → AreChained old.setting.slots (after old st) held
    → Distinct nat_eq (slots_of held) → Has (record { slot = slot; entry = e }) held → label_of e ≡ label → length held ≤ old.setting.slots
    → Rechains old.setting.slots (after old st) (after new st) held (without_slot slot held)

-- for no cells but those where the slot leaves its chain values are kept aside, in each state that may be under the run
abbrev pub KeepsLeaving : {O : Type 0} → ℕ → Sight O → Sight O → Type 0
KeepsLeaving i old new = Turns old new (λ st next. KeepsAside (IsOfLeaving old.setting.slots st i) old new)
