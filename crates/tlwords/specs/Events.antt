-- Each step that a run makes on the clock or on a word of a cell is one event of tlcore's machine, in a table that keeps the rule.
--
-- The premises of each kind are those of the step, and what the step tells. `found` is the word as the step found it. The kinds are those
-- of the machine's actions, with the steps of TL2 (Dice, Shalev, Shavit, DISC 2006, section 2.2, write transactions) in brackets: clock
-- load (step 1), look, load and second look (2), take (3), draw (4), check (5), store and release (6). A load of the spare word, by which a
-- pass sees the history so far, is no step of the machine; nor is a step on the tail or on a word of the store.
use Rattle.std.specs.Prelude.{◌≡◌, ℕ, ◌+◌, ◌%◌, ◌^◌, ◌<◌, ◌==◌, if◌then◌else◌, ◌⊎◌, true, false, Some, List, ◌++◌, length, map, slice_index, slice_set}
use mathlib.Core.Option.{some}
use lib.ListN.{get_elem?}
use Rattle.atomic_table.specs.Table.{State}
use Rattle.tlcore.specs.Seats.{find_read, find_held, all_below, is_due, is_next}
use Rattle.tlcore.specs.Machine.{World}
use Rattle.tlcore.specs.Laws.{Leads}
use Rattle.tlcore.specs.declared.actions.Action.{Action}
use Rattle.tlcore.specs.declared.actions.Action.TheVariants.{Begin, Look, Load, Relook, Take, Draw, Check, Store, Release}
use Rattle.tlcore.specs.declared.seats.Read.{Read}
use Rattle.tlcore.specs.declared.seats.Held.{Held}
use Rattle.tlcore.specs.declared.seats.Phase.TheVariants.{Idle, Reading, Looked, Loaded, Taking, Checking}
use Rattle.tlwords.specs.Terms.{Terms}
use Rattle.tlwords.specs.Views.{View}
use Rattle.tlwords.specs.Layout.{clock_at, lock_at, value_at, words_of, shelf_of}
use Rattle.tlwords.specs.Rule.{Start, Ruled}
use Rattle.tlwords.specs.Plays.{Mine, GivesBack, MayStore, Sampled, Looks, Loads, Relooks, Takes, Draws, Checks, Stores, Releases}

module _ {S N : Type 0} (terms : Terms S N) (setting : S) (base : List ℕ) (room : ℕ) (opened : Start) where
  -- a table that keeps the rule, by a world of the machine, and a seat with what it knows before a step and after it
  pub record Moment (m r : Mine S N) : Type 0 where
    pub state : State (Unit {0}) (View S N)
    pub rule : Ruled terms setting base room opened state
    pub seat : ℕ
    pub here : get_elem? state.views seat ≡ some m.0

  module _ (m r : Mine S N) (at : Moment m r) where
    -- what a step finds at the word i
    abbrev pub found : ℕ → ℕ
    found i = slice_index at.state.words i

    -- the step that leaves `left` at the word i is this action of the seat, from the rule's world, which shows the words and the seats
    -- before it, to a world that shows those after it. It is lawful there, keeps the invariant, and the history grows
    pub record IsEvent (action : Action) (i left : ℕ) : Type 0 where
      pub words_before : at.state.words ≡ words_of at.rule.kept.world ++ shelf_of at.rule.tail at.rule.store
      pub seats_before : map (λ v. v.seat) at.state.views ≡ at.rule.kept.world.seats
      pub after : World
      pub leads : Leads base at.rule.kept.world at.seat action after
      pub words_after : slice_set at.state.words i left ≡ words_of after ++ shelf_of at.rule.tail at.rule.store
      pub seats_after : map (λ v. v.seat) (slice_set at.state.views at.seat r.0) ≡ after.seats

  -- Begin (step 1): a load of the clock
  abbrev pub ClockLoadIsEvent : Type 0
  ClockLoadIsEvent =
      (m r : Mine S N) (at : Moment m r) → (m.0.seat.phase ≡ Idle) ⊎ (m.0.seat.phase ≡ Reading)
      → Sampled terms m (found m r at clock_at) r
      → IsEvent m r at Begin clock_at (found m r at clock_at)

  -- the cell c is one of the cells of a seat that is not given up
  abbrev pub HasCell : Mine S N → ℕ → Type 0
  HasCell m c = ((y : S) × (m.0.setting ≡ Some y)) × (c < length m.0.base)

  -- Look (step 2): a load of the cell's lock word
  abbrev pub LookIsEvent : Type 0
  LookIsEvent =
      (m r : Mine S N) (at : Moment m r) (c : ℕ) → HasCell m c → m.0.seat.phase ≡ Reading
      → Looks terms c m (found m r at (lock_at c)) r
      → IsEvent m r at (Look c) (lock_at c) (found m r at (lock_at c))

  -- Load (step 2): a load of the cell's value word
  abbrev pub LoadIsEvent : Type 0
  LoadIsEvent =
      (m r : Mine S N) (at : Moment m r) (c word : ℕ) → HasCell m c → m.0.seat.phase ≡ Looked c word
      → Loads terms m (found m r at (value_at c)) r
      → IsEvent m r at (Load c) (value_at c) (found m r at (value_at c))

  -- Relook (step 2): a load of the cell's lock word
  abbrev pub RelookIsEvent : Type 0
  RelookIsEvent =
      (m r : Mine S N) (at : Moment m r) (c word value : ℕ) → HasCell m c → m.0.seat.phase ≡ Loaded c word value
      → Relooks terms m (found m r at (lock_at c)) r
      → IsEvent m r at (Relook c) (lock_at c) (found m r at (lock_at c))

  -- Take (step 3): a compare-exchange of the cell's lock word from the word of its read to one more
  abbrev pub TakeIsEvent : Type 0
  TakeIsEvent =
      (m r : Mine S N) (at : Moment m r) (c value : ℕ) (d : Read) → HasCell m c
      → (m.0.seat.phase ≡ Reading) ⊎ ((m.0.seat.phase ≡ Taking) × (all_below c m.0.seat.held ≡ true))
      → find_read c m.0.seat.reads ≡ Some d → Takes terms c value d.word m (found m r at (lock_at c)) r
      → IsEvent m r at (Take c value) (lock_at c)
      (if found m r at (lock_at c) == d.word then d.word + 1 else found m r at (lock_at c))

  -- Draw (step 4): a fetch-and-add of 1 to the clock, as a word of 64 bits
  abbrev pub DrawIsEvent : Type 0
  DrawIsEvent =
      (m r : Mine S N) (at : Moment m r) (note : N) → m.0.seat.phase ≡ Taking → Draws terms (Some note) m (found m r at clock_at) r
      → IsEvent m r at Draw clock_at ((found m r at clock_at + 1) % 2 ^ 64)

  -- Check (step 5): a load of the cell's lock word
  abbrev pub CheckIsEvent : Type 0
  CheckIsEvent =
      (m r : Mine S N) (at : Moment m r) (i upto c : ℕ) (d : Read) → HasCell m c → m.0.seat.phase ≡ Checking i upto
      → is_next m.0.seat i ≡ false → is_due m.0.seat upto c ≡ true → find_read c m.0.seat.reads ≡ Some d
      → Checks terms c m (found m r at (lock_at c)) r
      → IsEvent m r at (Check c) (lock_at c) (found m r at (lock_at c))

  -- Store (step 6): a store of the cell's value word
  abbrev pub StoreIsEvent : Type 0
  StoreIsEvent =
      (m r : Mine S N) (at : Moment m r) (i c : ℕ) (k : Held) → HasCell m c → MayStore m.0.seat i
      → find_held c m.0.seat.held ≡ Some k → Stores terms c m r
      → IsEvent m r at (Store c) (value_at c) k.value

  -- Release (step 6): a store of the cell's lock word
  abbrev pub ReleaseIsEvent : Type 0
  ReleaseIsEvent =
      (m r : Mine S N) (at : Moment m r) (c word : ℕ) (k : Held) → HasCell m c → find_held c m.0.seat.held ≡ Some k
      → GivesBack m.0.seat k word → Releases terms c m r
      → IsEvent m r at (Release c) (lock_at c) word
