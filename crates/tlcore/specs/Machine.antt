-- The machine of TL2 as plain data: which event is lawful where, and what follows.
--
-- One event is one load, store, compare-exchange or fetch-and-add of one word, by one seat. The words are the global version
-- clock and for each cell a versioned lock word and a value word (TL2, section 2). All words open at 0 but the value words.
use Rattle.std.specs.Prelude.{ℕ, suc, ◌*◌, Bool, true, false, not, ◌&&◌, ◌||◌, if◌then◌else◌, ◌==◌, Option, Some, None, List, [], ◌∷◌, ◌++◌}
use Rattle.std.specs.Prelude.{slice_get, slice_set}
use Rattle.tlcore.specs.History.{Open, Void, Done, WordsEntry, wv, settle}
use Rattle.tlcore.specs.Seats.{Held, Phase, Idle, Reading, Looked, Loaded, Taking, Checking, Storing, Failing, Voiding, Seat, passes}
use Rattle.tlcore.specs.Seats.{find_read, reads_of, find_held, is_nil, all_below, without, with_stored, writes_of, all_settled, is_due, is_next}
pub use Rattle.tlcore.specs.declared.cells.Cell.{Cell}
pub use Rattle.tlcore.specs.declared.actions.Action.{Action}
pub use Rattle.tlcore.specs.declared.actions.Action.TheVariants.{Begin, Look, Load, Relook, Take, Draw, Check, Store, Release}

-- the words, the seats and the history
pub record World : Type 0 where
  pub clock : ℕ
  pub cells : List Cell
  pub seats : List Seat
  pub history : List WordsEntry

-- the seat s is t now
abbrev pub with_seat : World → ℕ → Seat → World
with_seat w s t = record w { seats = slice_set w.seats s t }

-- the seat goes on to the phase p
abbrev pub in_phase : Seat → Phase → Seat
in_phase t p = record t { phase = p }

-- the seat met a conflict, and goes on to the phase p
abbrev pub conflict : Seat → Phase → Seat
conflict t p = record t { phase = p; conflicted = true }

-- a look at the cell c, a check or a take of it has found this lock word
abbrev pub saw : Seat → ℕ → ℕ → Seat
saw t c word = record t { looked = Some (c, word) }

-- ---- what follows each kind of event: t is the seat s of the world w, x the cell c

-- Begin (section 2.2, step 1): the clock is sampled as rv
abbrev pub begun : World → Seat → Seat
begun w t =
    record {
      phase = Reading;
      rv = w.clock;
      reads = [];
      held = [];
      conflicted = false;
      clocks = w.clock ∷ t.clocks;
      locked = t.locked;
      looked = None;
    }

-- Look (step 2): the lock word is to be free and of version at most rv
abbrev pub look : World → ℕ → Seat → ℕ → Cell → World
look w s t c x =
    with_seat w s (if passes x.lock t.rv then in_phase (saw t c x.lock) (Looked c x.lock) else conflict (saw t c x.lock) Idle)

-- Load (step 2): the value word
abbrev pub load : World → ℕ → Seat → ℕ → ℕ → Cell → World
load w s t c word x = with_seat w s (in_phase t (Loaded c word x.value))

-- Relook (step 2, post-validation): the lock word is to be unchanged
abbrev pub relook : World → ℕ → Seat → ℕ → ℕ → ℕ → Cell → World
relook w s t c word value x =
    with_seat w s
    (if x.lock == word
    then record (saw t c x.lock) { phase = Reading; reads = record { cell = c; word = word; value = value } ∷ t.reads }
    else conflict (saw t c x.lock) Idle)

-- the cell is locked and held
abbrev pub taken : World → ℕ → Seat → ℕ → ℕ → ℕ → Cell → World
taken w s t c value word x =
    record w {
      cells = slice_set w.cells c (record x { lock = suc word });
      seats =
          slice_set w.seats s (record (saw t c x.lock) {
            phase = Taking;
            held =
                record { cell = c; word = word; value = value; stored = false } ∷ t.held;
            locked = c ∷ t.locked;
          });
    }

-- Take (step 3): one try to lock the cell, from the word that its read has seen; the value is kept aside
abbrev pub take_cell : World → ℕ → Seat → ℕ → ℕ → ℕ → Cell → World
take_cell w s t c value word x =
    if x.lock == word
    then taken w s t c value word x
    else with_seat w s (conflict (saw t c x.lock) (if is_nil t.held then Idle else Failing))

-- Draw (step 4): the clock is advanced, and its new value is the number of the run's entry
abbrev pub drawn : World → ℕ → Seat → World
drawn w s t =
    record w {
      clock = suc w.clock;
      seats = slice_set w.seats s (in_phase t (Checking w.clock 0));
      history = w.history ++ record { status = Open; reads = reads_of t.reads; writes = writes_of t.held } ∷ [];
    }

-- Check (step 5): the lock word of a cell that was read is to be free and of version at most rv still
abbrev pub check : World → ℕ → Seat → ℕ → ℕ → Cell → World
check w s t i c x =
    with_seat w s (if passes x.lock t.rv then in_phase (saw t c x.lock) (Checking i (suc c)) else conflict (saw t c x.lock) (Voiding i))

-- Store (step 6): the value word; the first store makes the entry Done
abbrev pub store : World → ℕ → Seat → ℕ → ℕ → Held → Cell → World
store w s t i c k x =
    record w {
      cells = slice_set w.cells c (record x { value = k.value });
      seats = slice_set w.seats s (record t { phase = Storing i; held = with_stored c t.held });
      history = settle w.history i Done;
    }

-- Release (step 6): the lock word is set, and the run is over where it holds nothing more
abbrev pub release : World → ℕ → Seat → ℕ → ℕ → Cell → List WordsEntry → World
release w s t c word x history =
    record w {
      cells = slice_set w.cells c (record x { lock = word });
      seats = slice_set w.seats s (record t { phase = (if is_nil (without c t.held) then Idle else t.phase); held = without c t.held });
      history = history;
    }

-- ---- which event is lawful where

-- nothing follows where x isn't there
abbrev pub given : {A B : Type 0} → Option A → (A → Option B) → Option B
given None f = None
given (Some x) f = f x

-- nothing follows where the test fails
abbrev pub only_if : {B : Type 0} → Bool → Option B → Option B
only_if true x = x
only_if false x = None

-- the table of steps: the action at the phase where the seat stands. An action that has no row there isn't lawful
abbrev pub act : World → ℕ → Seat → Phase → Action → Option World
act w s t Idle Begin = Some (with_seat w s (begun w t))
act w s t Reading Begin = Some (with_seat w s (begun w t))
act w s t Reading (Look c) = given (slice_get w.cells c) (λ x. Some (look w s t c x))
act w s t (Looked d word) (Load c) = only_if (d == c) (given (slice_get w.cells c) (λ x. Some (load w s t c word x)))
act w s t (Loaded d word value) (Relook c) =
    only_if (d == c) (given (slice_get w.cells c) (λ x. Some (relook w s t c word value x)))
act w s t Reading (Take c value) =
    given (find_read c t.reads) (λ r. given (slice_get w.cells c) (λ x. Some (take_cell w s t c value r.word x)))
act w s t Taking (Take c value) =
    only_if (all_below c t.held)
    (given (find_read c t.reads) (λ r. given (slice_get w.cells c) (λ x. Some (take_cell w s t c value r.word x))))
act w s t Taking Draw = Some (drawn w s t)
act w s t (Checking i upto) (Check c) =
    only_if (not (is_next t i) && is_due t upto c)
    (given (find_read c t.reads) (λ r. given (slice_get w.cells c) (λ x. Some (check w s t i c x))))
act w s t (Checking i upto) (Store c) =
    only_if (is_next t i || all_settled t.held upto t.reads)
    (given (find_held c t.held) (λ k. given (slice_get w.cells c) (λ x. Some (store w s t i c k x))))
act w s t (Storing i) (Store c) =
    given (find_held c t.held) (λ k. given (slice_get w.cells c) (λ x. Some (store w s t i c k x)))
act w s t (Storing i) (Release c) =
    given (find_held c t.held)
    (λ k. only_if k.stored (given (slice_get w.cells c) (λ x. Some (release w s t c (2 * wv i) x w.history))))
act w s t Failing (Release c) =
    given (find_held c t.held) (λ k. given (slice_get w.cells c) (λ x. Some (release w s t c k.word x w.history)))
act w s t (Voiding i) (Release c) =
    given (find_held c t.held)
    (λ k. given (slice_get w.cells c) (λ x. Some (release w s t c k.word x (settle w.history i Void))))
act w s t _ _ = None

-- the world after the event of the seat s, or None where it isn't lawful
abbrev pub next : World → ℕ → Action → Option World
next w s a = given (slice_get w.seats s) (λ t. act w s t t.phase a)
