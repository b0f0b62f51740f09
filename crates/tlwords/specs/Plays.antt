-- What each step tells: of the seat before, the number found (at a store, the number stored) and the seat after.
use Rattle.std.specs.Prelude.{◌≡◌, ◌≢◌, ℕ, suc, ◌+◌, ◌-◌, ◌*◌, ◌/◌, ◌%◌, ◌^◌, ◌<◌, ◌≤◌, Option, Some, None, List, [], ◌∷◌, ◌++◌, length, slice_get, if◌then◌else◌, true, false, ◌==◌, ◌||◌, ◌⊎◌, min}
use Rattle.atomic_table.specs.Table.{Me, Step}
use Rattle.atomic_table.specs.declared.shared.Seat.{Seat as TableSeat}
use Rattle.tlcore.specs.History.{WordsEntry, IsVersionOf, wv}
use Rattle.tlcore.specs.Seats.{Seat, passes, reads_of, writes_of, is_nil, is_next, all_settled, without, with_stored}
use Rattle.tlcore.specs.Machine.{in_phase, conflict, saw}
use Rattle.tlcore.specs.declared.entries.Status.TheVariants.{Void}
use Rattle.tlcore.specs.declared.seats.Held.{Held}
use Rattle.tlcore.specs.declared.seats.Phase.TheVariants.{Idle, Reading, Looked, Loaded, Taking, Checking, Storing, Failing, Voiding}
use Rattle.ranges.specs.Ranges.{Range, Has, Names}
use Rattle.tlwords.specs.Terms.{Terms}
use Rattle.tlwords.specs.Seen.{Work, Committed, Answered, SeenGrows, IsDone}
use Rattle.tlwords.specs.Layout.{lock_at, store_at}
use Rattle.tlwords.specs.Views.{Staging, View, untold, tells, gone_of, nobody, fresh, Sound}

abbrev pub Mine : Type 0 → Type 0 → Type 0
Mine S N = Me (Unit {0}) (View S N)

-- the work of the run, with this note
abbrev pub work_of : {N : Type 0} → Seat → N → Work N
work_of t n = record { reads = reads_of t.reads; writes = writes_of t.held; note = n }

-- a run that has just begun at this place
abbrev pub began : Seat → ℕ → Seat
began t place =
    record {
      phase = Reading;
      rv = place;
      reads = [];
      held = [];
      conflicted = false;
      clocks = place ∷ t.clocks;
      locked = t.locked;
      looked = None;
    }

-- after a look at the cell that found this word
abbrev pub after_look : Seat → ℕ → ℕ → Seat
after_look t c word = if passes word t.rv then in_phase (saw t c word) (Looked c word) else conflict (saw t c word) Idle

-- after the second look, where the first found `word` and `value` was loaded, and this one found n
abbrev pub after_relook : Seat → ℕ → ℕ → ℕ → ℕ → Seat
after_relook t c word value n =
    if n == word
    then record (saw t c n) { phase = Reading; reads = record { cell = c; word = word; value = value } ∷ t.reads }
    else conflict (saw t c n) Idle

-- after a try to take the cell from the word `word`, which found n
abbrev pub after_take : Seat → ℕ → ℕ → ℕ → ℕ → Seat
after_take t c value word n =
    if n == word
    then record (saw t c n) {
      phase = Taking;
      held = record { cell = c; word = word; value = value; stored = false } ∷ t.held;
      locked = c ∷ t.locked;
    }
    else conflict (saw t c n) (if is_nil t.held then Idle else Failing)

-- after a check of the cell that found this word
abbrev pub after_check : Seat → ℕ → ℕ → ℕ → Seat
after_check t i c word =
    if passes word t.rv then in_phase (saw t c word) (Checking i (suc c)) else conflict (saw t c word) (Voiding i)

-- after the store of the cell's value
abbrev pub after_store : Seat → ℕ → ℕ → Seat
after_store t i c = record t { phase = Storing i; held = with_stored c t.held }

-- after the release of the cell
abbrev pub after_release : Seat → ℕ → Seat
after_release t c = record t { phase = (if is_nil (without c t.held) then Idle else t.phase); held = without c t.held }

-- what a release gives back: after a store twice the run's number, and after a conflict the word that the take found
abbrev pub GivesBack : Seat → Held → ℕ → Type 0
GivesBack t k word =
    ((i : ℕ) × (t.phase ≡ Storing i) × (k.stored ≡ true) × (word ≡ 2 * wv i))
    ⊎ (((t.phase ≡ Failing) × (word ≡ k.word)) ⊎ ((i : ℕ) × (t.phase ≡ Voiding i) × (word ≡ k.word)))

-- when a store is lawful: the check has passed, or isn't needed
abbrev pub MayStore : Seat → ℕ → Type 0
MayStore t i =
    ((upto : ℕ) × (t.phase ≡ Checking i upto) × ((is_next t i || all_settled t.held upto t.reads) ≡ true)) ⊎ (t.phase ≡ Storing i)

module _ {S N : Type 0} (terms : Terms S N) where
  -- the whole history so far was seen
  pub record Sees (v w : View S N) : Type 0 where
    pub own : SeenGrows v.seen w.seen
    pub told : SeenGrows v.told.seen w.seen
    pub sound : Sound terms w

  -- Begin
  pub record Sampled (m : Mine S N) (n : ℕ) (r : Mine S N) : Type 0 where
    pub sees : Sees m.0 r.0
    pub clock : length r.0.seen.history ≡ n
    -- the numbers of passes with two names are different
    pub apart : m.0.name ≢ m.0.told.name → (k : ℕ) → Has k m.0.drawn → Has k m.0.told.drawn → ⊥
    pub same : (x y : S) → m.0.setting ≡ Some x → m.0.told.setting ≡ Some y → (x ≡ y) × (m.0.base ≡ m.0.told.base)
    pub is : r.0 ≡ record m.0 { seen = r.0.seen; seat = began m.0.seat n; told = untold }

  -- Look
  pub record Looks (c : ℕ) (m : Mine S N) (n : ℕ) (r : Mine S N) : Type 0 where
    pub sees : Sees m.0 r.0
    pub written : IsVersionOf r.0.seen.history c (n / 2)
    pub is : r.0 ≡ record m.0 { seen = r.0.seen; seat = after_look m.0.seat c n }

  -- Load: in a range cell it finds 0 or a word that names a finished range
  pub record Loads (m : Mine S N) (n : ℕ) (r : Mine S N) : Type 0 where
    pub sees : Sees m.0 r.0
    pub named : (x : S) (c word : ℕ) → m.0.setting ≡ Some x → m.0.seat.phase ≡ Looked c word → terms.ranged x c ≡ true
        → Names r.0.seen.ranges n
    pub is : (c word : ℕ) → m.0.seat.phase ≡ Looked c word
        → r.0 ≡ record m.0 { seen = r.0.seen; seat = in_phase m.0.seat (Loaded c word n) }

  -- Relook
  pub record Relooks (m : Mine S N) (n : ℕ) (r : Mine S N) : Type 0 where
    pub sees : Sees m.0 r.0
    pub written : (c word value : ℕ) → m.0.seat.phase ≡ Loaded c word value → IsVersionOf r.0.seen.history c (n / 2)
    -- another word than that of the first look is locked, or of a version above the place
    pub missed : (c word value : ℕ) → m.0.seat.phase ≡ Loaded c word value → n ≢ word → n % 2 ≡ 0 → m.0.seat.rv < n / 2
    pub is : (c word value : ℕ) → m.0.seat.phase ≡ Loaded c word value
        → r.0 ≡ record m.0 { seen = r.0.seen; seat = after_relook m.0.seat c word value n }

  -- Take, from the word `word`
  pub record Takes (c value word : ℕ) (m : Mine S N) (n : ℕ) (r : Mine S N) : Type 0 where
    pub sees : Sees m.0 r.0
    pub written : IsVersionOf r.0.seen.history c (n / 2)
    pub is : r.0 ≡ record m.0 { seen = r.0.seen; seat = after_take m.0.seat c value word n }

  -- Draw: the number is n + 1
  pub record Draws (note : Option N) (m : Mine S N) (n : ℕ) (r : Mine S N) : Type 0 where
    pub sees : Sees m.0 r.0
    pub clock : length r.0.seen.history ≡ suc n
    pub later : length m.0.seen.history ≤ n
    pub few : n ≤ 2 ^ 46
    pub is : (x : N) → note ≡ Some x
        → r.0 ≡ record m.0 { seen = r.0.seen; seat = in_phase m.0.seat (Checking n 0); note = Some x; drawn = m.0.drawn ++ suc n ∷ [] }

  -- Check
  pub record Checks (c : ℕ) (m : Mine S N) (n : ℕ) (r : Mine S N) : Type 0 where
    pub sees : Sees m.0 r.0
    pub written : IsVersionOf r.0.seen.history c (n / 2)
    pub is : (i upto : ℕ) → m.0.seat.phase ≡ Checking i upto
        → r.0 ≡ record m.0 { seen = r.0.seen; seat = after_check m.0.seat i c n }

  -- Store: the first one makes the entry Done, and the call is one of the pass
  pub record Stores (c : ℕ) (m r : Mine S N) : Type 0 where
    pub sees : Sees m.0 r.0
    pub first : (i upto : ℕ) (x : N) → m.0.seat.phase ≡ Checking i upto → m.0.note ≡ Some x
        → IsDone r.0.seen i (work_of m.0.seat x)
        × (r.0 ≡ record m.0 {
          seen = r.0.seen;
          seat = after_store m.0.seat i c;
          mine =
              m.0.mine ++ Committed (suc i) (work_of m.0.seat x) ∷ [];
        })
    pub next : (i : ℕ) → m.0.seat.phase ≡ Storing i → r.0 ≡ record m.0 { seen = r.0.seen; seat = after_store m.0.seat i c }

  -- Release: after a failed check the entry is Void
  pub record Releases (c : ℕ) (m r : Mine S N) : Type 0 where
    pub sees : Sees m.0 r.0
    pub void : (i : ℕ) → m.0.seat.phase ≡ Voiding i → (e : WordsEntry) × (slice_get r.0.seen.history i ≡ Some e) × (e.status ≡ Void)
    pub is : r.0 ≡ record m.0 { seen = r.0.seen; seat = after_release m.0.seat c }

  -- a load of the spare word, where a run that wrote nothing ends
  pub record Recalls (note : Option N) (m r : Mine S N) : Type 0 where
    pub sees : Sees m.0 r.0
    pub is : (x : N) → note ≡ Some x
        → let w : Work N = record { reads = reads_of m.0.seat.reads; writes = []; note = x } in
        r.0 ≡ record m.0 { seen = r.0.seen; mine = m.0.mine ++ Answered m.0.seat.rv w ∷ [] }

  -- a load of the spare word, to see the history so far
  pub record Refreshes (m r : Mine S N) : Type 0 where
    pub sees : Sees m.0 r.0
    pub is : r.0 ≡ record m.0 { seen = r.0.seen }

  -- ---- steps on the store

  -- the tail found was n: the words from there on are taken for these words where the room has so many. What was added to the tail is
  -- counted
  pub record Advances (words : List ℕ) (m : Mine S N) (n : ℕ) (r : Mine S N) : Type 0 where
    pub sees : Sees m.0 r.0
    pub taken : n + length words ≤ m.0.room
        → r.0 ≡ record m.0 {
          seen = r.0.seen;
          staging = Some (record { start = n; words = words; done = 0 });
          taken =
              m.0.taken + length words;
        }
    pub refused : m.0.room < n + length words
        → r.0 ≡ record m.0 { seen = r.0.seen; full = Some (n, length words); added = min (length words) (m.0.room + 1) }

  -- the next word of the range is stored. With its last word the range is finished
  pub record Fills (m r : Mine S N) : Type 0 where
    pub sees : Sees m.0 r.0
    pub next : (s : Staging) → m.0.staging ≡ Some s → s.done + 1 < length s.words
        → r.0 ≡ record m.0 { seen = r.0.seen; staging = Some (record s { done = s.done + 1 }) }
    pub last : (s : Staging) → m.0.staging ≡ Some s → s.done + 1 ≡ length s.words
        → Has (record { start = s.start; words = s.words }) r.0.seen.ranges × (r.0 ≡ record m.0 { seen = r.0.seen; staging = None })

  -- the word of the store with this index was loaded: it is that of each finished range that has one there
  pub record Fetches (o : ℕ) (m : Mine S N) (n : ℕ) (r : Mine S N) : Type 0 where
    pub sees : Sees m.0 r.0
    pub found : (range : Range) (i w : ℕ) → Has range m.0.seen.ranges → slice_get range.words i ≡ Some w → range.start + i ≡ o → n ≡ w
    pub is : r.0 ≡ record m.0 { seen = r.0.seen }

  -- the steps as the table has them: the cell of a word, from its index

  abbrev pub cell_at : Step (Unit {0}) → ℕ
  cell_at st = (st.word - lock_at 0) / 2

  abbrev pub sampled : Step (Unit {0}) → Mine S N → ℕ → Mine S N → Type 0
  sampled st m n r = Sampled m n r

  abbrev pub looked : Step (Unit {0}) → Mine S N → ℕ → Mine S N → Type 0
  looked st m n r = Looks (cell_at st) m n r

  abbrev pub loaded : Step (Unit {0}) → Mine S N → ℕ → Mine S N → Type 0
  loaded st m n r = Loads m n r

  abbrev pub relooked : Step (Unit {0}) → Mine S N → ℕ → Mine S N → Type 0
  relooked st m n r = Relooks m n r

  -- the value that is to be stored is no operand of the step
  abbrev pub took : ℕ → Step (Unit {0}) → Mine S N → ℕ → Mine S N → Type 0
  took value st m n r = Takes (cell_at st) value st.first m n r

  abbrev pub drew : Option N → Step (Unit {0}) → Mine S N → ℕ → Mine S N → Type 0
  drew note st m n r = Draws note m n r

  abbrev pub checked : Step (Unit {0}) → Mine S N → ℕ → Mine S N → Type 0
  checked st m n r = Checks (cell_at st) m n r

  abbrev pub stored : Step (Unit {0}) → Mine S N → ℕ → Mine S N → Type 0
  stored st m n r = Stores (cell_at st) m r

  abbrev pub released : Step (Unit {0}) → Mine S N → ℕ → Mine S N → Type 0
  released st m n r = Releases (cell_at st) m r

  abbrev pub recalled : Option N → Step (Unit {0}) → Mine S N → ℕ → Mine S N → Type 0
  recalled note st m n r = Recalls note m r

  abbrev pub refreshed : Step (Unit {0}) → Mine S N → ℕ → Mine S N → Type 0
  refreshed st m n r = Refreshes m r

  abbrev pub advanced : List ℕ → Step (Unit {0}) → Mine S N → ℕ → Mine S N → Type 0
  advanced words st m n r = Advances words m n r

  abbrev pub filled : Step (Unit {0}) → Mine S N → ℕ → Mine S N → Type 0
  filled st m n r = Fills m r

  abbrev pub fetched : Step (Unit {0}) → Mine S N → ℕ → Mine S N → Type 0
  fetched st m n r = Fetches (st.word - store_at (length m.0.base) 0) m n r

module _ {S N : Type 0} where
  abbrev pub IsSameSeat : TableSeat (Unit {0}) (View S N) → TableSeat (Unit {0}) (View S N) → Type 0
  IsSameSeat p q = (q.table_id ≡ p.table_id) × (q.id ≡ p.id) × (q.me.1 ≡ p.me.1)

  -- the seat takes and gives no slot, of which the table has none
  abbrev pub bare : (Step (Unit {0}) → Mine S N → ℕ → Mine S N → Type 0) → Step (Unit {0}) → Mine S N → ℕ → Mine S N → Type 0
  bare says st m n r = says st m n r × (r.1 ≡ m.1)

  -- what a seat is told of another one
  abbrev pub witness : View S N → View S N
  witness v = record nobody { told = tells v }

  abbrev pub told_by : View S N → View S N → View S N
  told_by v w = record v { told = w.told }

  -- the pass w is given up to v
  abbrev pub given_up : View S N → View S N → View S N
  given_up v w = record v { gone = gone_of w ∷ v.gone }

  -- a new seat, with one part of the right to draw. Its name is the number of parts that there were
  abbrev pub newcomer : View S N → View S N
  newcomer v = fresh v.setting v.base v.room v.seen.ranges v.rights 1
