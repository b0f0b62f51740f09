-- What the calls on passes and runs tell their callers.
use Rattle.std.specs.Prelude.{◌≡◌, ◌≢◌, ℕ, suc, ◌+◌, ◌/◌, ◌%◌, ◌^◌, ◌<◌, ◌≤◌, true, is_some, Option, Some, None, List, [], ◌∷◌, ◌++◌, length, ◌⊎◌, min}
use Rattle.atomic_table.specs.Seated.{TableId}
use Rattle.tlcore.specs.History.{IsVersionOf}
use Rattle.ranges.specs.Ranges.{Range, Has, Names}
use Rattle.tlwords.specs.declared.log.Slot.{Slot}
use Rattle.tlwords.specs.declared.mode.Mode.{Mode}
use Rattle.tlwords.specs.declared.mode.Mode.TheVariants.{Reading, Writing}
use Rattle.tlwords.specs.declared.outcome.Conflict.{Conflict as ConflictValue}
use Rattle.tlwords.specs.declared.outcome.Outcome.{Outcome}
use Rattle.tlwords.specs.declared.outcome.Outcome.TheVariants.{Committed as EndsDone, Read as EndsRead, Conflict as EndsConflict, NumbersUsed}
use Rattle.tlwords.specs.Terms.{Terms, Permits}
use Rattle.tlwords.specs.Seen.{Work, SeenGrows, IsDone, Agree, Committed, Answered, opening_seen}
use Rattle.tlwords.specs.Runs.{word_seen, IsBlank, HasNoted, HasCause}
use Rattle.tlwords.specs.Commits.{writes_kept, cells_of, cells_locked, IsVoid}
use Rattle.tlwords.specs.Known.{WordsHome, Known, Going, Knows, Stands, word_told}

-- a pass of an opening, which has seen these ranges and done nothing yet
abbrev pub new_pass : {S N : Type 0} → WordsHome S → List Range → ℕ → Known S N
new_pass home ranges name =
    record {
      home = home;
      seen = opening_seen ranges;
      mine = [];
      name = name;
      drawn = [];
      clocks = [];
      locked = [];
      looked = None;
      found = [];
      full = None;
      taken = 0;
      added = 0;
    }

-- a pass of this opening
abbrev pub IsDealt : {S N : Type 0} → S → List ℕ → ℕ → List Range → TableId → Known S N → Type 0
IsDealt setting base room ranges table k =
    k ≡ new_pass (record { table = table; setting = Some setting; base = base; room = room }) ranges k.name

-- what a run has done, with this note
abbrev pub work_done : {S N : Type 0} → Going S N → N → Work N
work_done g n = record { reads = g.reads; writes = writes_kept g.slots; note = n }

-- a read of the cell under this word was noted: the slots before and after. In Reading mode they stay as they are
abbrev pub Notes : Mode → List Slot → List Slot → ℕ → ℕ → Type 0
Notes Reading slots after cell word = after ≡ slots
Notes Writing slots after cell word = HasNoted slots after cell word

module _ {S N : Type 0} (terms : Terms S N) where
  -- the run's work with this note is lawful
  abbrev pub IsLawful : Going S N → N → Type 0
  IsLawful g n = (x : S) → g.known.home.setting ≡ Some x → Permits terms x g.known.seen.ranges g.reads (writes_kept g.slots) n

  -- ---- a run

  -- a run of this pass has begun: it sees all that was drawn before it
  pub record Begins (mode : Mode) (k : Known S N) (g : Going S N) : Type 0 where
    pub grows : SeenGrows k.seen g.known.seen
    pub stands : Stands terms g
    pub clock : length g.known.seen.history ≡ g.place
    pub blank : IsBlank g.slots
    pub size : length g.slots ≡ length k.home.base
    pub is : g ≡ record {
      known = record k { seen = g.known.seen; clocks = g.place ∷ k.clocks; looked = None; found = [] };
      place = g.place;
      mode = mode;
      over = None;
      reads = [];
      slots = g.slots;
    }

  -- a read of the cell ended with this value
  pub record HasRead (cell value : ℕ) (g r : Going S N) : Type 0 where
    pub grows : SeenGrows g.known.seen r.known.seen
    pub stands : Stands terms r
    pub word : ℕ
    pub free : word % 2 ≡ 0
    pub below : word / 2 ≤ g.place
    pub named : (x : S) → g.known.home.setting ≡ Some x → terms.ranged x cell ≡ true → Names r.known.seen.ranges value
    pub notes : Notes g.mode g.slots r.slots cell word
    pub is : r ≡ record g {
      known = record g.known { seen = r.known.seen; looked = Some (cell, word); found = (cell, word) ∷ g.known.found };
      reads = (cell, value) ∷ g.reads;
      slots = r.slots;
    }

  -- a look or a take of the conflict's cell found its word; the word before is the one that the run's newest read of the cell found
  pub record Finds (mode : Mode) (slots : List Slot) (c : ConflictValue) (k : Known S N) : Type 0 where
    pub looked : k.looked ≡ Some (c.cell, c.word)
    pub written : IsVersionOf k.seen.history c.cell (c.word / 2)
    pub before : word_seen slots c.cell ≡ c.before
    pub told : c.before ≡ word_told mode c.cell k.found

  -- a read of the cell ended with this conflict, and the run is over
  pub record HasStopped (cell : ℕ) (c : ConflictValue) (g r : Going S N) : Type 0 where
    pub grows : SeenGrows g.known.seen r.known.seen
    pub stands : Stands terms r
    pub cell_is : c.cell ≡ cell
    pub finds : Finds g.mode g.slots c r.known
    pub cause : HasCause g.place c.word
    pub is : r ≡ record g { known = record g.known { seen = r.known.seen; looked = Some (cell, c.word) }; over = Some c }

  -- a word of the store was loaded
  pub record HasLoaded (g r : Going S N) : Type 0 where
    pub grows : SeenGrows g.known.seen r.known.seen
    pub stands : Stands terms r
    pub is : r ≡ record g { known = record g.known { seen = r.known.seen } }

  -- words of the store were loaded, or none
  abbrev pub HasLoadedSome : Going S N → Going S N → Type 0
  HasLoadedSome g r = (r ≡ g) ⊎ HasLoaded g r

  -- the words are a finished range of the store now, from this start on, and the pass has taken as many words more
  pub record HasStaged (words : List ℕ) (start : ℕ) (g r : Going S N) : Type 0 where
    pub grows : SeenGrows g.known.seen r.known.seen
    pub stands : Stands terms r
    pub unrefused : g.known.full ≡ None
    pub inside : start + length words ≤ g.known.home.room
    pub finished : Has (record { start = start; words = words }) r.known.seen.ranges
    pub is : r ≡ record g { known = record g.known { seen = r.known.seen; taken = g.known.taken + length words } }

  -- a staging of so many words found this tail, and was refused: the tail moved on by the smaller of their number and the room and one
  pub record FindsFull (count tail : ℕ) (g r : Going S N) : Type 0 where
    pub grows : SeenGrows g.known.seen r.known.seen
    pub stands : Stands terms r
    pub unrefused : g.known.full ≡ None
    pub above : g.known.home.room < tail + count
    -- it is past the room from then on, so that no later staging of any session fits
    pub past : g.known.home.room < tail + min count (g.known.home.room + 1)
    pub is : r ≡ record g {
      known = record g.known { seen = r.known.seen; full = Some (tail, count); added = min count (g.known.home.room + 1) };
    }

  -- a staging of so many words was refused: one was before, and no step was made; or the tail that was found leaves too little room
  abbrev pub IsRefused : ℕ → Going S N → Going S N → Type 0
  IsRefused count g r = ((p : ℕ × ℕ) × (g.known.full ≡ Some p) × (r ≡ g)) ⊎ ((tail : ℕ) × FindsFull count tail g r)

  -- ---- the end of a run

  -- the call has this number, and its entry is Done, with its work. It has locked just the cells that it wrote
  pub record IsCommitted (number : ℕ) (w : Work N) (k r : Known S N) : Type 0 where
    pub grows : SeenGrows k.seen r.seen
    pub knows : Knows terms r
    pub index : ℕ
    pub number_is : number ≡ suc index
    pub later : length k.seen.history ≤ index
    pub done : IsDone r.seen index w
    pub is : r ≡ record k {
      seen = r.seen;
      locked = cells_of w.writes ++ k.locked;
      looked = r.looked;
      drawn = k.drawn ++ number ∷ [];
      mine = k.mine ++ Committed number w ∷ [];
    }

  -- the call wrote nothing and locked nothing, and is one at this place
  pub record IsAnswered (place : ℕ) (w : Work N) (k r : Known S N) : Type 0 where
    pub grows : SeenGrows k.seen r.seen
    pub knows : Knows terms r
    pub is : r ≡ record k { seen = r.seen; mine = k.mine ++ Answered place w ∷ [] }

  -- these cells were locked, and no number was drawn, or this one alone, whose entry is Void
  abbrev pub HasNoEntry : List ℕ → Option ℕ → Known S N → Known S N → Type 0
  HasNoEntry cells None k r = r ≡ record k { seen = r.seen; locked = cells ++ k.locked; looked = r.looked }
  HasNoEntry cells (Some number) k r =
      (i : ℕ) × (number ≡ suc i) × (length k.seen.history ≤ i) × IsVoid r.seen i
      × (r ≡ record k { seen = r.seen; locked = cells ++ k.locked; looked = r.looked; drawn = k.drawn ++ number ∷ [] })

  -- the call met this conflict, at a cell that the run had read, and drew this number or none. Each cell that it has locked is one that it
  -- was to write
  pub record IsRejected (c : ConflictValue) (drawn : Option ℕ) (g : Going S N) (r : Known S N) : Type 0 where
    pub grows : SeenGrows g.known.seen r.seen
    pub knows : Knows terms r
    pub finds : Finds g.mode g.slots c r
    pub read : is_some c.before ≡ true
    pub cause : HasCause g.place c.word ⊎ ((w : ℕ) × (c.before ≡ Some w) × (w ≢ c.word))
    pub entry : HasNoEntry (cells_locked g.slots c drawn) drawn g.known r

  -- what a commit with this note answers
  abbrev pub Ends : N → Going S N → Known S N → Outcome → Type 0
  Ends n g r (EndsDone number) = (writes_kept g.slots ≢ []) × IsCommitted number (work_done g n) g.known r
  Ends n g r (EndsRead place) = (writes_kept g.slots ≡ []) × (place ≡ g.place) × IsAnswered place (work_done g n) g.known r
  Ends n g r (EndsConflict c drawn) = (writes_kept g.slots ≢ []) × IsRejected c drawn g r
  Ends n g r NumbersUsed = (writes_kept g.slots ≢ []) × (length g.known.drawn ≡ 2 ^ 40) × (r ≡ g.known)

  -- ---- passes

  -- a pass k has learnt of j: they are k2 and j2 now
  pub record Learns (k j k2 j2 : Known S N) : Type 0 where
    pub own : SeenGrows k.seen k2.seen
    pub told : SeenGrows j.seen k2.seen
    pub other : SeenGrows j.seen j2.seen
    -- the calls of j agree with what k has seen now
    pub calls : (x : S) → k.home.setting ≡ Some x → Agree terms x k.home.base k2.seen j.mine
    pub knows : Knows terms k2
    pub other_knows : Knows terms j2
    -- the numbers of passes with two names are different
    pub apart : k.name ≢ j.name → (n : ℕ) → Has n k.drawn → Has n j.drawn → ⊥
    pub same : (x y : S) → k.home.setting ≡ Some x → j.home.setting ≡ Some y → (x ≡ y) × (k.home.base ≡ j.home.base)
    pub is : k2 ≡ record k { seen = k2.seen; clocks = length k2.seen.history ∷ k.clocks; looked = None; found = [] }
    pub other_is : j2 ≡ record j { seen = j2.seen }
