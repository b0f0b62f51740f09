-- What was seen of the history, with a note for each entry, and of the store; what calls did, and when that agrees with the history.
use Rattle.std.specs.Prelude.{◌≡◌, ◌≢◌, ℕ, suc, ◌≤◌, Some, List, [], ◌∷◌, length, slice_get}
use Rattle.tlcore.specs.History.{WordsEntry, One, Grows}
use Rattle.tlcore.specs.declared.entries.Status.TheVariants.{Open, Done}
use Rattle.ranges.specs.Ranges.{Range, Within}
use Rattle.ranges.specs.Pairs.{Pairs}
use Rattle.tlwords.specs.Terms.{Terms, Permits}

-- what a transaction did: its reads, the newest first, its writes, the largest cell first, and its note
pub record Work (N : Type 0) : Type 0 where
  pub reads : Pairs
  pub writes : Pairs
  pub note : N

-- a call that committed with this number, or one that wrote nothing and was answered at this place
pub data Call (N : Type 0) : Type 0 where
  Committed : ℕ → Work N → Call N
  Answered : ℕ → Work N → Call N

-- a history, the note of the entry i at the index i, and the finished ranges of the store
pub record Seen (N : Type 0) : Type 0 where
  pub history : List WordsEntry
  pub notes : List N
  pub ranges : List Range

-- the entry at the index i is Done or Void
abbrev pub IsSettled : List WordsEntry → ℕ → Type 0
IsSettled h i = (e : WordsEntry) × (slice_get h i ≡ Some e) × (e.status ≢ Open)

module _ {N : Type 0} where
  -- nothing of a history, and these ranges
  abbrev pub opening_seen : List Range → Seen N
  opening_seen ranges = record { history = []; notes = []; ranges = ranges }

  -- each note stays
  abbrev pub NotesGrow : List N → List N → Type 0
  NotesGrow ns ms = (i : ℕ) (n : N) → slice_get ns i ≡ Some n → slice_get ms i ≡ Some n

  -- h is seen later than g
  abbrev pub SeenGrows : Seen N → Seen N → Type 0
  SeenGrows g h = Grows g.history h.history × NotesGrow g.notes h.notes × Within g.ranges h.ranges

  -- the entry at the index i is Done, and w is its work
  pub record IsDone (g : Seen N) (i : ℕ) (w : Work N) : Type 0 where
    pub entry : WordsEntry
    pub here : slice_get g.history i ≡ Some entry
    pub done : entry.status ≡ Done
    pub reads : entry.reads ≡ w.reads
    pub writes : entry.writes ≡ w.writes
    pub note : slice_get g.notes i ≡ Some w.note

  module _ {S : Type 0} (terms : Terms S N) (setting : S) (base : List ℕ) where
    -- each Done entry is lawful and writes something, and what it read is one version just before it
    abbrev pub Legal : Seen N → Type 0
    Legal g =
        (i : ℕ) (w : Work N) → IsDone g i w
        → Permits terms setting g.ranges w.reads w.writes w.note × (w.writes ≢ []) × One base g.history i w.reads

    -- a call with a number is the entry of that number. A call without one is lawful, and what it read is one version at its place
    abbrev pub CallAgrees : Seen N → Call N → Type 0
    CallAgrees g (Committed number w) = (i : ℕ) × (number ≡ suc i) × IsDone g i w
    CallAgrees g (Answered place w) =
        (place ≤ length g.history) × (w.writes ≡ []) × Permits terms setting g.ranges w.reads [] w.note × One base g.history place w.reads

    -- each of the calls agrees
    abbrev pub Agree : Seen N → List (Call N) → Type 0
    Agree g [] = Unit {0}
    Agree g (c ∷ cs) = CallAgrees g c × Agree g cs
