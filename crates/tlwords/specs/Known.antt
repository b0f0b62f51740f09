-- What callers see of a pass and of a run, and what is so of it by itself, whatever the other passes do.
use Rattle.std.specs.Prelude.{◌≡◌, ℕ, suc, ◌^◌, ◌≤◌, Option, Some, None, List, length, map}
use Rattle.atomic_table.specs.Seated.{TableId}
use Rattle.tlcore.specs.History.{One}
use Rattle.tlcore.specs.Seats.{reads_of}
use Rattle.tlcore.specs.declared.seats.Read.{Read}
use Rattle.ranges.specs.Ranges.{Has, AreOfOneStore}
use Rattle.ranges.specs.Pairs.{Pairs, written}
use Rattle.tlwords.specs.declared.log.Slot.{Slot}
use Rattle.tlwords.specs.declared.mode.Mode.{Mode}
use Rattle.tlwords.specs.declared.mode.Mode.TheVariants.{Reading, Writing}
use Rattle.tlwords.specs.declared.outcome.Conflict.{Conflict}
use Rattle.tlwords.specs.Terms.{Terms, Opened}
use Rattle.tlwords.specs.Seen.{Call, Seen, IsSettled, Legal, Agree}
use Rattle.tlwords.specs.Views.{Gone, View}

-- an opening: the table, the setting, the opening values of the cells, and how many words the store has
pub record WordsHome (S : Type 0) : Type 0 where
  pub table : TableId
  pub setting : Option S
  pub base : List ℕ
  pub room : ℕ

pub record Known (S N : Type 0) : Type 0 where
  -- which opening it is of
  pub home : WordsHome S
  -- what it has seen, and its calls
  pub seen : Seen N
  pub mine : List (Call N)
  -- its name, and the numbers that it drew
  pub name : ℕ
  pub drawn : List ℕ
  -- what its loads of the clock found, the newest first; the cells that it has locked, in all its runs, the newest first; and the cell and
  -- lock word that its last look, check or take since the last load of the clock found
  pub clocks : List ℕ
  pub locked : List ℕ
  pub looked : Option (ℕ × ℕ)
  -- the cells and lock words of the reads that have ended since that load, the newest first
  pub found : Pairs
  -- what its first staging that was refused found: the tail and the length
  pub full : Option (ℕ × ℕ)
  -- how many words of the store it has taken, and what that staging added to the tail
  pub taken : ℕ
  pub added : ℕ

pub record Going (S N : Type 0) : Type 0 where
  -- its pass
  pub known : Known S N
  -- how many numbers were drawn before it
  pub place : ℕ
  pub mode : Mode
  -- the conflict that ended it
  pub over : Option Conflict
  -- what it has read, the newest first
  pub reads : Pairs
  -- what it keeps of each cell
  pub slots : List Slot

-- the reads as cells and lock words
abbrev pub found_of : List Read → Pairs
found_of rs = map (λ r. (r.cell, r.word)) rs

-- the lock word that the newest of these reads of the cell found. A run that only reads keeps none
abbrev pub word_told : Mode → ℕ → Pairs → Option ℕ
word_told Reading c found = None
word_told Writing c found = written c found

module _ {S N : Type 0} where
  -- what a seat shows
  abbrev pub known_of : TableId → View S N → Known S N
  known_of table v =
      record {
        home = record { table = table; setting = v.setting; base = v.base; room = v.room };
        seen = v.seen;
        mine = v.mine;
        name = v.name;
        drawn = v.drawn;
        clocks = v.seat.clocks;
        locked = v.seat.locked;
        looked = v.seat.looked;
        found = found_of v.seat.reads;
        full = v.full;
        taken = v.taken;
        added = v.added;
      }

  abbrev pub going_of : TableId → View S N → ℕ → Mode → Option Conflict → List Slot → Going S N
  going_of table v place mode over slots =
      record { known = known_of table v; place = place; mode = mode; over = over; reads = reads_of v.seat.reads; slots = slots }

  -- what stays of a pass that is given up at the end
  abbrev pub gone_known : Known S N → Gone S N
  gone_known k =
      record {
        told = record { setting = k.home.setting; base = k.home.base; seen = k.seen; drawn = k.drawn; name = k.name };
        mine = k.mine;
        full = k.full;
        taken = k.taken;
        added = k.added;
      }

  -- what holds of a pass
  pub record Knows (terms : Terms S N) (k : Known S N) : Type 0 where
    pub legal : (x : S) → k.home.setting ≡ Some x → Legal terms x k.home.base k.seen
    -- each entry has its note
    pub noted : length k.seen.notes ≡ length k.seen.history
    pub mine : (x : S) → k.home.setting ≡ Some x → Agree terms x k.home.base k.seen k.mine
    pub opening : (x : S) → k.home.setting ≡ Some x → Opened terms x k.seen.ranges k.home.base
    pub ranges : (x : S) → k.home.setting ≡ Some x → AreOfOneStore k.home.room k.seen.ranges
    -- a pass draws at most 2^40 numbers
    pub few : length k.drawn ≤ 2 ^ 40
    -- the entry of each number that was drawn is Done or Void
    pub settled : (i : ℕ) → Has (suc i) k.drawn → IsSettled k.seen.history i

  -- what holds of a run
  pub record Stands (terms : Terms S N) (g : Going S N) : Type 0 where
    pub knows : Knows terms g.known
    pub placed : g.place ≤ length g.known.seen.history
    -- what it has read is one version at its place
    pub one : (x : S) → g.known.home.setting ≡ Some x → One g.known.home.base g.known.seen.history g.place g.reads
    -- where a read of a cell has ended since it began, a value of the cell is among these
    pub ended : (c w : ℕ) → written c g.known.found ≡ Some w → (v : ℕ) × Has (c, v) g.reads
