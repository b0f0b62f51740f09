-- What a pass shows, and what is so of it by itself, whatever the other passes do.
use Rattle.std.specs.Prelude.{◌≡◌, ℕ, suc, ◌≤◌, Option, Some, None, List, [], length, ◌⊎◌}
use Rattle.ranges.specs.Ranges.{Range, Has, AreOfOneStore}
use Rattle.tlcore.specs.History.{One}
use Rattle.tlcore.specs.Seats.{Seat, idle, reads_of, number_at}
use Rattle.tlwords.specs.Terms.{Terms, Opened}
use Rattle.tlwords.specs.Seen.{Call, Seen, opening_seen, IsSettled, Legal, Agree}

-- what one pass tells another: the setting, the opening values, what it has seen, its numbers and its name
pub record Told (S N : Type 0) : Type 0 where
  pub setting : Option S
  pub base : List ℕ
  pub seen : Seen N
  pub drawn : List ℕ
  pub name : ℕ

-- 1 where there is one
abbrev pub counts : {A : Type 0} → Option A → ℕ
counts None = 0
counts (Some x) = 1

-- a range that a seat has taken and not finished: where it starts, the words that it is to have, and how many of them are stored
pub record Staging : Type 0 where
  pub start : ℕ
  pub words : List ℕ
  pub done : ℕ

-- what stays of a pass that was given up to another one at the end: what it tells, its calls, and what it did to the tail
pub record Gone (S N : Type 0) : Type 0 where
  pub told : Told S N
  pub mine : List (Call N)
  pub full : Option (ℕ × ℕ)
  pub taken : ℕ
  pub added : ℕ

pub record View (S N : Type 0) : Type 0 where
  -- the setting, the opening values, and how many words the store has. A seat that is given up has none
  pub setting : Option S
  pub base : List ℕ
  pub room : ℕ
  -- the machine's seat: the run, its place, its reads and the cells that it holds; its loads of the clock, the cells that it has locked,
  -- and its last look or take
  pub seat : Seat
  -- the note of the run that drew last
  pub note : Option N
  -- what was seen, and the calls
  pub seen : Seen N
  pub mine : List (Call N)
  -- its name, the numbers that it drew, and its parts of the right to draw
  pub name : ℕ
  pub drawn : List ℕ
  pub rights : ℕ
  -- the range that it is staging, and what its first staging that was refused found: the tail and the length
  pub staging : Option Staging
  pub full : Option (ℕ × ℕ)
  -- how many words of the store it has taken, and what its first staging that was refused added to the tail
  pub taken : ℕ
  pub added : ℕ
  -- the passes that were given up to it
  pub gone : List (Gone S N)
  -- what it was told and hasn't yet seen by itself
  pub told : Told S N

module _ {S N : Type 0} where
  abbrev pub untold : Told S N
  untold = record { setting = None; base = []; seen = opening_seen []; drawn = []; name = 0 }

  abbrev pub tells : View S N → Told S N
  tells v = record { setting = v.setting; base = v.base; seen = v.seen; drawn = v.drawn; name = v.name }

  abbrev pub gone_of : View S N → Gone S N
  gone_of v = record { told = tells v; mine = v.mine; full = v.full; taken = v.taken; added = v.added }

  -- a pass that has done nothing yet
  abbrev pub fresh : Option S → List ℕ → ℕ → List Range → ℕ → ℕ → View S N
  fresh setting base room ranges name rights =
      record {
        setting = setting;
        base = base;
        room = room;
        seat = idle;
        note = None;
        seen = opening_seen ranges;
        mine = [];
        name = name;
        drawn = [];
        rights = rights;
        staging = None;
        full = None;
        taken = 0;
        added = 0;
        gone = [];
        told = untold;
      }

  pub record Sound (terms : Terms S N) (v : View S N) : Type 0 where
    -- the run's place is in what was seen
    pub placed : v.seat.rv ≤ length v.seen.history
    -- what the run has read is one version at its place
    pub one : (x : S) → v.setting ≡ Some x → One v.base v.seen.history v.seat.rv (reads_of v.seat.reads)
    pub legal : (x : S) → v.setting ≡ Some x → Legal terms x v.base v.seen
    -- each entry has its note
    pub noted : length v.seen.notes ≡ length v.seen.history
    pub mine : (x : S) → v.setting ≡ Some x → Agree terms x v.base v.seen v.mine
    pub opening : (x : S) → v.setting ≡ Some x → Opened terms x v.seen.ranges v.base
    pub ranges : (x : S) → v.setting ≡ Some x → AreOfOneStore v.room v.seen.ranges
    -- each number that was drawn is that of the run, or its entry is Done or Void
    pub settled : (i : ℕ) → Has (suc i) v.drawn → (number_at v.seat.phase ≡ Some i) ⊎ IsSettled v.seen.history i

-- a seat that is given up, and knows what it tells at most
abbrev pub nobody : {S N : Type 0} → View S N
nobody = fresh None [] 0 [] 0 0
