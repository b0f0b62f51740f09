-- What is so, at all times, of what stands at the places.
use Rattle.std.specs.Prelude.{◌≡◌, ◌<◌, ◌≤◌, ◌+◌, ◌/◌, ◌%◌, ◌^◌, ◌⊎◌, ℕ, Bool, true, Some, List, length, All}
use Rattle.ranges.specs.Ranges.{Has, Names, AreOfOneStore}
use Rattle.ranges.specs.Ranges.{Range as Stored}
use Rattle.ranges.specs.declared.range.Range.{Range}
use Rattle.tlwords.specs.declared.words.Words.{Words}
use Rattle.tlwords.specs.Callers.{home_of, AreOfOneOpening}
use Rattle.tlwords.specs.Runs.{was_read, value_kept}
use Rattle.wordrows.specs.declared.seat.Resting.{Resting}
use Rattle.wordrows.specs.declared.seat.Playing.{Playing}
use Rattle.wordrows.specs.declared.seat.Stand.{Stand}
use Rattle.wordrows.specs.declared.seat.Stand.TheVariants.{AtRest, Running, Gone}

-- the range is one of those that are finished
abbrev pub IsThere : List Stored → Range → Type 0
IsThere ranges r = (words : List ℕ) × Has (record { start = r.start; words = words }) ranges × (length words ≡ r.len)

-- 0, or the word of a range that has words, in a store of so many words
abbrev pub IsNameIn : ℕ → ℕ → Type 0
IsNameIn size word = (word ≡ 0) ⊎ ((0 < word % 2 ^ 25) × (word / 2 ^ 25 + word % 2 ^ 25 ≤ size))

module _ {L : Type 0} (words : Words L Bool ℕ) where
  -- whether the cells are to hold 0 or words that name ranges
  abbrev pub is_named : Bool
  is_named = words.table.shared.key.setting.value

  -- a pass of these words, and ranges that it has seen
  pub record RestsAt (r : Resting) : Type 0 where
    pub opening : AreOfOneOpening words r.pass
    pub there : All (IsThere r.pass.seen.ranges) r.ranges.items

  -- a run of these words, the cells that it has read, and ranges that its pass has seen. Where cells name ranges, so does each value that
  -- it keeps
  pub record RunsAt (p : Playing) : Type 0 where
    pub home : p.run.known.home ≡ home_of words
    pub mode : p.run.mode ≡ p.mode
    pub read : All (λ c. was_read p.run.slots c ≡ true) p.read.items
    pub there : All (IsThere p.run.known.seen.ranges) p.ranges.items
    pub store : AreOfOneStore words.room p.run.known.seen.ranges
    pub kept : is_named ≡ true → (c v : ℕ) → value_kept p.run.slots c ≡ Some v → Names p.run.known.seen.ranges v

  -- what stands at a place is of these words
  abbrev pub StandsAt : Stand → Type 0
  StandsAt (AtRest r) = RestsAt r
  StandsAt (Running p) = RunsAt p
  StandsAt Gone = Unit {0}
