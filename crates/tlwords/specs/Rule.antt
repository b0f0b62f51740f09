-- The rule of the table: there is a world of the machine that meets its invariant, and a store whose finished ranges never change, and
-- the words and the views are theirs.
use Rattle.std.specs.Prelude.{◌≡◌, ◌≢◌, ℕ, ◌+◌, ◌*◌, ◌^◌, ◌<◌, ◌≤◌, Some, List, [], ◌∷◌, ◌++◌, length, slice_get, map, min, None, true}
use mathlib.Core.Option.{some}
use lib.ListN.{get_elem?}
use Rattle.atomic_table.specs.Table.{State}
use Rattle.std.specs.Prelude.{suc, ◌⊎◌, eqb}
use Rattle.std.specs.List.{IsDistinct}
use Rattle.tlcore.specs.History.{WordsEntry, version_after, deed, NoneWill}
use Rattle.tlcore.specs.Seats.{Seat, idle, is_resting, number_at}
use Rattle.tlcore.specs.Machine.{World, next, with_seat}
use Rattle.tlcore.specs.declared.actions.Action.{Action}
use Rattle.tlcore.specs.Schedules.{start}
use Rattle.tlcore.specs.declared.cells.Cell.{Cell}
use Rattle.tlcore.specs.declared.seats.Phase.TheVariants.{Looked, Loaded}
use Rattle.tlcore.specs.Invariant.{Invariant}
use Rattle.ranges.specs.Ranges.{Range, Has, Names, IsStored, AreOfOneStore}
use Rattle.tlwords.specs.declared.rule.Opening.{Opening}
use Rattle.tlwords.specs.Terms.{Terms, Permits, Opened}
use Rattle.tlwords.specs.Seen.{Seen, SeenGrows, IsSettled, Agree}
use Rattle.tlwords.specs.Views.{Told, Gone, Staging, View, tells, fresh}
use Rattle.tlwords.specs.Layout.{words_of, shelf_of}

-- ---- the views

-- what f gives of each view, added up
abbrev pub total_of : {V : Type 0} → (V → ℕ) → List V → ℕ
total_of f [] = 0
total_of f (v ∷ vs) = f v + total_of f vs

-- the word that the run's look at c found is twice the version at its place, and no Open entry up to there writes c
abbrev pub IsFresh : List WordsEntry → ℕ → ℕ → ℕ → Type 0
IsFresh h rv c word = (word ≡ 2 * version_after (deed h c) rv) × NoneWill (deed h c) rv

-- the same of the seat's look, until its second look
abbrev pub LookIsFresh : List WordsEntry → Seat → Type 0
LookIsFresh h t =
    (c word value : ℕ) → (t.phase ≡ Looked c word) ⊎ (t.phase ≡ Loaded c word value) → IsFresh h t.rv c word

-- each entry, an Open one too, is lawful and writes something
abbrev pub EntriesAre : {S N : Type 0} → Terms S N → S → Seen N → Type 0
EntriesAre {S} {N} terms setting g =
    (i : ℕ) (e : WordsEntry) (n : N) → slice_get g.history i ≡ Some e → slice_get g.notes i ≡ Some n
    → Permits terms setting g.ranges e.reads e.writes n × (e.writes ≢ [])

-- ---- the world

-- the world is reached from the opening values by events of the machine, each lawful where it came. A seat may join, idle; and one whose
-- run is over or holds no cell may leave, and is idle from then on
pub data Reached (base : List ℕ) : World → Type 0 where
  at_opening : (seats : ℕ) → Reached base (start base seats)
  by_step : {w v : World} (s : ℕ) (a : Action) → Reached base w → next w s a ≡ Some v → Reached base v
  by_joining : {w : World} → Reached base w → Reached base (record w { seats = w.seats ++ idle ∷ [] })
  by_leaving : {w : World} (s : ℕ) (t : Seat) → Reached base w → slice_get w.seats s ≡ Some t → is_resting t.phase ≡ true
      → Reached base (with_seat w s idle)

-- ---- the store

-- how a memory was opened: the store's words, and how many sessions there are
pub record Start : Type 0 where
  pub store : List ℕ
  pub sessions : ℕ

-- a seat's range lies in the store, behind the opening's words, which are so many, and below the tail; its first words are stored, but not
-- all
pub record IsBeingFilled (opened room tail : ℕ) (store : List ℕ) (s : Staging) : Type 0 where
  pub behind : opened ≤ s.start
  pub inside : s.start + length s.words ≤ room
  pub below : s.start + length s.words ≤ tail
  pub left : s.done < length s.words
  pub stored : (i w : ℕ) → i < s.done → slice_get s.words i ≡ Some w → slice_get store (s.start + i) ≡ Some w

-- no word of the finished range is one of the seat's range
abbrev pub IsApart : Staging → Range → Type 0
IsApart s r = (i : ℕ) → i < length r.words → (r.start + i < s.start) ⊎ (s.start + length s.words ≤ r.start + i)

-- the opening's words stay where they were, and no word from the tail on was written
pub record IsLeft (opened : List ℕ) (room tail : ℕ) (store : List ℕ) : Type 0 where
  pub opening : (o w : ℕ) → slice_get opened o ≡ Some w → slice_get store o ≡ Some w
  pub blank : (o : ℕ) → tail ≤ o → o < room → slice_get store o ≡ Some 0

module _ {S N : Type 0} where
  -- what a pass tells is of this history, and its numbers, from 1 on, are its own, each drawn once
  pub record IsTold (setting : S) (base : List ℕ) (now : Seen N) (owner : ℕ → ℕ) (t : Told S N) : Type 0 where
    pub setting_is : (x : S) → t.setting ≡ Some x → (x ≡ setting) × (t.base ≡ base)
    pub grows : SeenGrows t.seen now
    pub owned : (n : ℕ) → Has n t.drawn → (n ≤ length now.history) × (owner n ≡ t.name)
    pub once : IsDistinct eqb (0 ∷ t.drawn)

  -- what holds of a pass that was given up
  pub record IsGone (terms : Terms S N) (setting : S) (base : List ℕ) (now : Seen N) (owner : ℕ → ℕ) (g : Gone S N) : Type 0 where
    pub told : IsTold setting base now owner g.told
    pub mine : Agree terms setting base now g.mine
    pub few : length g.told.drawn ≤ 2 ^ 40

  -- its parts of the right to draw, with those of the passes that were given up to it, which had one each
  abbrev pub rights_of : View S N → ℕ
  rights_of v = v.rights + length v.gone

  -- how many numbers were drawn, how far the tail was moved, and by how much beyond the room at most
  abbrev pub numbers_of : View S N → ℕ
  numbers_of v = length v.drawn + total_of (λ (g : Gone S N). length g.told.drawn) v.gone

  abbrev pub moved_of : View S N → ℕ
  moved_of v = (v.taken + v.added) + total_of (λ (g : Gone S N). g.taken + g.added) v.gone

  abbrev pub added_of : View S N → ℕ
  added_of v = v.added + total_of (λ (g : Gone S N). g.added) v.gone

  -- what holds of each view
  pub record Suits (terms : Terms S N) (setting : S) (base : List ℕ) (room : ℕ) (now : Seen N) (owner : ℕ → ℕ) (v : View S N) : Type 0 where
    pub own : IsTold setting base now owner (tells v)
    pub room_is : (x : S) → v.setting ≡ Some x → v.room ≡ room
    pub told : IsTold setting base now owner v.told
    pub mine : Agree terms setting base now v.mine
    pub settled : (i : ℕ) → Has (suc i) v.drawn → (number_at v.seat.phase ≡ Some i) ⊎ IsSettled now.history i
    pub noted : (i : ℕ) → number_at v.seat.phase ≡ Some i → (n : N) × (v.note ≡ Some n) × (slice_get now.notes i ≡ Some n)
    pub look : LookIsFresh now.history v.seat
    -- 2^40 numbers for each part of the right to draw; a seat that has none holds no cell
    pub few : length v.drawn ≤ 2 ^ 40 * v.rights
    pub unheld : v.rights ≡ 0 → v.seat.held ≡ []
    pub gone : (g : Gone S N) → Has g v.gone → IsGone terms setting base now owner g

  -- what holds of the clock and the cells' words
  pub record Kept (terms : Terms S N) (setting : S) (base : List ℕ) (room : ℕ) (ranges : List Range) (words : List ℕ)
      (views : List (View S N)) : Type 0 where
    pub world : World
    pub notes : List N
    -- the name of the pass that drew the number
    pub owner : ℕ → ℕ
    pub invariant : Invariant base world
    -- so what each seat shows of itself is what the machine made of its own steps
    pub reached : Reached base world
    pub words_are : words ≡ words_of world
    pub seats_are : map (λ (v : View S N). v.seat) views ≡ world.seats
    pub cells_are : length world.cells ≡ length base
    pub notes_are : length notes ≡ length world.history
    pub entries : EntriesAre terms setting (record { history = world.history; notes = notes; ranges = ranges })
    pub opening : Opened terms setting ranges base
    pub named : (c : ℕ) (x : Cell) → slice_get world.cells c ≡ Some x → terms.ranged setting c ≡ true → Names ranges x.value
    pub lie : AreOfOneStore room ranges
    pub suits : (j : ℕ) (v : View S N) → get_elem? views j ≡ some v
        → Suits terms setting base room (record { history = world.history; notes = notes; ranges = ranges }) owner v
    -- so the clock is at most 2^46, and never wraps
    pub rights : total_of rights_of views ≤ 64
    pub numbers : total_of numbers_of views ≡ length world.history

  -- what holds of the tail and one view. It moves the tail beyond the room at most once, by the room and one word at most
  pub record Adds (room tail : ℕ) (v : View S N) : Type 0 where
    pub once : v.added ≤ (room + 1) * v.rights
    pub unrefused : v.full ≡ None → v.added ≡ 0
    pub found : (n count : ℕ) → v.full ≡ Some (n, count) → n + min count (room + 1) ≤ tail
    pub untaken : v.rights ≡ 0 → v.taken ≡ 0
    pub gone : (g : Gone S N) → Has g v.gone
        → (g.added ≤ room + 1) × ((n count : ℕ) → g.full ≡ Some (n, count) → n + min count (room + 1) ≤ tail)

  -- the tail is behind the opening's words, which are so many, by what each view took, and what stagings that were refused added. So it
  -- never wraps
  pub record IsTail (opened room tail : ℕ) (views : List (View S N)) : Type 0 where
    pub is : tail ≡ opened + total_of moved_of views
    pub most : tail ≤ room + total_of added_of views
    pub each : (j : ℕ) (v : View S N) → get_elem? views j ≡ some v → Adds room tail v

  -- what holds of the tail and the store's words
  pub record Shelf (room : ℕ) (opened : List ℕ) (ranges : List Range) (tail : ℕ) (store : List ℕ) (views : List (View S N)) : Type 0 where
    pub long : length store ≡ room
    pub small : room ≤ 2 ^ 24
    pub left : IsLeft opened room tail store
    pub tail_is : IsTail (length opened) room tail views
    pub finished : (r : Range) → Has r ranges → IsStored tail store r
    pub taken : (j : ℕ) (v : View S N) (s : Staging) → get_elem? views j ≡ some v → v.staging ≡ Some s
        → IsBeingFilled (length opened) room tail store s
    pub apart : (j : ℕ) (v : View S N) (s : Staging) (r : Range) → get_elem? views j ≡ some v → v.staging ≡ Some s → Has r ranges
        → IsApart s r
    pub alone : (j k : ℕ) (u v : View S N) (s t : Staging) → j ≢ k → get_elem? views j ≡ some u → get_elem? views k ≡ some v
        → u.staging ≡ Some s → v.staging ≡ Some t → (s.start + length s.words ≤ t.start) ⊎ (t.start + length t.words ≤ s.start)

  -- the rule, of the setting, the opening values of the cells, the store's room and how it was opened
  pub record Ruled (terms : Terms S N) (setting : S) (base : List ℕ) (room : ℕ) (opened : Start)
      (s : State (Unit {0}) (View S N)) : Type 0 where
    pub front : List ℕ
    pub tail : ℕ
    pub store : List ℕ
    pub ranges : List Range
    pub words_are : s.words ≡ front ++ shelf_of tail store
    pub kept : Kept terms setting base room ranges front s.views
    pub shelf : Shelf room opened.store ranges tail store s.views
    pub dealt : total_of rights_of s.views ≡ opened.sessions

  -- the same of what the table is told when it is made
  abbrev pub IsRuled : Terms S N → Opening S → State (Unit {0}) (View S N) → Type 0
  IsRuled terms key s =
      Ruled terms key.setting.value key.values.value.items key.room (record { store = key.store.value.items; sessions = key.sessions }) s

  -- the first seat has a part of the right to draw for each session, and makes the passes
  abbrev pub first_view : S → List ℕ → ℕ → List Range → ℕ → View S N
  first_view setting base room ranges sessions = fresh (Some setting) base room ranges 0 sessions
