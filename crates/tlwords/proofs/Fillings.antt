-- How far a range of the store is filled, and what a run tells of steps on the store.
use Rattle.std.proofs.Common.{◌≡◌, ℕ, ◌+◌, ◌<◌, ◌≤◌, inl, inr, ⊎_elim, Bool, false, is_some, Option, Some, None, List, [], ◌∷◌, ◌++◌}
use Rattle.std.proofs.Common.{length, min, take, get_or, slice_get, sym, refl, ap, subst, ◌∙◌, arith}
use Rattle.std.proofs.lemmas.List.{take_more, append_assoc}
use Rattle.std.proofs.lemmas.Option.{get_or_from_slice_get}
use Rattle.atomic_table.specs.Seated.{TableId}
use Rattle.atomic_table.specs.declared.shared.Seat.{Seat as TableSeat}
use Rattle.tlcore.proofs.Growth.{get_exists}
use Rattle.ranges.specs.Ranges.{Has}
use Rattle.ranges.specs.declared.range.Range.{Range as Span}
use Rattle.tlwords.specs.declared.log.Slot.{Slot}
use Rattle.tlwords.specs.declared.mode.Mode.{Mode}
use Rattle.tlwords.specs.declared.outcome.Conflict.{Conflict}
use Rattle.tlwords.specs.Terms.{Terms}
use Rattle.tlwords.specs.Views.{Staging, View}
use Rattle.tlwords.specs.Known.{Stands, going_of}
use Rattle.tlwords.specs.Plays.{Mine, Sees, IsSameSeat, Advances, Fills, Fetches}
use Rattle.tlwords.specs.Runs.{Finishes, Fetched, Runs, IsKeptOf, IsRunOf, KnowsStore, noted}
use Rattle.tlwords.specs.Calls.{HasLoaded, HasLoadedSome, HasStaged, FindsFull}
use Rattle.tlwords.proofs.Turns.{Moves, moves_then, moves_grow}
use Rattle.tlwords.proofs.Knows.{stands_of, runs_on}

-- a number that is each word at this index is the word at this index
pub range_word : (words : List ℕ) (i n : ℕ) → i < length words → ((w : ℕ) → slice_get words i ≡ Some w → n ≡ w) → slice_get words i ≡ Some n
range_word words i n l all =
    let b : (w : ℕ) × (slice_get words i ≡ Some w) = get_exists words i l in
    b.1 ∙ ap (λ (w : ℕ). Some w) (sym (all b.0 b.1))

module _ {S N : Type 0} (terms : Terms S N) where
  module _ (words : List ℕ) (start : ℕ) where
    -- the range, of whose words so many are stored
    abbrev pub with_done : ℕ → Staging
    with_done done = record { start = start; words = words; done = done }

    -- from m on so many of its words were stored, and with the last one it is finished
    pub record Filled (m : Mine S N) (done : ℕ) (r : Mine S N) : Type 0 where
      pub sees : Moves terms m r
      pub goes_on : done < length words → r.0 ≡ record m.0 { seen = r.0.seen; staging = Some (with_done done) }
      pub ends : done ≡ length words → Finishes terms words start m r

    pub filled_more : (m r q : Mine S N) (k : ℕ) → k < length words → Filled m k r → Fills terms r q → Filled m (k + 1) q
    filled_more m r q k l f s =
        let is : r.0 ≡ record m.0 { seen = r.0.seen; staging = Some (with_done k) } = f.goes_on l in
        let here : r.0.staging ≡ Some (with_done k) = ap (λ v. v.staging) is in
        let all : Sees terms m.0 q.0 = moves_then terms m r q f.sees s.sees in
        record {
          sees = inr all;
          goes_on = λ more. s.next (with_done k) here more ∙ ap
              (λ (v : View S N). let w : View S N = record v { seen = q.0.seen; staging = Some (with_done (k + 1)) } in w) is;
          ends = λ e.
              let t = s.last (with_done k) here e in
              record {
                sees = all;
                finished = t.0;
                is = t.1 ∙ ap
                    (λ (v : View S N). let w : View S N = record v { seen = q.0.seen; staging = None } in w) is;
              };
        }

  -- one word more of a range was fetched
  pub fetched_more : (range : Span) (k word : ℕ) (m r q : Mine S N) (before now after : List ℕ) → k < range.len
      → Fetched terms range k m r before now → Fetches terms (range.start + k) r word q → after ≡ now ++ word ∷ []
      → Fetched terms range (k + 1) m q before after
  fetched_more range k word m r q before now after l f s push =
      record {
        moves = inr (moves_then terms m r q f.moves s.sees);
        is = s.is ∙ ap (λ (v : View S N). let w : View S N = record v { seen = q.0.seen } in w) f.is;
        words = λ words has len.
            let lt : k < length words = omega (arith, len, l) in
            let at = get_exists words k lt in
            let grown = (moves_grow terms m r f.moves).2 (record { start = range.start; words = words }) has in
            let here : word ≡ get_or words k 0 = s.found _ k at.0 grown at.1 refl ∙ sym (get_or_from_slice_get words k at.0 0 at.1) in
            push ∙ ap (λ (ws : List ℕ). ws ++ word ∷ []) (f.words words has len) ∙ append_assoc before (take k words) (word ∷ [])
            ∙ ap (λ (ws : List ℕ). before ++ ws) (ap (λ (w : ℕ). take k words ++ w ∷ []) here ∙ sym (take_more words k 0 lt));
      }

  pub no_refusal : {A : Type 0} (o : Option A) (b : Bool) → is_some o ≡ b → b ≡ false → o ≡ None
  no_refusal None b e f = refl
  no_refusal (Some x) b e f = absurd (cc)

  -- the words were taken at n and filled
  module _ (words : List ℕ) (n : ℕ) (m r q : Mine S N) (rest : m.0.staging ≡ None) (l : n + length words ≤ m.0.room)
      (a : Advances terms words m n r)
      (f : Finishes terms words n r q) where
    pub staged_sees : Sees terms m.0 q.0
    staged_sees = moves_then terms m r q (inr a.sees) f.sees

    pub staged_is : q.0 ≡ record m.0 { seen = q.0.seen; taken = m.0.taken + length words }
    staged_is =
        f.is ∙ (ap (λ (v : View S N). let w : View S N = record v { seen = q.0.seen; staging = None } in w) (a.taken l)
        ∙ ap (λ s. let w : View S N = record m.0 { seen = q.0.seen; staging = s; taken = m.0.taken + length words } in w) (sym rest))

-- ---- a run after a step on the store

past_room : (room tail count : ℕ) → room < tail + count → room < tail + min count (room + 1)
past_room room tail count above = grind arith

module _ {S N : Type 0} (terms : Terms S N) (table : TableId) (cells words count place : ℕ) (mode : Mode) (over : Option Conflict)
    (full : Bool)
    (slots : List Slot) (p q : TableSeat (Unit {0}) (View S N)) (i : Runs table cells words p slots mode count place (is_some over) full)
    (same : IsSameSeat p q) (s : Sees terms p.me.0 q.me.0) where
  module _ (o : Option (ℕ × ℕ)) (taken added : ℕ) (is : q.me.0 ≡ record p.me.0 {
    seen = q.me.0.seen;
    full = o;
    taken = taken;
    added =
        added;
  }) where
    pub store_runs : (refused : Bool) → is_some o ≡ refused → Runs table cells words q slots mode count place (is_some over) refused
    store_runs refused e =
        runs_on terms table cells words count place mode (is_some over) full slots p q i same p.me.0.seat o taken added is s.sound slots
        (is_some over)
        refused i.fits.1 refl refl i.kept refl e

    stands : Stands terms (going_of q.table_id q.me.0 place mode over slots)
    stands = stands_of terms q.table_id q.me mode count place over slots s.sound (store_runs (is_some o) refl).fits

  pub load_tells : q.me.0 ≡ record p.me.0 { seen = q.me.0.seen }
      → HasLoaded terms (going_of p.table_id p.me.0 place mode over slots) (going_of q.table_id q.me.0 place mode over slots)
  load_tells is =
      record {
        grows = s.own;
        stands = stands p.me.0.full p.me.0.taken p.me.0.added is;
        is = λ j. going_of (same.0 j) (is j) place mode over slots;
      }

  pub stage_tells : (range : List ℕ) (start : ℕ) → q.me.0 ≡ record p.me.0 { seen = q.me.0.seen; taken = p.me.0.taken + length range }
      → p.me.0.full ≡ None → start + length range ≤ p.me.0.room → Has (record { start = start; words = range }) q.me.0.seen.ranges
      → HasStaged terms range start (going_of p.table_id p.me.0 place mode over slots) (going_of q.table_id q.me.0 place mode over slots)
  stage_tells range start is unrefused inside finished =
      record {
        grows = s.own;
        stands = stands p.me.0.full (p.me.0.taken + length range) p.me.0.added is;
        unrefused = unrefused;
        inside = inside;
        finished = finished;
        is = λ j. going_of (same.0 j) (is j) place mode over slots;
      }

  pub refuse_tells : (number tail : ℕ) → p.me.0.full ≡ None → p.me.0.room < tail + number
      → q.me.0 ≡ record p.me.0 { seen = q.me.0.seen; full = Some (tail, number); added = min number (p.me.0.room + 1) }
      → FindsFull terms number tail (going_of p.table_id p.me.0 place mode over slots) (going_of q.table_id q.me.0 place mode over slots)
  refuse_tells number tail unrefused above is =
      record {
        grows = s.own;
        stands = stands (Some (tail, number)) p.me.0.taken (min number (p.me.0.room + 1)) is;
        unrefused = unrefused;
        above = above;
        past = past_room p.me.0.room tail number above;
        is = λ j. going_of (same.0 j) (is j) place mode over slots;
      }

-- ---- a run after words of a range were fetched

module _ {S N : Type 0} (terms : Terms S N) (table : TableId) (cells words count place : ℕ) (mode : Mode) (over : Option Conflict)
    (full : Bool)
    (slots : List Slot) (p q : TableSeat (Unit {0}) (View S N)) (i : Runs table cells words p slots mode count place (is_some over) full)
    (same : IsSameSeat p q) (range : Span) (before after : List ℕ) (f : Fetched terms range range.len p.me q.me before after) where
  runs_same : q.me ≡ p.me → Runs table cells words q slots mode count place (is_some over) full
  runs_same e =
      record {
        table_is = (same.0 ∙ i.table_is.0, subst (λ (m : Mine S N). cells ≡ length m.0.base) (sym e) i.table_is.1);
        room_is = subst (λ (m : Mine S N). words ≡ m.0.room) (sym e) i.room_is;
        fits = subst (λ (m : Mine S N). IsRunOf m count place (is_some over)) (sym e) i.fits;
        kept = subst (λ (m : Mine S N). IsKeptOf (noted mode m.0.seat) slots) (sym e) i.kept;
        room = subst (λ (m : Mine S N). length slots ≡ length m.0.base) (sym e) i.room;
        knows = subst (λ (m : Mine S N). KnowsStore m.0 full) (sym e) i.knows;
        bare = same.2 ∙ i.bare;
      }

  pub fetched_runs : Runs table cells words q slots mode count place (is_some over) full
  fetched_runs = ⊎_elim runs_same
      (λ s. store_runs terms table cells words count place mode over full slots p q i same s p.me.0.full p.me.0.taken
      p.me.0.added f.is full i.knows.full)
      f.moves

  pub fetch_tells : HasLoadedSome terms (going_of p.table_id p.me.0 place mode over slots)
      (going_of q.table_id q.me.0 place mode over slots)
  fetch_tells = ⊎_elim (λ e. inl (λ j. going_of (same.0 j) (e j).0 place mode over slots))
      (λ s. inr (load_tells terms table cells words count place mode over full slots p q i same s f.is)) f.moves
