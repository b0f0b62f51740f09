-- A run begins and reads, and passes learn of each other.
use Rattle.std.proofs.Common.{◌≡◌, ◌≢◌, ℕ, ◌/◌, ◌%◌, ◌<◌, ◌≤◌, inl, inr, eq-eqb, ne_eqb, nat_le, Bool, true, false, if◌then◌else◌}
use Rattle.std.proofs.Common.{◌==◌, ◌&&◌, is_some, Option, Some, None, List, ◌∷◌, length, sym, refl, ap, ◌∙◌, subst, arith}
use mathlib.Core.Logic.{dite}
use native.Mathlib.Decide.{ℕ_discrete}
use Rattle.atomic_table.specs.Seated.{TableId}
use Rattle.atomic_table.specs.declared.shared.Seat.{Seat as TableSeat}
use Rattle.tlcore.specs.History.{IsVersionOf}
use Rattle.tlcore.specs.Seats.{Seat, passes, is_reading, is_resting}
use Rattle.tlcore.specs.Machine.{in_phase, conflict, saw}
use Rattle.tlcore.specs.declared.seats.Phase.TheVariants.{Idle, Reading, Looked, Loaded}
use Rattle.ranges.specs.Ranges.{Has, Names}
use Rattle.ranges.proofs.Grown.{names_grow}
use Rattle.tlwords.specs.declared.log.Slot.{Slot}
use Rattle.tlwords.specs.declared.mode.Mode.{Mode}
use Rattle.tlwords.specs.declared.outcome.Conflict.{Conflict}
use Rattle.tlwords.specs.Terms.{Terms}
use Rattle.tlwords.specs.Seen.{Call, Agree}
use Rattle.tlwords.specs.Views.{View, untold}
use Rattle.tlwords.specs.Known.{known_of, going_of, found_of, word_told}
use Rattle.tlwords.specs.Plays.{Mine, Sees, IsSameSeat, Sampled, Refreshes, began, told_by, witness, Looks, Loads, Relooks, after_relook}
use Rattle.tlwords.specs.Runs.{HasCause, IsBlank, IsPassOf, IsRunOf, KnowsStore, Runs, word_seen}
use Rattle.tlwords.specs.Calls.{Begins, HasRead, HasStopped, Learns, Notes}
use Rattle.tlwords.proofs.Held.{le_no, le_yes}
use Rattle.tlwords.proofs.Knows.{known_setting, rest_of, left_fits, knows_of, stands_of, knows_on, runs_on, told_of}
use Rattle.tlwords.proofs.Modes.{read_kept, read_room, still_kept}
use Rattle.tlwords.proofs.Seens.{seen_trans, agree_grows}

pub if_true : {A : Type 0} (b : Bool) (x y : A) → b ≡ true → (if b then x else y) ≡ x
if_true b x y e = ap (λ (b : Bool). if b then x else y) e

pub if_false : {A : Type 0} (b : Bool) (x y : A) → b ≡ false → (if b then x else y) ≡ y
if_false b x y e = ap (λ (b : Bool). if b then x else y) e

pub passes_true : (word rv : ℕ) → word % 2 ≡ 0 → word / 2 ≤ rv → passes word rv ≡ true
passes_true word rv e l = λ j. eq-eqb (word % 2) 0 e j && le_yes (word / 2) rv l j

second_false : (a b : Bool) → b ≡ false → (a && b) ≡ false
second_false true b e = e
second_false false b e = refl

pub passes_false : (word rv : ℕ) → HasCause rv word → passes word rv ≡ false
passes_false word rv (inl e) = ap (λ (b : Bool). b && nat_le (word / 2) rv) (ne_eqb (word % 2) 0 (λ a. omega (arith, a, e)))
passes_false word rv (inr l) = second_false (word % 2 == 0) (nat_le (word / 2) rv) (le_no (word / 2) rv l)

-- ---- the three steps of a read

module _ {S N : Type 0} (terms : Terms S N) (c place : ℕ) (m0 m1 : Mine S N) (rv : m0.0.seat.rv ≡ place) (a : ℕ)
    (p : Looks terms c m0 a m1) where
  -- a look found this word and ended the run
  abbrev Stops : ℕ → Mine S N → Type 0
  Stops k r = Sees terms m0.0 r.0 × IsVersionOf r.0.seen.history c (k / 2) × HasCause place k
      × (r.0 ≡ record m0.0 { seen = r.0.seen; seat = conflict (saw m0.0.seat c k) Idle })

  -- the first look doesn't pass
  pub look_stops : HasCause place a → Stops a m1
  look_stops cause = (
    p.sees,
    p.written,
    cause,
    p.is ∙ ap (λ (t : Seat). let v : View S N = record m0.0 { seen = m1.0.seen; seat = t } in v)
        (if_false (passes a m0.0.seat.rv) (in_phase (saw m0.0.seat c a) (Looked c a)) (conflict (saw m0.0.seat c a) Idle)
        (passes_false a m0.0.seat.rv (subst (λ (n : ℕ). HasCause n a) (sym rv) cause))),
  )

  module _ (even : a % 2 ≡ 0) (low : a / 2 ≤ place) where
    looked_is : m1.0 ≡ record m0.0 { seen = m1.0.seen; seat = in_phase (saw m0.0.seat c a) (Looked c a) }
    looked_is =
        p.is ∙ ap (λ (t : Seat). let v : View S N = record m0.0 { seen = m1.0.seen; seat = t } in v)
        (if_true (passes a m0.0.seat.rv) (in_phase (saw m0.0.seat c a) (Looked c a)) (conflict (saw m0.0.seat c a) Idle)
        (passes_true a m0.0.seat.rv even (omega (arith, low, rv))))

    looked_place : m1.0.seat.phase ≡ Looked c a
    looked_place = ap (λ (v : View S N). v.seat.phase) looked_is

    module _ (m2 : Mine S N) (b : ℕ) (q : Loads terms m1 b m2) (m3 : Mine S N) (d : ℕ) (r : Relooks terms m2 d m3) where
      loaded_is : m2.0 ≡ record m0.0 { seen = m2.0.seen; seat = in_phase (saw m0.0.seat c a) (Loaded c a b) }
      loaded_is =
          q.is c a looked_place
          ∙ ap (λ (v : View S N). let u : View S N = record v { seen = m2.0.seen; seat = in_phase v.seat (Loaded c a b) } in u) looked_is

      loaded_place : m2.0.seat.phase ≡ Loaded c a b
      loaded_place = ap (λ (v : View S N). v.seat.phase) loaded_is

      relooked_is : m3.0 ≡ record m0.0 {
        seen = m3.0.seen;
        seat = after_relook (in_phase (saw m0.0.seat c a) (Loaded c a b)) c a b d;
      }
      relooked_is =
          r.is c a b loaded_place
          ∙ ap (λ (v : View S N). let u : View S N = record v
          { seen = m3.0.seen; seat = after_relook v.seat c a b d } in u) loaded_is

      sees_all : Sees terms m0.0 m3.0
      sees_all =
          record {
            own = seen_trans m0.0.seen m1.0.seen m3.0.seen p.sees.own (seen_trans m1.0.seen m2.0.seen m3.0.seen q.sees.own r.sees.own);
            told = seen_trans m0.0.told.seen m1.0.seen m3.0.seen p.sees.told
                (seen_trans m1.0.seen m2.0.seen m3.0.seen q.sees.own r.sees.own);
            sound = r.sees.sound;
          }

      -- the seat after a second look that found this word, where it passed
      abbrev reads : ℕ → Seat
      reads k =
          record (saw m0.0.seat c k) { phase = Reading; reads = record { cell = c; word = a; value = b } ∷ m0.0.seat.reads }

      pub read_steps : d ≡ a → Sees terms m0.0 m3.0
          × ((x : S) → m0.0.setting ≡ Some x → terms.ranged x c ≡ true → Names m3.0.seen.ranges b)
          × (m3.0 ≡ record m0.0 { seen = m3.0.seen; seat = reads a })
      read_steps e = (
        sees_all,
        λ x set ranged. names_grow m2.0.seen.ranges m3.0.seen.ranges b r.sees.own.2
            (q.named x c a (ap (λ (v : View S N). v.setting) looked_is ∙ set) looked_place ranged),
        relooked_is ∙ ap (λ (t : Seat). let v : View S N = record m0.0 { seen = m3.0.seen; seat = t } in v)
            (if_true (d == a) (reads d) (conflict (saw m0.0.seat c d) Idle) (eq-eqb d a e) ∙ ap reads e),
      )

      pub read_stops : d ≢ a → Stops d m3
      read_stops ne = (
        sees_all,
        r.written c a b loaded_place,
        dite (ℕ_discrete (d % 2) 0)
            (λ e. inr (subst (λ (k : ℕ). k < d / 2) (ap (λ (v : View S N). v.seat.rv) loaded_is ∙ rv)
            (r.missed c a b loaded_place ne e)))
            (λ e. inl (omega (arith, e))),
        relooked_is ∙ ap (λ (t : Seat). let v : View S N = record m0.0 { seen = m3.0.seen; seat = t } in v)
            (if_false (d == a) (reads d) (conflict (saw m0.0.seat c d) Idle) (ne_eqb d a ne)),
      )

-- ---- a run reads

reading_fits : (o : Bool) → (if o then is_resting Reading else is_reading Reading) ≡ true
reading_fits true = refl
reading_fits false = refl

module _ {S N : Type 0} (terms : Terms S N) (table : TableId) (cells words count place : ℕ) (mode : Mode) (over : Option Conflict)
    (full : Bool)
    (slots : List Slot) (p q : TableSeat (Unit {0}) (View S N)) (i : Runs table cells words p slots mode count place (is_some over) full)
    (same : IsSameSeat p q) (c word : ℕ) (s : Sees terms p.me.0 q.me.0) where
  -- the read ended under this word
  module _ (value : ℕ)
      (is : q.me.0 ≡ record p.me.0 {
        seen = q.me.0.seen;
        seat =
            record (saw p.me.0.seat c word) {
              phase = Reading;
              reads = record { cell = c; word = word; value = value } ∷
                  p.me.0.seat.reads;
            };
      })
      (after : List Slot) (n : Notes mode slots after c word) where
    abbrev t : Seat
    t = record (saw p.me.0.seat c word) { phase = Reading; reads = record { cell = c; word = word; value = value } ∷ p.me.0.seat.reads }

    pub read_runs : Runs table cells words q after mode count place (is_some over) full
    read_runs =
        runs_on terms table cells words count place mode (is_some over) full slots p q i same t p.me.0.full p.me.0.taken p.me.0.added is
        s.sound after
        (is_some over) full (reading_fits (is_some over)) refl refl
        (read_kept mode p.me.0.seat t slots after (record { cell = c; word = word; value = value }) n refl i.kept)
        (read_room mode slots after c word n) i.knows.full

    pub read_tells : word % 2 ≡ 0 → word / 2 ≤ place
        → ((x : S) → p.me.0.setting ≡ Some x → terms.ranged x c ≡ true → Names q.me.0.seen.ranges value)
        → HasRead terms c value (going_of p.table_id p.me.0 place mode over slots) (going_of q.table_id q.me.0 place mode over after)
    read_tells free below named =
        record {
          grows = s.own;
          stands = stands_of terms q.table_id q.me mode count place over after s.sound read_runs.fits;
          word = word;
          free = free;
          below = below;
          named = named;
          notes = n;
          is = λ j. going_of (same.0 j) (is j) place mode over after;
        }

  -- a look found this word, and the run is over
  module _ (is : q.me.0 ≡ record p.me.0 { seen = q.me.0.seen; seat = conflict (saw p.me.0.seat c word) Idle }) where
    pub stop_runs : Runs table cells words q slots mode count place true full
    stop_runs =
        runs_on terms table cells words count place mode (is_some over) full slots p q i same (conflict (saw p.me.0.seat c word) Idle)
        p.me.0.full
        p.me.0.taken p.me.0.added is s.sound slots true full refl refl refl
        (still_kept mode p.me.0.seat (conflict (saw p.me.0.seat c word) Idle) slots refl i.kept) refl i.knows.full

    pub stop_tells : (before : Option ℕ) → IsVersionOf q.me.0.seen.history c (word / 2) → HasCause place word → word_seen slots c ≡ before
        → HasStopped terms c (record { cell = c; word = word; before = before }) (going_of p.table_id p.me.0 place mode over slots)
        (going_of q.table_id q.me.0 place mode (Some (record { cell = c; word = word; before = before })) slots)
    stop_tells before found cause seen =
        let k : Conflict = record { cell = c; word = word; before = before } in
        record {
          grows = s.own;
          stands = stands_of terms q.table_id q.me mode count place (Some k) slots s.sound stop_runs.fits;
          cell_is = refl;
          finds = record {
            looked = ap (λ (v : View S N). v.seat.looked) is;
            written = found;
            before = seen;
            told = sym seen ∙ (told_of mode p.me.0.seat slots c i.kept
                ∙ ap (λ (v : View S N). word_told mode c (found_of v.seat.reads)) (sym is));
          };
          cause = cause;
          is = λ j. going_of (same.0 j) (is j) place mode (Some k) slots;
        }

module _ {S N : Type 0} (terms : Terms S N) where
  -- ---- a run begins

  pub begun_fits : (m : Mine S N) (n : ℕ) (r : Mine S N) (count : ℕ) → Sampled terms m n r → IsPassOf m count → IsRunOf r count n false
  begun_fits m n r count t f =
      subst (λ (v : View S N). IsRunOf {S = S} {N = N} (v, r.1) count n false) (sym t.is) (f.0, refl, f.2, f.3, f.4, refl, refl)

  pub begun_knows : (m r : Mine S N) (n : ℕ) (o : Bool) → Sampled terms m n r → is_some m.0.setting ≡ true → KnowsStore m.0 o
      → KnowsStore r.0 o
  begun_knows m r n o t set k =
      knows_on terms m.0 r.0 o o t.sees.sound (ap (λ (v : View S N). is_some v.setting) t.is ∙ set) (ap (λ (v : View S N). rest_of v) t.is)
      (ap (λ (v : View S N). is_some v.full) t.is ∙ k.full) k

  pub begun_at : (m : Mine S N) (n : ℕ) (r : Mine S N) → Sampled terms m n r → length m.0.seen.history ≤ n
  begun_at m n r t =
      let a : length m.0.seen.history ≤ length r.0.seen.history = t.sees.own.0.0 in
      let b : length r.0.seen.history ≡ n = t.clock in
      omega (arith, a, b)

  pub begin_tells : (table later : TableId) (m r : Mine S N) (mode : Mode) (count place : ℕ) (slots : List Slot) → later ≡ table
      → Sampled terms m place r → IsRunOf r count place false → IsBlank slots → length slots ≡ length m.0.base
      → Begins terms mode (known_of table m.0) (going_of later r.0 place mode None slots)
  begin_tells table later m r mode count place slots e t f blank size =
      record {
        grows = t.sees.own;
        stands = stands_of terms later r mode count place None slots t.sees.sound f;
        clock = t.clock;
        blank = blank;
        size = size;
        is = λ j. going_of (e j) (t.is j) place mode None slots;
      }

  -- ---- passes learn of each other

  pub learned_fits : (m0 m1 m2 : Mine S N) (u : View S N) (n count : ℕ) → m1 ≡ (told_by m0.0 u, m0.1) → Sampled terms m1 n m2
      → IsPassOf m0 count → IsPassOf m2 count
  learned_fits m0 m1 m2 u n count a p f =
      left_fits terms m2 count n false (begun_fits m1 n m2 count p (subst (λ (m : Mine S N). IsPassOf m count) (sym a) f))

  pub learned_knows : (m0 m1 m2 : Mine S N) (u : View S N) (n : ℕ) (o : Bool) → m1 ≡ (told_by m0.0 u, m0.1) → Sampled terms m1 n m2
      → is_some m0.0.setting ≡ true → KnowsStore m0.0 o → KnowsStore m2.0 o
  learned_knows m0 m1 m2 u n o a p set k =
      begun_knows m1 m2 n o p (ap (λ (m : Mine S N). is_some m.0.setting) a ∙ set)
      (subst (λ (m : Mine S N). KnowsStore m.0 o) (sym a)
      (record { at_rest = k.at_rest; alone = k.alone; full = k.full; ranges = k.ranges }))

  pub refreshed_fits : (m0 m1 m2 : Mine S N) (count : ℕ) → Refreshes terms m0 m1 → m2 ≡ m1 → IsPassOf m0 count → IsPassOf m2 count
  refreshed_fits m0 m1 m2 count q a f =
      subst (λ (m : Mine S N). IsPassOf m count) (sym a) (subst (λ (v : View S N). IsPassOf {S = S} {N = N} (v, m1.1) count) (sym q.is) f)

  pub refreshed_knows : (m0 m1 m2 : Mine S N) (o : Bool) → Refreshes terms m0 m1 → m2 ≡ m1 → is_some m0.0.setting ≡ true
      → KnowsStore m0.0 o → KnowsStore m2.0 o
  refreshed_knows m0 m1 m2 o q a set k =
      subst (λ (m : Mine S N). KnowsStore m.0 o) (sym a)
      (knows_on terms m0.0 m1.0 o o q.sees.sound (ap (λ (v : View S N). is_some v.setting) q.is ∙ set)
      (ap (λ (v : View S N). rest_of v) q.is) (ap (λ (v : View S N). is_some v.full) q.is ∙ k.full) k)

  pub learn_tells : (t u later_t later_u : TableId) (m0 u0 u1 m1 u2 m2 : Mine S N) (i n k : ℕ) → later_t ≡ t → later_u ≡ u
      → IsPassOf m0 n → IsPassOf u0 k → Refreshes terms u0 u1 → m1 ≡ (told_by m0.0 (witness u1.0), m0.1) → u2 ≡ u1 → Sampled terms m1 i m2
      → Learns terms (known_of t m0.0) (known_of u u0.0) (known_of later_t m2.0) (known_of later_u u2.0)
  learn_tells t u later_t later_u m0 u0 u1 m1 u2 m2 i n k e f fits rests q a b p =
      let s : Sampled terms (told_by m0.0 (witness u1.0), m0.1) i m2 = subst (λ (m : Mine S N). Sampled terms m i m2) a p in
      let y : (y : S) × (u0.0.setting ≡ Some y) = known_setting u0.0.setting rests.0 in
      let there : u1.0.setting ≡ Some y.0 = ap (λ (v : View S N). v.setting) q.is ∙ y.1 in
      subst (λ (z : Mine S N). Learns terms (known_of t m0.0) (known_of u u0.0) (known_of later_t m2.0) (known_of later_u z.0)) (sym b)
      (record {
        own = s.sees.own;
        told = seen_trans u0.0.seen u1.0.seen m2.0.seen q.sees.own s.sees.told;
        other = q.sees.own;
        calls = λ x set.
            let z : (x ≡ y.0) × (m0.0.base ≡ u1.0.base) = s.same x y.0 set there in
            subst (λ (cs : List (Call N)). Agree terms x m0.0.base m2.0.seen cs) (ap (λ (v : View S N). v.mine) q.is)
            (subst (λ (k : S × List ℕ). Agree terms k.0 k.1 m2.0.seen u1.0.mine) (λ j. (sym z.0 j, sym z.1 j))
            (agree_grows terms y.0 u1.0.base u1.0.seen m2.0.seen u1.0.mine s.sees.told (q.sees.sound.mine y.0 there)));
        knows = knows_of terms later_t m2 n s.sees.sound (learned_fits m0 m1 m2 (witness u1.0) i n a p fits);
        other_knows = knows_of terms later_u u1 k q.sees.sound (refreshed_fits u0 u1 u1 k q refl rests);
        apart = subst (λ (v : View S N). m0.0.name ≢ v.name → (k : ℕ) → Has k m0.0.drawn → Has k v.drawn → ⊥) q.is s.apart;
        same = subst (λ (v : View S N). (x y : S) → m0.0.setting ≡ Some x → v.setting ≡ Some y → (x ≡ y) × (m0.0.base ≡ v.base)) q.is
            s.same;
        is = λ j. known_of (e j) ((s.is ∙ ap (λ (k : ℕ). let w : View S N = record m0.0 {
          seen = m2.0.seen;
          seat = began m0.0.seat k;
          told = untold;
        } in w) (sym s.clock)) j);
        other_is = λ j. known_of (f j) (q.is j);
      })
