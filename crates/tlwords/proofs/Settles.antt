-- A commit that is to write something: its parts put together.
use Rattle.std.proofs.Common.{◌≡◌, ◌≢◌, ℕ, suc, ◌+◌, ◌*◌, ◌/◌, ◌<◌, ◌≤◌, ◌^◌, ◌⊎◌, inl, inr, ⊎_elim, Bool, true, false, if◌then◌else◌}
use Rattle.std.proofs.Common.{is_some, Option, Some, None, List, [], ◌∷◌, ◌++◌, length, sym, refl, ap, ◌∙◌, subst, arith}
use Rattle.atomic_table.specs.declared.shared.Seat.{Seat as TableSeat}
use Rattle.tlcore.specs.Seats.{Seat, is_nil, reads_of, writes_of}
use Rattle.tlcore.specs.Machine.{in_phase, conflict}
use Rattle.tlcore.proofs.Growth.{WasWritten-kept}
use Rattle.tlcore.proofs.Lists.{known, length-append_one}
use Rattle.tlcore.proofs.SeatParts.{is_nil-nil}
use Rattle.tlcore.specs.declared.seats.Held.{Held}
use Rattle.tlcore.specs.declared.seats.Read.{Read}
use Rattle.tlcore.specs.declared.seats.Phase.{Phase}
use Rattle.tlcore.specs.declared.seats.Phase.TheVariants.{Idle, Taking, Reading, Checking, Storing, Voiding}
use Rattle.ranges.specs.Pairs.{Pairs, written}
use Rattle.tlwords.specs.declared.log.Log.{Log}
use Rattle.tlwords.specs.declared.log.Slot.{Slot}
use Rattle.tlwords.specs.declared.mode.Mode.TheVariants.{Writing}
use Rattle.tlwords.specs.declared.outcome.Conflict.{Conflict}
use Rattle.tlwords.specs.declared.outcome.Outcome.TheVariants.{Committed as EndsDone, Conflict as EndsConflict}
use Rattle.tlwords.specs.declared.words.Words.{Words}
use Rattle.tlwords.specs.Terms.{Terms, Permits}
use Rattle.tlwords.specs.Seen.{Work, Committed, IsDone}
use Rattle.tlwords.specs.Views.{View}
use Rattle.tlwords.specs.Known.{Going, Knows, known_of, going_of, found_of}
use Rattle.tlwords.specs.Plays.{Mine, Sees, IsSameSeat, Draws}
use Rattle.tlwords.specs.Runs.{value_kept, IsKeptOf, IsRunOf, HasCause}
use Rattle.tlwords.specs.Commits.{writes_kept, writes_below, cells_of, cells_locked, work_kept}
use Rattle.tlwords.specs.Calls.{Ends, HasNoEntry, IsLawful}
use Rattle.tlwords.specs.Committing.{held_in, holding, locking, Goes, Meets, FailsToTake, FailsTheCheck, Passes, StoresTo, Releasing}
use Rattle.tlwords.specs.Walks.{IsPlan}
use Rattle.tlwords.specs.Committing.{IsPlanned, ReleasesAll, Concludes}
use Rattle.tlwords.proofs.Seens.{done_grows, permits_grow}
use Rattle.tlwords.proofs.Held.{held_cell, held_find, held_writes}
use Rattle.tlwords.proofs.Knows.{concludes, told_of}
use Rattle.tlwords.proofs.Logs.{kept_same}
use Rattle.tlwords.proofs.Turns.{moves_then, moves_grow, sees_on, goes_start, goes_seat, seated_on}
use Rattle.tlwords.proofs.Releases.{nil_not}

-- ---- the plan stands as the run goes on

pub plan_same : (l k : Log) → k.slots ≡ l.slots → k.writes ≡ l.writes → IsPlan l.slots true l.writes.items → IsPlan k.slots true
    k.writes.items
plan_same l k e f p = subst (λ s. IsPlan s true k.writes.items) (sym e) (subst (λ w. IsPlan l.slots true w.items) (sym f) p)

pub planned_on : {L S N : Type 0} (words : Words L S N) (p q : TableSeat (Unit {0}) (View S N)) (a b : Log) → IsPlanned words p a
    → IsSameSeat p q → q.me.0.setting ≡ p.me.0.setting → length q.me.0.base ≡ length p.me.0.base
    → q.me.0.seat.reads ≡ p.me.0.seat.reads → b.slots ≡ a.slots → b.writes ≡ a.writes → IsPlanned words q b
planned_on words p q a b planned same set size reads slots writes =
    record {
      seated = seated_on words p q planned.seated same set size;
      cells = ap length slots ∙ planned.cells;
      kept = subst (λ (s : List Slot). IsKeptOf q.me.0.seat s) (sym slots)
          (kept_same p.me.0.seat q.me.0.seat a.slots reads planned.kept);
      plan = plan_same a b slots writes planned.plan;
    }

module _ {L S N : Type 0} (terms : Terms S N) (words : Words L S N) where
  pub planned_goes : (p q : TableSeat (Unit {0}) (View S N)) (t : Seat) (a b : Log) → IsPlanned words p a → IsSameSeat p q
      → Goes terms p.me t q.me → t.reads ≡ p.me.0.seat.reads → b.slots ≡ a.slots → b.writes ≡ a.writes → IsPlanned words q b
  planned_goes p q t a b planned same g reads =
      planned_on words p q a b planned same (ap (λ (v : View S N). v.setting) g.is) (ap (λ (v : View S N). length v.base) g.is)
      (ap (λ (v : View S N). v.seat.reads) g.is ∙ reads)

  pub planned_drawn : (p q : TableSeat (Unit {0}) (View S N)) (x : N) (n : ℕ) (a : Log) → IsPlanned words p a → IsSameSeat p q
      → Draws terms (Some x) p.me n q.me → IsPlanned words q a
  planned_drawn p q x n a planned same d =
      let e = d.is x refl in
      planned_on words p q a a planned same (ap (λ (v : View S N). v.setting) e) (ap (λ (v : View S N). length v.base) e)
      (ap (λ (v : View S N). v.seat.reads) e) refl refl

  pub planned_stored : (slots : List Slot) (p q : TableSeat (Unit {0}) (View S N)) (i low : ℕ) (w : Work N) (a : Log) → IsPlanned words p a
      → IsSameSeat p q → StoresTo terms slots i w low p.me q.me → IsPlanned words q a
  planned_stored slots p q i low w a planned same s =
      planned_on words p q a a planned same (ap (λ (v : View S N). v.setting) s.is) (ap (λ (v : View S N). length v.base) s.is)
      (ap (λ (v : View S N). v.seat.reads) s.is) refl refl

module _ (slots : List Slot) where
  pub some_writes : (c v : ℕ) → c < length slots → value_kept slots c ≡ Some v → writes_kept slots ≢ []
  some_writes c v l e p =
      let full : is_nil (held_in slots 0 0 (length slots)) ≡ false =
      nil_not c (held_in slots 0 0 (length slots)) (held_cell slots 0 c v) (held_find slots 0 0 (length slots) c v (omega arith) l e) in
      empty (held_in slots 0 0 (length slots)) full (held_writes slots 0 (length slots) ∙ p)
    where
      empty : (ks : List Held) → is_nil ks ≡ false → writes_of ks ≡ [] → ⊥
      empty [] f e = let a : true ≡ false = f in cc
      empty (k ∷ ks) f e = cc

  pub some_held : (d : ℕ) → writes_kept slots ≢ [] → is_nil (held_in slots d 0 (length slots)) ≡ false
  some_held d some = ⊎_elim
      (λ (p : is_nil (held_in slots d 0 (length slots)) ≡ true). absurd
      (some (sym (held_writes slots d (length slots)) ∙ ap writes_of (is_nil-nil (held_in slots d 0 (length slots)) p))))
      (λ (p : is_nil (held_in slots d 0 (length slots)) ≡ false). p) (known (is_nil (held_in slots d 0 (length slots))))

holds : (t : Seat) (p : Phase) (ks : List Held) → t.phase ≡ p → t.held ≡ ks → is_nil ks ≡ false → t ≡ holding t p Idle ks
holds t p ks e f n =
    λ j. let z : Seat = record t { phase = (e ∙ sym (ap (λ (b : Bool). if b then Idle else p) n)) j; held = f j } in z

one_more : (ns : List ℕ) (n : ℕ) → length (ns ++ n ∷ []) ≡ length ns + 1
one_more ns n = let e : length (ns ++ n ∷ []) ≡ suc (length ns) = length-append_one ns n in omega (arith, e)

-- the seat of a run that is over, once it has locked these cells, after this last look
abbrev over_seat : Seat → Bool → List ℕ → Option (ℕ × ℕ) → Seat
over_seat t conflicted cells looked =
    record t { phase = Idle; held = []; conflicted = conflicted; locked = cells ++ t.locked; looked = looked }

-- a view whose run has ended with this work in the entry at n
abbrev ended : {S N : Type 0} → Mine S N → ℕ → Work N → View S N → View S N
ended u n w v = record v {
  seen = u.0.seen;
  seat = record v.seat { phase = Idle; held = []; looked = u.0.seat.looked };
  mine = v.mine ++ Committed (suc n) w ∷ [];
}

module _ {S N : Type 0} (terms : Terms S N) (slots : List Slot) (x : N) (p : TableSeat (Unit {0}) (View S N)) (count place : ℕ)
    (fits : IsRunOf p.me count place false) (kept : IsKeptOf p.me.0.seat slots) (some : writes_kept slots ≢ []) where
  abbrev m : Mine S N
  m = p.me

  abbrev g : Going S N
  g = going_of p.table_id p.me.0 place Writing None slots

  -- all that it is to lock
  abbrev all : List Held
  all = held_in slots 0 0 (length slots)

  -- what a look found is found still when the locks are given back
  meets_on : (k : Conflict) (r s : Mine S N) → ReleasesAll terms r s → Meets terms slots k r → Meets terms slots k s
  meets_on k r s back f =
      record {
        looked = back.looked ∙ f.looked;
        written = WasWritten-kept r.0.seen.history s.0.seen.history k.cell (k.word / 2) (moves_grow terms r s back.goes.moves).0 f.written;
        before = f.before;
      }

  rejected : (q : TableSeat (Unit {0}) (View S N)) → Sees terms m.0 q.me.0 → (k : Conflict) (drawn : Option ℕ) → Meets terms slots k q.me
      → q.me.0.seat.reads ≡ m.0.seat.reads → is_some k.before ≡ true
      → HasCause m.0.seat.rv k.word ⊎ ((w : ℕ) × (k.before ≡ Some w) × (w ≢ k.word))
      → HasNoEntry terms (cells_locked slots k drawn) drawn (known_of p.table_id m.0) (known_of q.table_id q.me.0)
      → Knows terms (known_of q.table_id q.me.0) → Ends terms x g (known_of q.table_id q.me.0) (EndsConflict k drawn)
  rejected q s k drawn f same read cause entry knows = (
    some,
    record {
      grows = s.own;
      knows = knows;
      finds = record {
        looked = f.looked;
        written = f.written;
        before = f.before;
        told = sym f.before ∙ (told_of Writing m.0.seat slots k.cell kept
            ∙ ap (λ (rs : List Read). written k.cell (found_of rs)) (sym same));
      };
      read = read;
      cause = subst (λ (n : ℕ). HasCause n k.word ⊎ ((w : ℕ) × (k.before ≡ Some w) × (w ≢ k.word))) fits.5 cause;
      entry = entry;
    },
  )

  -- ---- a take failed

  module _ (k : Conflict) (r : Mine S N) (f : FailsToTake terms slots k m r) where
    pub failed_ends : (q : TableSeat (Unit {0}) (View S N)) → IsSameSeat p q → ReleasesAll terms r q.me
        → Concludes terms x Writing place slots count p q (EndsConflict k None)
    failed_ends q same back =
        let s : Sees terms m.0 q.me.0 = sees_on terms m r q.me f.sees back.goes.moves in
        let t : Seat = over_seat m.0.seat true (cells_of (writes_below slots k.cell)) q.me.0.seat.looked in
        let is : q.me.0 ≡ record m.0 { seen = q.me.0.seen; seat = t } =
        back.goes.is ∙ (ap (λ (v : View S N). let w : View S N =
        record v { seen = q.me.0.seen; seat = record v.seat { phase = Idle; held = []; looked = q.me.0.seat.looked } } in w) f.goes.is
        ∙ ap (λ (ps : Pairs). let w : View S N =
        record m.0 { seen = q.me.0.seen; seat = over_seat m.0.seat true (cells_of ps) q.me.0.seat.looked } in w)
        (held_writes slots 0 k.cell)) in
        concludes terms Writing slots x p q same count place count fits s t m.0.note m.0.drawn m.0.mine is refl fits.3 fits.4
        (EndsConflict k None)
        (rejected q s k None (meets_on k r q.me back f.meets) (ap (λ (v : View S N). v.seat.reads) is) (ap is_some f.differs.1)
        (inr f.differs)
        (λ j. known_of (same.0 j) (is j)))

  -- ---- all locks were taken

  module _ (l : Mine S N) (a : Goes terms m (locking m.0.seat Taking Reading all) l) where
    taken_seat : l.0.seat ≡ record (locking m.0.seat Taking Reading all) { looked = l.0.seat.looked }
    taken_seat = goes_seat terms m l (locking m.0.seat Taking Reading all) a

    pub taken_place : l.0.seat.phase ≡ Taking
    taken_place = ap (λ (t : Seat). t.phase) taken_seat ∙ ap (λ (b : Bool). if b then Reading else Taking) (some_held slots 0 some)

    pub taken_writes : writes_of l.0.seat.held ≡ writes_kept slots
    taken_writes = ap (λ (t : Seat). writes_of t.held) taken_seat ∙ held_writes slots 0 (length slots)

    pub taken_lawful : IsLawful terms g x → (y : S) → l.0.setting ≡ Some y
        → Permits terms y l.0.seen.ranges (reads_of l.0.seat.reads) (writes_of l.0.seat.held) x
    taken_lawful law y e =
        subst (λ (ws : Pairs). Permits terms y l.0.seen.ranges (reads_of l.0.seat.reads) ws x) (sym taken_writes)
        (subst (λ (t : Seat). Permits terms y l.0.seen.ranges (reads_of t.reads) (writes_kept slots) x) (sym taken_seat)
        (permits_grow terms y m.0.seen.ranges l.0.seen.ranges (moves_grow terms m l a.moves).2
        (law y (ap (λ (v : View S N). v.setting) (sym a.is) ∙ e))))

    -- ---- a number was drawn

    module _ (r : Mine S N) (n : ℕ) (d : Draws terms (Some x) l n r) where
      drawn_is : r.0 ≡ record m.0 {
        seen = r.0.seen;
        seat = record (locking m.0.seat Taking Reading all) { phase = Checking n 0; looked = l.0.seat.looked };
        note = Some x;
        drawn = m.0.drawn ++ suc n ∷ [];
      }
      drawn_is = d.is x refl ∙ ap (λ (v : View S N). let w : View S N =
          record v { seen = r.0.seen; seat = in_phase v.seat (Checking n 0); note = Some x; drawn = v.drawn ++ suc n ∷ [] } in w) a.is

      drawn_seat : r.0.seat ≡ record (locking m.0.seat Taking Reading all) { phase = Checking n 0; looked = l.0.seat.looked }
      drawn_seat = ap (λ (v : View S N). v.seat) drawn_is

      sees_drawn : Sees terms m.0 r.0
      sees_drawn = moves_then terms m l r a.moves d.sees

      later : length m.0.seen.history ≤ n
      later =
          let b : length m.0.seen.history ≤ length l.0.seen.history = (moves_grow terms m l a.moves).0.0 in
          let c : length l.0.seen.history ≤ n = d.later in
          omega (arith, b, c)

      many : (number : ℕ) → length (m.0.drawn ++ number ∷ []) ≡ count + 1
      many number = one_more m.0.drawn number ∙ ap (λ (n : ℕ). n + 1) fits.3

      -- the check failed
      module _ (k : Conflict) (s : Mine S N) (f : FailsTheCheck terms slots n k r s) where
        failed_seat : s.0.seat ≡ record (conflict r.0.seat (Voiding n)) { looked = s.0.seat.looked }
        failed_seat = goes_seat terms r s (conflict r.0.seat (Voiding n)) f.goes

        pub void_releases : (high : ℕ) → high ≡ length slots → Releasing terms slots high None 0 s s
        void_releases high same =
            let full : is_nil (held_in slots 0 0 high) ≡ false = ap (λ (h : ℕ). is_nil (held_in slots 0 0 h)) same ∙ some_held slots 0
            some in
            let h : s.0.seat.held ≡ held_in slots 0 0 high =
            ap (λ (t : Seat). t.held) failed_seat ∙ (ap (λ (t : Seat). t.held) drawn_seat ∙ sym (ap (held_in slots 0 0) same)) in
            let start : s.0.seat ≡ holding s.0.seat (Voiding n) Idle (held_in slots 0 0 high) =
            holds s.0.seat (Voiding n) (held_in slots 0 0 high) (ap (λ (t : Seat). t.phase) failed_seat) h full in
            record {
              phase = Voiding n;
              done = 0;
              gives = inl (refl, inr (n, refl));
              start = start;
              goes = goes_start terms s (holding s.0.seat (Voiding n) Idle (held_in slots 0 0 high)) (sym start);
              looked = refl;
              void = λ i e. inl refl;
            }

        pub void_ends : (q : TableSeat (Unit {0}) (View S N)) → IsSameSeat p q → ReleasesAll terms s q.me → (number : ℕ) → number ≡ suc n
            → count < 2 ^ 40 → Concludes terms x Writing place slots (count + 1) p q (EndsConflict k (Some number))
        void_ends q same back number number_is more =
            let z : Sees terms m.0 q.me.0 = sees_on terms m s q.me (sees_on terms m r s sees_drawn f.goes.moves) back.goes.moves in
            let t : Seat = over_seat m.0.seat true (cells_of (writes_kept slots)) q.me.0.seat.looked in
            let ds : List ℕ = m.0.drawn ++ number ∷ [] in
            let is : q.me.0 ≡ record m.0 { seen = q.me.0.seen; seat = t; note = Some x; drawn = ds } =
            back.goes.is ∙ (ap (λ (v : View S N). let w : View S N =
            record v { seen = q.me.0.seen; seat = record v.seat { phase = Idle; held = []; looked = q.me.0.seat.looked } } in w) f.goes.is
            ∙ (ap (λ (v : View S N). let w : View S N =
            record v { seen = q.me.0.seen; seat = over_seat v.seat true [] q.me.0.seat.looked } in w) drawn_is
            ∙ (λ j. let w : View S N = record m.0 {
              seen = q.me.0.seen;
              seat = over_seat m.0.seat true (cells_of (held_writes slots 0 (length slots) j)) q.me.0.seat.looked;
              note = Some x;
              drawn = m.0.drawn ++ sym number_is j ∷ [];
            } in w))) in
            concludes terms Writing slots x p q same count place (count + 1) fits z t (Some x) ds m.0.mine is refl (many number)
            (omega (arith, more))
            (EndsConflict k (Some number))
            (rejected q z k (Some number) (meets_on k s q.me back f.meets) (ap (λ (v : View S N). v.seat.reads) is) f.read
            (inl (subst (λ (t : Seat). HasCause t.rv k.word) drawn_seat f.cause)) (
              n,
              number_is,
              later,
              back.void n (ap (λ (t : Seat). t.phase) failed_seat),
              λ j. known_of (same.0 j) (is j),
            ))

      -- the check passed
      module _ (s : Mine S N) (b : Passes terms n r s) where
        passed_seat : s.0.seat ≡ record (in_phase r.0.seat (Checking n b.upto)) { looked = s.0.seat.looked }
        passed_seat = goes_seat terms r s (in_phase r.0.seat (Checking n b.upto)) b.goes

        passed_reads : s.0.seat.reads ≡ m.0.seat.reads
        passed_reads = ap (λ (t : Seat). t.reads) passed_seat ∙ ap (λ (t : Seat). t.reads) drawn_seat

        module _ (z : Mine S N) (c : StoresTo terms slots n (work_kept s.0.seat slots x) (length slots) s z) where
          pub done_releases : (high w : ℕ) → high ≡ length slots → w ≡ 2 * suc n → Releasing terms slots high (Some w) 0 z z
          done_releases high w same new =
              let full : is_nil (held_in slots high 0 high) ≡ false =
              ap (λ (h : ℕ). is_nil (held_in slots h 0 h)) same ∙ some_held slots (length slots) some in
              let h : z.0.seat.held ≡ held_in slots high 0 high =
              ap (λ (v : View S N). v.seat.held) c.is ∙ sym (ap (λ (h : ℕ). held_in slots h 0 h) same) in
              let start : z.0.seat ≡ holding z.0.seat (Storing n) Idle (held_in slots high 0 high) =
              holds z.0.seat (Storing n) (held_in slots high 0 high) (ap (λ (v : View S N). v.seat.phase) c.is) h full in
              record {
                phase = Storing n;
                done = high;
                gives = inr (refl, (n, refl, ap (λ (w : ℕ). Some w) new));
                start = start;
                goes = goes_start terms z (holding z.0.seat (Storing n) Idle (held_in slots high 0 high)) (sym start);
                looked = refl;
                void = λ i e. inl refl;
              }

          pub done_ends : (q : TableSeat (Unit {0}) (View S N)) → IsSameSeat p q → ReleasesAll terms z q.me → (number : ℕ) → number ≡ suc n
              → count < 2 ^ 40 → Concludes terms x Writing place slots (count + 1) p q (EndsDone number)
          done_ends q same back number number_is more =
              let y : Sees terms m.0 q.me.0 =
              sees_on terms m z q.me (moves_then terms m s z (inr (sees_on terms m r s sees_drawn b.goes.moves)) c.sees) back.goes.moves in
              let t : Seat = over_seat m.0.seat m.0.seat.conflicted (cells_of (writes_kept slots)) q.me.0.seat.looked in
              let ds : List ℕ = m.0.drawn ++ number ∷ [] in
              let is : q.me.0 ≡ record m.0 {
                seen = q.me.0.seen;
                seat = t;
                note = Some x;
                drawn = ds;
                mine = m.0.mine ++ Committed number (work_kept m.0.seat slots x) ∷ [];
              } =
              back.goes.is ∙ (ap (λ (v : View S N). let w : View S N =
              record v { seen = q.me.0.seen; seat = record v.seat { phase = Idle; held = []; looked = q.me.0.seat.looked } } in w) c.is
              ∙ (ap (ended q.me n (work_kept s.0.seat slots x)) b.goes.is ∙ (ap (ended q.me n (work_kept s.0.seat slots x)) drawn_is
              ∙ (λ j. let w : View S N = record m.0 {
                seen = q.me.0.seen;
                seat = over_seat m.0.seat m.0.seat.conflicted (cells_of (held_writes slots 0 (length slots) j)) q.me.0.seat.looked;
                note = Some x;
                drawn = m.0.drawn ++ sym number_is j ∷ [];
                mine = m.0.mine ++ Committed (sym number_is j) (same_work j) ∷ [];
              } in w)))) in
              concludes terms Writing slots x p q same count place (count + 1) fits y t (Some x) ds
              (m.0.mine ++ Committed number (work_kept m.0.seat slots x) ∷ []) is refl (many number) (omega (arith, more))
              (EndsDone number) (λ knows. (
                some,
                record {
                  grows = y.own;
                  knows = knows;
                  index = n;
                  number_is = number_is;
                  later = later;
                  done = subst (λ (w : Work N). IsDone q.me.0.seen n w) same_work
                      (done_grows z.0.seen q.me.0.seen n (work_kept s.0.seat slots x) (moves_grow terms z q.me back.goes.moves) c.done);
                  is = λ j. known_of (same.0 j) (is j);
                },
              ))
            where
              same_work : work_kept s.0.seat slots x ≡ work_kept m.0.seat slots x
              same_work = λ j. record { reads = reads_of (passed_reads j); writes = writes_kept slots; note = x }
