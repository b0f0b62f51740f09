-- The events that change no word: begin, look, load, relook and check, and conflicts. Each keeps what the parts say of each other.
use Rattle.std.proofs.Common.{Bool, List, None, Option, Some, [], ap, arith, false, inl, inr, length, nat_le, nat_lt, not, refl, slice_get}
use Rattle.std.proofs.Common.{subst, suc, sym, true, ℕ, ◌*◌, ◌<◌, ◌==◌, ◌||◌, ◌∙◌, ◌∷◌, ◌≡◌, ◌≤◌, ◌⊎◌}
use Rattle.tlcore.specs.History.{Done, WordsEntry, IsOne, Open, Will, deed, value, version}
use Rattle.tlcore.specs.Seats.{Checking, Held, Idle, Loaded, Looked, Phase, Read, Reading, Seat, Voiding, find_held, is_due, is_held}
use Rattle.tlcore.specs.Seats.{is_settled, number_at, passes, settled_below}
use Rattle.tlcore.specs.Machine.{Cell, World, begun, conflict, in_phase, saw, with_seat}
use Rattle.tlcore.specs.Invariant.{CheckingOk, Consistent, HeldOk, HeldShows, IsOld, PhaseOk, ReadsOk, SeatOk, SettledOk, done_at}
use Rattle.tlcore.proofs.AfterEvent.{Consistent-seat}
use Rattle.tlcore.proofs.Lists.{at_most_numbers, both_left, both_right, equal_numbers, get_within, less_numbers, one_of}
use Rattle.tlcore.proofs.SeatParts.{free_is_one, one_on, passes-old}

-- a seat that holds nothing
pub empty_held : (ks : List Held) → ks ≡ [] → (c : ℕ) (k : Held) → find_held c ks ≡ Some k → ⊥
empty_held ks e c k f = let g : find_held c [] ≡ Some k = rw e at f in cc

pub seat_empty : (o : List ℕ) (xs : List Cell) (h : List WordsEntry) (t : Seat) → PhaseOk o xs h t t.phase → t.rv ≤ length h
    → ReadsOk o h t.rv t.reads → t.held ≡ [] → SeatOk o xs h t
seat_empty o xs h t p l r e =
    record { phase = p; rv = l; reads = r; held = λ c k f. absurd (empty_held t.held e c k f) }

-- a seat that holds nothing and has no number goes on to such a seat
pub Consistent-empty : (o : List ℕ) (w : World) (s : ℕ) (t z : Seat) → Consistent o w → slice_get w.seats s ≡ Some t
    → SeatOk o w.cells w.history z → z.held ≡ [] → number_at z.phase ≡ None → Consistent o (with_seat w s z)
Consistent-empty o w s t z I e ok n m =
    Consistent-seat o w s t z I e ok (λ c k f. absurd (empty_held z.held n c k f)) (λ i f. absurd (no_number i f))
  where
    no_number : (i : ℕ) → number_at z.phase ≡ Some i → ⊥
    no_number i f = cc

-- begin
pub begin_keeps : (o : List ℕ) (w : World) (s : ℕ) (t : Seat) → Consistent o w → slice_get w.seats s ≡ Some t
    → Consistent o (with_seat w s (begun w t))
begin_keeps o w s t I e =
    Consistent-empty o w s t (begun w t) I e
    (seat_empty o w.cells w.history (begun w t) refl (omega (arith, I.clock)) tt refl)
    refl refl

-- a conflict where nothing is held
pub conflict_keeps : (o : List ℕ) (w : World) (s : ℕ) (t : Seat) (c word : ℕ) → Consistent o w → slice_get w.seats s ≡ Some t
    → t.held ≡ [] → Consistent o (with_seat w s (conflict (saw t c word) Idle))
conflict_keeps o w s t c word I e n =
    let q : SeatOk o w.cells w.history t = I.seats s t e in
    Consistent-empty o w s t (conflict (saw t c word) Idle) I e
    (seat_empty o w.cells w.history (conflict (saw t c word) Idle) n q.rv q.reads n)
    n refl

-- a look that passes
pub looked_keeps : (o : List ℕ) (w : World) (s : ℕ) (t : Seat) (c : ℕ) (x : Cell) → Consistent o w → slice_get w.seats s ≡ Some t
    → t.held ≡ [] → slice_get w.cells c ≡ Some x → passes x.lock t.rv ≡ true
    → Consistent o (with_seat w s (in_phase (saw t c x.lock) (Looked c x.lock)))
looked_keeps o w s t c x I e n f p =
    let q : SeatOk o w.cells w.history t = I.seats s t e in
    let old : IsOld x.lock t.rv = passes-old x.lock t.rv p in
    let b : (old.0 ≡ version w.history c) × (x.value ≡ value o w.history c) × ((i u : ℕ) → deed w.history c i ≡ Will u → ⊥) =
    I.cells c old.0 x f old.1 in
    let shows : x.lock ≡ 2 * version w.history c → (y : Cell) → slice_get w.cells c ≡ Some y → y.value ≡ value o w.history c =
    λ r y g. (let j : Some x ≡ Some y = sym f ∙ g in let same : x ≡ y = cc in ap (λ (a : Cell). a.value) (sym same) ∙ b.1) in
    Consistent-empty o w s t (in_phase (saw t c x.lock) (Looked c x.lock)) I e
    (seat_empty o w.cells w.history (in_phase (saw t c x.lock) (Looked c x.lock)) (n, old, omega (arith, old.1, b.0), shows) q.rv q.reads n)
    n refl

-- load
pub load_keeps : (o : List ℕ) (w : World) (s : ℕ) (t : Seat) (c word : ℕ) (x : Cell) → Consistent o w → slice_get w.seats s ≡ Some t
    → t.phase ≡ Looked c word → slice_get w.cells c ≡ Some x → Consistent o (with_seat w s (in_phase t (Loaded c word x.value)))
load_keeps o w s t c word x I e p f =
    let q : SeatOk o w.cells w.history t = I.seats s t e in
    let r : PhaseOk o w.cells w.history t (Looked c word) = rw p at q.phase in
    Consistent-empty o w s t (in_phase t (Loaded c word x.value)) I e
    (seat_empty o w.cells w.history (in_phase t (Loaded c word x.value)) (r.0, r.1, r.2, λ d. r.3 d x f) q.rv q.reads r.0)
    r.0 refl

-- a second look that finds the same word
pub relooked_keeps : (o : List ℕ) (w : World) (s : ℕ) (t : Seat) (c word v : ℕ) (x : Cell) → Consistent o w → slice_get w.seats s ≡ Some t
    → t.phase ≡ Loaded c word v → slice_get w.cells c ≡ Some x → (x.lock == word) ≡ true
    → Consistent o (with_seat w s (record (saw t c x.lock) {
      phase = Reading;
      reads =
          record { cell = c; word = word; value = v } ∷ t.reads;
    }))
relooked_keeps o w s t c word v x I e p f m =
    let q : SeatOk o w.cells w.history t = I.seats s t e in
    let r : PhaseOk o w.cells w.history t (Loaded c word v) = rw p at q.phase in
    let a : x.lock ≡ word = equal_numbers x.lock word m in
    let old : IsOld x.lock t.rv = (r.1.0, a ∙ r.1.1, r.1.2) in
    let b : (old.0 ≡ version w.history c) × (x.value ≡ value o w.history c) × ((i u : ℕ) → deed w.history c i ≡ Will u → ⊥) =
    I.cells c old.0 x f old.1 in
    let d : v ≡ value o w.history c = r.3 (omega (arith, b.0, old.1, a)) in
    let one : IsOne o w.history t.rv c v =
    subst (λ (y : ℕ). IsOne o w.history t.rv c y) (sym d) (free_is_one o w.cells w.history c t.rv x I.cells f old q.rv) in
    Consistent-empty o w s t (record (saw t c x.lock) {
      phase = Reading;
      reads =
          record { cell = c; word = word; value = v } ∷ t.reads;
    }) I e
    (seat_empty o w.cells w.history (record (saw t c x.lock) {
      phase = Reading;
      reads =
          record { cell = c; word = word; value = v } ∷ t.reads;
    }) r.0 q.rv
    ((r.1, one), q.reads) r.0)
    r.0 refl

-- ---- the check

pub held_phase : (o : List ℕ) (h : List WordsEntry) (rv : ℕ) (p q : Phase) (c : ℕ) (k : Held) (x : Cell) → done_at q ≡ done_at p
    → number_at q ≡ number_at p → HeldOk o h rv p c k x → HeldOk o h rv q c k x
held_phase o h rv p q c k x d n r =
    record {
      locked = r.locked;
      old = r.old;
      shows = subst (λ (y : Option ℕ). HeldShows o h y c k x) (sym d) r.shows;
      was = r.was;
      mine = λ i v e. n ∙ r.mine i v e;
    }

-- the seat goes on to a phase of the same number, and holds the same
pub Consistent-phase : (o : List ℕ) (w : World) (s : ℕ) (t : Seat) (p : Phase) (b : Bool) (l : Option (ℕ × ℕ)) → Consistent o w
    → slice_get w.seats s ≡ Some t → done_at p ≡ done_at t.phase → number_at p ≡ number_at t.phase
    → PhaseOk o w.cells w.history (record t { phase = p; conflicted = b; looked = l }) p
    → Consistent o (with_seat w s (record t { phase = p; conflicted = b; looked = l }))
Consistent-phase o w s t p b l I e d n ok =
    let q : SeatOk o w.cells w.history t = I.seats s t e in
    Consistent-seat o w s t (record t { phase = p; conflicted = b; looked = l }) I e
    (record {
      phase = ok;
      rv = q.rv;
      reads = q.reads;
      held = λ c k f.
          let a : (x : Cell) × (slice_get w.cells c ≡ Some x) × HeldOk o w.history t.rv t.phase c k x = q.held c k f in
          (a.0, a.1, held_phase o w.history t.rv t.phase p c k a.0 d n a.2);
    })
    (λ c k f. (k, f)) (λ i f. sym n ∙ f)

-- after the check of c each read that is taken or stands below suc c is of the version before the entry
settled_more : (o : List ℕ) (h : List WordsEntry) (rv i c u : ℕ) (ks : List Held) (rs : List Read) → ReadsOk o h rv rs
    → SettledOk o h i ks u rs
    → settled_below c ks u rs ≡ true
    → ((v : ℕ) → IsOne o h rv c v → IsOne o h i c v) → SettledOk o h i ks (suc c) rs
settled_more o h rv i c u ks [] p q b f = tt
settled_more o h rv i c u ks (r ∷ rs) p q b f = (
  λ e. go (one_of (is_held r.cell ks) (nat_lt r.cell (suc c)) e),
  settled_more o h rv i c u ks rs p.1 q.1
      (both_right (nat_le c r.cell || is_settled ks u r.cell) (settled_below c ks u rs) b) f,
)
  where
    first : (nat_le c r.cell || is_settled ks u r.cell) ≡ true
    first = both_left (nat_le c r.cell || is_settled ks u r.cell) (settled_below c ks u rs) b

    or_left : (a b : Bool) → a ≡ true → (a || b) ≡ true
    or_left true b e = refl
    or_left false b e = cc

    same : r.cell ≡ c → IsOne o h i r.cell r.value
    same n = subst (λ (y : ℕ). IsOne o h i y r.value) (sym n) (f r.value (subst (λ (y : ℕ). IsOne o h rv y r.value) n p.0.1))

    split : (a b : ℕ) → a < suc b → (a ≡ b) ⊎ (a < b)
    split a b l = grind arith

    below : r.cell < c → (nat_le c r.cell ≡ true) ⊎ (is_settled ks u r.cell ≡ true) → IsOne o h i r.cell r.value
    below l (inl n) = let m : c ≤ r.cell = at_most_numbers c r.cell n in absurd (omega arith)
    below l (inr n) = q.0 n

    near : (r.cell ≡ c) ⊎ (r.cell < c) → IsOne o h i r.cell r.value
    near (inl n) = same n
    near (inr l) = below l (one_of (nat_le c r.cell) (is_settled ks u r.cell) first)

    go : (is_held r.cell ks ≡ true) ⊎ (nat_lt r.cell (suc c) ≡ true) → IsOne o h i r.cell r.value
    go (inl n) = q.0 (or_left (is_held r.cell ks) (nat_lt r.cell u) n)
    go (inr n) = near (split r.cell c (less_numbers r.cell (suc c) n))

-- the look of the check
module _ (o : List ℕ) (w : World) (s : ℕ) (t : Seat) (i u : ℕ) (I : Consistent o w) (e : slice_get w.seats s ≡ Some t)
    (p : t.phase ≡ Checking i u) where
  q : SeatOk o w.cells w.history t
  q = I.seats s t e

  r : CheckingOk o w.history t i u
  r = subst (λ (y : Phase). PhaseOk o w.cells w.history t y) p q.phase

  checked : (c : ℕ) (x : Cell) → is_due t u c ≡ true → slice_get w.cells c ≡ Some x → passes x.lock t.rv ≡ true
      → Consistent o (with_seat w s (in_phase (saw t c x.lock) (Checking i (suc c))))
  checked c x due f m =
      let old : IsOld x.lock t.rv = passes-old x.lock t.rv m in
      let b : (old.0 ≡ version w.history c) × (x.value ≡ value o w.history c) × ((j v : ℕ) → deed w.history c j ≡ Will v → ⊥) =
      I.cells c old.0 x f old.1 in
      let l : i < length w.history = get_within w.history i r.entry r.here in
      let a : t.rv ≤ i = r.after in
      let one : (v : ℕ) → IsOne o w.history t.rv c v → IsOne o w.history i c v =
      λ v k. one_on o w.history c t.rv i v k (omega (arith, b.0, old.2)) a (omega arith) (λ j d y. b.2 j d) in
      Consistent-phase o w s t (Checking i (suc c)) t.conflicted (Some (c, x.lock)) I e (ap done_at (sym p)) (ap number_at (sym p))
      (record {
        entry = r.entry;
        here = r.here;
        status = r.status;
        reads = r.reads;
        writes = r.writes;
        after = r.after;
        settled =
            settled_more o w.history t.rv i c u t.held t.reads q.reads r.settled
            (both_right (not (is_settled t.held u c)) (settled_below c t.held u t.reads) due) one;
      })

  pub check_fails_keeps : (c word : ℕ) → Consistent o (with_seat w s (conflict (saw t c word) (Voiding i)))
  check_fails_keeps c word =
      Consistent-phase o w s t (Voiding i) true (Some (c, word)) I e (ap done_at (sym p)) (ap number_at (sym p))
      (r.entry, r.here, λ d. open_done (sym r.status ∙ d))
    where
      open_done : Open ≡ Done → ⊥
      open_done d = cc

pub checked_keeps : (o : List ℕ) (w : World) (s : ℕ) (t : Seat) (i u c : ℕ) (x : Cell) → Consistent o w → slice_get w.seats s ≡ Some t
    → t.phase ≡ Checking i u → is_due t u c ≡ true → slice_get w.cells c ≡ Some x → passes x.lock t.rv ≡ true
    → Consistent o (with_seat w s (in_phase (saw t c x.lock) (Checking i (suc c))))
checked_keeps o w s t i u c x I e p d f m = checked o w s t i u I e p c x d f m
