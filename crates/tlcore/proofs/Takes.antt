-- The take of a cell, and one that is lost, keep what the parts say of each other.
use Rattle.std.proofs.Common.{List, None, Some, ap, arith, false, if◌then◌else◌, inl, inr, length, refl, slice_get, slice_set, subst, suc, sym, true, ℕ, ◌*◌, ◌==◌, ◌∙◌, ◌∷◌, ◌≡◌, ◌≢◌, ◌⊎◌}
use Rattle.std.proofs.lemmas.Option.{none-some}
use Rattle.tlcore.specs.History.{Did, IsVersionOf, Will, deed, value, version}
use Rattle.tlcore.specs.Seats.{Failing, Held, Idle, Seat, Taking, find_held, is_nil, number_at}
use Rattle.tlcore.specs.Machine.{Cell, World, conflict, saw, taken, with_seat}
use Rattle.tlcore.specs.Invariant.{CellsOk, Consistent, HeldOk, IsOld, SeatOk, done_at}
use Rattle.tlcore.proofs.AfterEvent.{Consistent-step, Others}
use Rattle.tlcore.proofs.Deeds.{version-deed}
use Rattle.tlcore.proofs.Frame.{set_frame}
use Rattle.tlcore.proofs.Growth.{Grows-refl}
use Rattle.tlcore.proofs.Lists.{equal_numbers, get-set_cases, get-set_other, get-set_same, known, odd_even, other_numbers}
use Rattle.tlcore.proofs.Quiet.{Consistent-phase, conflict_keeps, held_phase}
use Rattle.tlcore.proofs.SeatParts.{is_nil-nil}
use Rattle.tlcore.proofs.Stays.{Stays-refl}

module _ (o : List ℕ) (w : World) (s : ℕ) (t : Seat) (c v word : ℕ) (x : Cell)
    (I : Consistent o w) (e : slice_get w.seats s ≡ Some t) (nd : done_at t.phase ≡ None) (nn : number_at t.phase ≡ None)
    (old : IsOld word t.rv) (f : slice_get w.cells c ≡ Some x) (m : x.lock ≡ word) where
  new : Held
  new = record { cell = c; word = word; value = v; stored = false }

  free_cell : (word ≡ 2 * version w.history c) × (x.value ≡ value o w.history c) × ((i u : ℕ) → deed w.history c i ≡ Will u → ⊥)
  free_cell =
      let b : (old.0 ≡ version w.history c) × (x.value ≡ value o w.history c) × ((i u : ℕ) → deed w.history c i ≡ Will u → ⊥) =
      I.cells c old.0 x f (m ∙ old.1) in
      (omega (arith, old.1, b.0), b.1, b.2)

  written_at : (v : ℕ) → word ≡ 2 * v
      → (version w.history c ≡ 0) ⊎ ((i : ℕ) × (x : ℕ) × (version w.history c ≡ suc i) × (deed w.history c i ≡ Did x))
      → IsVersionOf w.history c v
  written_at v a (inl p) = inl (omega (arith, a, free_cell.0, p))
  written_at v a (inr p) = inr (p.0, p.1, omega (arith, a, free_cell.0, p.2), p.3)

  -- what is held now: the new one, or one from before, of another cell
  held_now : (d : ℕ) (k : Held) → find_held d (record { cell = c; word = word; value = v; stored = false } ∷ t.held) ≡ Some k
      → ((d ≡ c) × (k ≡ record { cell = c; word = word; value = v; stored = false })) ⊎ ((d ≢ c) × (find_held d t.held ≡ Some k))
  held_now d k g = go (known (c == d))
    where
      go : ((c == d) ≡ true) ⊎ ((c == d) ≡ false)
          → ((d ≡ c) × (k ≡ record { cell = c; word = word; value = v; stored = false })) ⊎ ((d ≢ c) × (find_held d t.held ≡ Some k))
      go (inl a) =
          let q : Some (record { cell = c; word = word; value = v; stored = false }) ≡ Some k = rw a at g in
          inl (sym (equal_numbers c d a), cc)
      go (inr a) =
          let q : find_held d t.held ≡ Some k = rw a at g in
          inr (λ b. other_numbers c d a (sym b), q)

  take_others : Others w.seats s (record { cell = c; word = word; value = v; stored = false } ∷ t.held) None
  take_others q u ne g =
      (λ d k l a b. go d k l b (held_now d k a), λ p. refl)
    where
      go : (d : ℕ) (k l : Held) → find_held d u.held ≡ Some l
          → ((d ≡ c) × (k ≡ record { cell = c; word = word; value = v; stored = false })) ⊎ ((d ≢ c) × (find_held d t.held ≡ Some k)) → ⊥
      go d k l b (inl p) =
          let r : (y : Cell) × (slice_get w.cells d ≡ Some y) × HeldOk o w.history u.rv u.phase d l y = (I.seats q u g).held d l b in
          let j : slice_get w.cells c ≡ Some r.0 = subst (λ (a : ℕ). slice_get w.cells a ≡ Some r.0) p.0 r.1 in
          let i : Some x ≡ Some r.0 = sym f ∙ j in
          let y : x ≡ r.0 = cc in
          let z : x.lock ≡ suc l.word = ap (λ (a : Cell). a.lock) y ∙ r.2.locked in
          odd_even r.2.old.0 old.0 (omega (arith, z, m, old.1, r.2.old.1))
      go d k l b (inr p) = ne (sym (I.held_apart s q t u d k l e g p.1 b))

  take_cells : CellsOk o (slice_set w.cells c (record x { lock = suc word })) w.history
  take_cells d u y g j = go (get-set_cases w.cells c d (record x { lock = suc word }) y g)
    where
      go : ((d ≡ c) × (y ≡ record x { lock = suc word })) ⊎ ((d ≢ c) × (slice_get w.cells d ≡ Some y))
          → (u ≡ version w.history d) × (y.value ≡ value o w.history d) × ((i u : ℕ) → deed w.history d i ≡ Will u → ⊥)
      go (inl p) =
          let z : y.lock ≡ suc word = ap (λ (a : Cell). a.lock) p.1 in
          absurd (odd_even old.0 u (omega (arith, z, j, old.1)))
      go (inr p) = I.cells d u y p.1 j

  take_seat : SeatOk o (slice_set w.cells c (record x { lock = suc word })) w.history (record (saw t c x.lock) {
    phase = Taking;
    held =
        record { cell = c; word = word; value = v; stored = false } ∷ t.held;
    locked = c ∷ t.locked;
  })
  take_seat =
      record {
        phase = tt;
        rv = (I.seats s t e).rv;
        reads = (I.seats s t e).reads;
        held = λ d k g. go d k (held_now d k g);
      }
    where
      go : (d : ℕ) (k : Held)
          → ((d ≡ c) × (k ≡ record { cell = c; word = word; value = v; stored = false })) ⊎ ((d ≢ c) × (find_held d t.held ≡ Some k))
          → (y : Cell) × (slice_get (slice_set w.cells c (record x { lock = suc word })) d ≡ Some y) × HeldOk o w.history t.rv Taking d k y
      go d k (inl p) = (
        record x { lock = suc word },
        ap (slice_get (slice_set w.cells c (record x { lock = suc word }))) p.0 ∙ get-set_same w.cells c (record x { lock = suc word }) x f,
        subst (λ (a : ℕ). HeldOk o w.history t.rv Taking a k (record x { lock = suc word })) (sym p.0)
            (subst (λ (a : Held). HeldOk o w.history t.rv Taking c a (record x { lock = suc word })) (sym p.1)
            (record {
              locked = refl;
              old = old;
              shows = (free_cell.0, free_cell.1, refl);
              was = λ v a. written_at v a (version-deed (deed w.history c) (length w.history));
              mine = λ i u a. absurd (free_cell.2 i u a);
            })),
      )
      go d k (inr p) =
          let r : (y : Cell) × (slice_get w.cells d ≡ Some y) × HeldOk o w.history t.rv t.phase d k y = (I.seats s t e).held d k p.1 in (
            r.0,
            get-set_other w.cells c d (record x { lock = suc word }) p.0 ∙ r.1,
            held_phase o w.history t.rv t.phase Taking d k r.0 (sym nd) (sym nn) r.2,
          )

  pub taken_keeps : Consistent o (taken w s t c v word x)
  taken_keeps =
      Consistent-step o w s t (record (saw t c x.lock) {
        phase = Taking;
        held =
            record { cell = c; word = word; value = v; stored = false } ∷ t.held;
        locked = c ∷ t.locked;
      })
      (slice_set w.cells c (record x { lock = suc word })) w.history w.clock (record { cell = c; word = word; value = v; stored = false }
      ∷ t.held) None I e
      (set_frame o w.cells w.history w.history (record { cell = c; word = word; value = v; stored = false } ∷ t.held) None c
      (record x { lock = suc word })
      (Grows-refl w.history) (Stays-refl o w.history) (λ d i u a. a) (λ i a b p. p) (record {
        cell = c;
        word = word;
        value = v;
        stored =
            false;
      })
      (found (known (c == c))) (λ a. free_cell.1))
      take_others I.clock take_cells I.history take_seat (λ d k g. (k, g)) (λ i g. absurd (none-some i g))
    where
      found : ((c == c) ≡ true) ⊎ ((c == c) ≡ false)
          → find_held c (record { cell = c; word = word; value = v; stored = false } ∷ t.held)
          ≡ Some (record { cell = c; word = word; value = v; stored = false })
      found (inl a) = rw a refl
      found (inr a) = absurd (other_numbers c c a refl)

-- a lost exchange
pub lost_keeps : (o : List ℕ) (w : World) (s : ℕ) (t : Seat) (c word : ℕ) → Consistent o w → slice_get w.seats s ≡ Some t
    → done_at t.phase ≡ None → number_at t.phase ≡ None
    → Consistent o (with_seat w s (conflict (saw t c word) (if is_nil t.held then Idle else Failing)))
lost_keeps o w s t c word I e nd nn = go (known (is_nil t.held))
  where
    go : (is_nil t.held ≡ true) ⊎ (is_nil t.held ≡ false)
        → Consistent o (with_seat w s (conflict (saw t c word) (if is_nil t.held then Idle else Failing)))
    go (inl m) =
        let r : Consistent o (with_seat w s (conflict (saw t c word) Idle)) =
        conflict_keeps o w s t c word I e (is_nil-nil t.held m) in rw m r
    go (inr m) =
        let r : Consistent o (with_seat w s (conflict (saw t c word) Failing)) =
        Consistent-phase o w s t Failing true (Some (c, word)) I e (sym nd) (sym nn) tt in rw m r
