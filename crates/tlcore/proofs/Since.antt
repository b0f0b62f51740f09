-- Since the beginning of a run the lock word of a cell stays as it is, or another seat holds the cell.
use Rattle.std.proofs.Common.{Bool, List, None, Some, ap, false, if◌then◌else◌, inl, inr, refl, slice_get, slice_set, subst, suc, sym, true}
use Rattle.std.proofs.Common.{ℕ, ◌*◌, ◌==◌, ◌∙◌, ◌∷◌, ◌≡◌, ◌≢◌, ◌⊎◌}
use Rattle.tlcore.specs.Seats.{Checking, Failing, Held, Idle, Loaded, Looked, Phase, Read, Reading, Seat, Storing, Taking, Voiding}
use Rattle.tlcore.specs.Seats.{all_below, find_held, find_read, is_nil, with_stored, without}
use Rattle.tlcore.specs.Machine.{Action, Begin, Cell, World, conflict, in_phase, saw}
use Rattle.tlcore.specs.Conflicts.{HeldByOther}
use Rattle.tlcore.specs.Invariant.{Consistent, IsOld}
use Rattle.tlcore.proofs.Lists.{equal_numbers, get-set_cases, get-set_same, known, option_known, other_numbers}
use Rattle.tlcore.proofs.Moves.{CellMoves, Moves, none_held}
use Rattle.tlcore.proofs.Rows.{Row, begins, check_conflicts, checks, draws, loads, look_conflicts, looks, releases_done, releases_failed}
use Rattle.tlcore.proofs.Rows.{releases_void, relook_conflicts, relooks, stores, take_conflicts, takes}

-- the lock word of the cell is L but for the run's own lock, each read of it has found L, and L passes a look
pub record Steady (L : ℕ) (xs : List Cell) (rv : ℕ) (ks : List Held) (rs : List Read) (c : ℕ) : Type 0 where
  pub old : IsOld L rv
  pub lock : (x : Cell) → slice_get xs c ≡ Some x → ((k : Held) → find_held c ks ≡ Some k → ⊥) → x.lock ≡ L
  pub words : (r : Read) → find_read c rs ≡ Some r → r.word ≡ L

-- while the run reads, takes or checks, the cell is steady, and a look at it has found L
abbrev pub Active : ℕ → List Cell → Seat → ℕ → Phase → Type 0
Active L xs t c Idle = Unit {0}
Active L xs t c Reading = Steady L xs t.rv t.held t.reads c
Active L xs t c (Looked d x) = Steady L xs t.rv t.held t.reads c × (d ≡ c → x ≡ L)
Active L xs t c (Loaded d x v) = Steady L xs t.rv t.held t.reads c × (d ≡ c → x ≡ L)
Active L xs t c Taking = Steady L xs t.rv t.held t.reads c
Active L xs t c (Checking i u) = Steady L xs t.rv t.held t.reads c
Active L xs t c (Storing i) = Unit {0}
Active L xs t c Failing = Unit {0}
Active L xs t c (Voiding i) = Unit {0}

module _ (L : ℕ) (xs ys : List Cell) (t : Seat) (c : ℕ)
    (f : (y : Cell) → slice_get ys c ≡ Some y → (x : Cell) × (slice_get xs c ≡ Some x) × (y.lock ≡ x.lock)) where
  steady_cells : Steady L xs t.rv t.held t.reads c → Steady L ys t.rv t.held t.reads c
  steady_cells b =
      record {
        old = b.old;
        lock = λ y g n. let x : (x : Cell) × (slice_get xs c ≡ Some x) × (y.lock ≡ x.lock) = f y g in x.2 ∙ b.lock x.0 x.1 n;
        words = b.words;
      }

  active_cells : (p : Phase) → Active L xs t c p → Active L ys t c p
  active_cells Idle b = tt
  active_cells Reading b = steady_cells b
  active_cells (Looked d x) b = (steady_cells b.0, b.1)
  active_cells (Loaded d x v) b = (steady_cells b.0, b.1)
  active_cells Taking b = steady_cells b
  active_cells (Checking i u) b = steady_cells b
  active_cells (Storing i) b = tt
  active_cells Failing b = tt
  active_cells (Voiding i) b = tt

-- an event of another seat
pub other_step : (L : ℕ) (w v : World) (s z c : ℕ) (t d : Seat) → z ≢ s → slice_get w.seats z ≡ Some d → Moves w z d v
    → slice_get w.seats s ≡ Some t → Active L w.cells t c t.phase
    → HeldByOther w s c ⊎ (HeldByOther v s c ⊎ Active L v.cells t c t.phase)
other_step L w v s z c t d n e m f a = go (option_known (slice_get v.cells c))
  where
    at_z : slice_get v.seats z ≡ Some m.0
    at_z = ap (λ (l : List Seat). slice_get l z) m.1 ∙ get-set_same w.seats z m.0 d e

    by : (y : Cell) → slice_get v.cells c ≡ Some y → CellMoves w d m.0 c y
        → HeldByOther w s c ⊎ (HeldByOther v s c ⊎ Active L v.cells t c t.phase)
    by y g (inl b) =
        inr (inr (active_cells L w.cells v.cells t c (λ q h. (b.0, b.1, same q y (sym h ∙ g) ∙ b.2)) t.phase a))
      where
        same : (q y : Cell) → Some q ≡ Some y → q.lock ≡ y.lock
        same q y h = let k : q ≡ y = cc in ap (λ (r : Cell). r.lock) k
    by y g (inr (inl b)) = inr (inl (z, m.0, b.0, n, at_z, b.1))
    by y g (inr (inr b)) = inl (z, d, b.0.0, n, e, b.0.1)

    go : ((y : Cell) × (slice_get v.cells c ≡ Some y)) ⊎ (slice_get v.cells c ≡ None)
        → HeldByOther w s c ⊎ (HeldByOther v s c ⊎ Active L v.cells t c t.phase)
    go (inl y) = by y.0 y.1 (m.2 c y.0 y.1)
    go (inr y) = inr (inr (active_cells L w.cells v.cells t c (λ q h. absurd (none_cell q (sym y ∙ h))) t.phase a))
      where
        none_cell : (q : Cell) → None ≡ Some q → ⊥
        none_cell q h = cc

-- an event of the seat itself
module _ (o : List ℕ) (L : ℕ) (w : World) (s c : ℕ) (t : Seat) (I : Consistent o w) (e : slice_get w.seats s ≡ Some t)
    (a : Active L w.cells t c t.phase) where
  at_phase : (p : Phase) → t.phase ≡ p → Active L w.cells t c p
  at_phase p q = subst (λ (y : Phase). Active L w.cells t c y) q a

  quiet_case : (b : Bool) (xs : List Cell) (z : Seat) (p q : Phase) → Active L xs z c p → Active L xs z c q
      → Active L xs z c (if b then p else q)
  quiet_case true xs z p q x y = x
  quiet_case false xs z p q x y = y

  taking_steady : (d : ℕ) → (t.phase ≡ Reading) ⊎ ((t.phase ≡ Taking) × (all_below d t.held ≡ true))
      → Steady L w.cells t.rv t.held t.reads c
  taking_steady d (inl p) = at_phase Reading p
  taking_steady d (inr p) = at_phase Taking p.0

  after_seat : (z : Seat) → slice_get (slice_set w.seats s z) s ≡ Some z
  after_seat z = get-set_same w.seats s z t e

  pub own_step : (b : Action) (v : World) → b ≢ Begin → Row w s t b v
      → (z : Seat) × (slice_get v.seats s ≡ Some z) × Active L v.cells z c z.phase
  own_step b v n (begins p) = absurd (n refl)
  own_step b v n (looks {c = d} {x} p f m) =
      let st : Steady L w.cells t.rv t.held t.reads c = at_phase Reading p in (
        in_phase (saw t d x.lock) (Looked d x.lock),
        after_seat (in_phase (saw t d x.lock) (Looked d x.lock)),
        (st, λ q. st.lock x (ap (slice_get w.cells) (sym q) ∙ f) (λ k h. none_held o w s t I e Reading p (λ y. y) c (k, h))),
      )
  own_step b v n (look_conflicts {c = d} {x} p f m) = (conflict (saw t d x.lock) Idle, after_seat (conflict (saw t d x.lock) Idle), tt)
  own_step b v n (loads {c = d} {word} {x} p f) =
      let st : Steady L w.cells t.rv t.held t.reads c × (d ≡ c → word ≡ L) = at_phase (Looked d word) p in
      (in_phase t (Loaded d word x.value), after_seat (in_phase t (Loaded d word x.value)), (st.0, st.1))
  own_step b v n (relooks {c = d} {word} {v = u} {x} p f m) = (
    record (saw t d x.lock) { phase = Reading; reads = record { cell = d; word = word; value = u } ∷ t.reads },
    after_seat (record (saw t d x.lock) { phase = Reading; reads = record { cell = d; word = word; value = u } ∷ t.reads }),
    record { old = st.0.old; lock = st.0.lock; words = λ r g. go r g (known (d == c)) },
  )
    where
      st : Steady L w.cells t.rv t.held t.reads c × (d ≡ c → word ≡ L)
      st = at_phase (Loaded d word u) p

      go : (r : Read) → find_read c (record { cell = d; word = word; value = u } ∷ t.reads) ≡ Some r
          → ((d == c) ≡ true) ⊎ ((d == c) ≡ false) → r.word ≡ L
      go r g (inl q) =
          let h : Some (record { cell = d; word = word; value = u }) ≡ Some r = rw q at g in
          let i : record { cell = d; word = word; value = u } ≡ r = cc in
          ap (λ (y : Read). y.word) (sym i) ∙ st.1 (equal_numbers d c q)
      go r g (inr q) = st.0.words r (rw q at g)
  own_step b v n (relook_conflicts {c = d} {x = x} p f m) =
      (conflict (saw t d x.lock) Idle, after_seat (conflict (saw t d x.lock) Idle), tt)
  own_step b v n (takes {c = d} {v = u} {r} {x} p g f m) = (
    record (saw t d x.lock) {
      phase = Taking;
      held = record { cell = d; word = r.word; value = u; stored = false } ∷ t.held;
      locked =
          d ∷ t.locked;
    },
    after_seat (record (saw t d x.lock) {
      phase = Taking;
      held =
          record { cell = d; word = r.word; value = u; stored = false } ∷ t.held;
      locked = d ∷ t.locked;
    }),
    record { old = st.old; lock = λ y h k. go y k (get-set_cases w.cells d c (record x { lock = suc r.word }) y h); words = st.words },
  )
    where
      st : Steady L w.cells t.rv t.held t.reads c
      st = taking_steady d p

      found : d ≡ c → ((d == c) ≡ true) ⊎ ((d == c) ≡ false)
          → find_held c (record { cell = d; word = r.word; value = u; stored = false } ∷ t.held)
          ≡ Some (record { cell = d; word = r.word; value = u; stored = false })
      found q (inl h) = rw h refl
      found q (inr h) = absurd (other_numbers d c h q)

      later : (k : Held) → d ≢ c → ((d == c) ≡ true) ⊎ ((d == c) ≡ false) → find_held c t.held ≡ Some k
          → find_held c (record { cell = d; word = r.word; value = u; stored = false } ∷ t.held) ≡ Some k
      later k q (inl h) i = absurd (q (equal_numbers d c h))
      later k q (inr h) i = rw h i

      go : (y : Cell) → ((k : Held) → find_held c (record { cell = d; word = r.word; value = u; stored = false } ∷ t.held) ≡ Some k → ⊥)
          → ((c ≡ d) × (y ≡ record x { lock = suc r.word })) ⊎ ((c ≢ d) × (slice_get w.cells c ≡ Some y)) → y.lock ≡ L
      go y k (inl q) = absurd (k (record { cell = d; word = r.word; value = u; stored = false }) (found (sym q.0) (known (d == c))))
      go y k (inr q) = st.lock y q.1 (λ j h. k j (later j (λ i. q.0 (sym i)) (known (d == c)) h))
  own_step b v n (take_conflicts {c = d} {x = x} p g f m) = (
    conflict (saw t d x.lock) (if is_nil t.held then Idle else Failing),
    after_seat (conflict (saw t d x.lock) (if is_nil t.held then Idle else Failing)),
    quiet_case (is_nil t.held) w.cells (conflict (saw t d x.lock) (if is_nil t.held then Idle else Failing)) Idle Failing tt tt,
  )
  own_step b v n (draws p) =
      let st : Steady L w.cells t.rv t.held t.reads c = at_phase Taking p in
      (in_phase t (Checking w.clock 0), after_seat (in_phase t (Checking w.clock 0)), st)
  own_step b v n (checks {i} {u} {c = d} {x} p q f m) =
      let st : Steady L w.cells t.rv t.held t.reads c = at_phase (Checking i u) p in
      (in_phase (saw t d x.lock) (Checking i (suc d)), after_seat (in_phase (saw t d x.lock) (Checking i (suc d))), st)
  own_step b v n (check_conflicts {i} {c = d} {x} p q f m) =
      (conflict (saw t d x.lock) (Voiding i), after_seat (conflict (saw t d x.lock) (Voiding i)), tt)
  own_step b v n (stores {i} {c = d} p g f) = (
    record t { phase = Storing i; held = with_stored d t.held },
    after_seat (record t { phase = Storing i; held = with_stored d t.held }),
    tt,
  )
  own_step b v n (releases_done {i} {c = d} {k} {x} p g st f) = (
    record t { phase = (if is_nil (without d t.held) then Idle else t.phase); held = without d t.held },
    after_seat (record t { phase = (if is_nil (without d t.held) then Idle else t.phase); held = without d t.held }),
    quiet_case (is_nil (without d t.held)) (slice_set w.cells d (record x { lock = 2 * suc i }))
        (record t { phase = (if is_nil (without d t.held) then Idle else t.phase); held = without d t.held }) Idle t.phase tt
        (subst (λ (y : Phase). Active L (slice_set w.cells d (record x { lock = 2 * suc i }))
        (record t { phase = (if is_nil (without d t.held) then Idle else t.phase); held = without d t.held }) c y) (sym p) tt),
  )
  own_step b v n (releases_failed {c = d} {k} {x} p g f) = (
    record t { phase = (if is_nil (without d t.held) then Idle else t.phase); held = without d t.held },
    after_seat (record t { phase = (if is_nil (without d t.held) then Idle else t.phase); held = without d t.held }),
    quiet_case (is_nil (without d t.held)) (slice_set w.cells d (record x { lock = k.word }))
        (record t { phase = (if is_nil (without d t.held) then Idle else t.phase); held = without d t.held }) Idle t.phase tt
        (subst (λ (y : Phase). Active L (slice_set w.cells d (record x { lock = k.word }))
        (record t { phase = (if is_nil (without d t.held) then Idle else t.phase); held = without d t.held }) c y) (sym p) tt),
  )
  own_step b v n (releases_void {i} {c = d} {k} {x} p g f) = (
    record t { phase = (if is_nil (without d t.held) then Idle else t.phase); held = without d t.held },
    after_seat (record t { phase = (if is_nil (without d t.held) then Idle else t.phase); held = without d t.held }),
    quiet_case (is_nil (without d t.held)) (slice_set w.cells d (record x { lock = k.word }))
        (record t { phase = (if is_nil (without d t.held) then Idle else t.phase); held = without d t.held }) Idle t.phase tt
        (subst (λ (y : Phase). Active L (slice_set w.cells d (record x { lock = k.word }))
        (record t { phase = (if is_nil (without d t.held) then Idle else t.phase); held = without d t.held }) c y) (sym p) tt),
  )
