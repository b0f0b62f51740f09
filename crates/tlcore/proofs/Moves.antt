-- What each row does to one cell: its lock word stays, or the seat takes it, or gives it back. So each locked cell is held.
use Rattle.std.proofs.Common.{List, Some, [], ap, false, if◌then◌else◌, inl, inr, refl, slice_get, slice_set, subst, suc, sym, true, ℕ, ◌*◌}
use Rattle.std.proofs.Common.{◌==◌, ◌∙◌, ◌∷◌, ◌≡◌, ◌≢◌, ◌⊎◌}
use Rattle.tlcore.specs.History.{WordsEntry, Void, settle}
use Rattle.tlcore.specs.Seats.{Checking, Failing, Held, Idle, Loaded, Looked, Phase, Reading, Seat, Storing, Taking, Voiding, find_held}
use Rattle.tlcore.specs.Seats.{is_nil, with_stored, without}
use Rattle.tlcore.specs.Machine.{Action, Cell, World, begun, conflict, in_phase, saw, with_seat}
use Rattle.tlcore.specs.Invariant.{Consistent, HeldOk, Holds, LockedAreHeld, PhaseOk}
use Rattle.tlcore.proofs.Lists.{equal_numbers, get-set_cases, get-set_other, get-set_same, known, odd_even, other_numbers, same_or_not}
use Rattle.tlcore.proofs.Quiet.{empty_held}
use Rattle.tlcore.proofs.Rows.{Row, begins, check_conflicts, checks, draws, loads, look_conflicts, looks, releases_done, releases_failed}
use Rattle.tlcore.proofs.Rows.{releases_void, relook_conflicts, relooks, stores, take_conflicts, takes}

-- the cell y of the world after: its lock word stays, and the seat holds it on; or the seat took it; or it gave it back
abbrev pub CellMoves : World → Seat → Seat → ℕ → Cell → Type 0
CellMoves w t z c y =
    ((x : Cell) × (slice_get w.cells c ≡ Some x) × (y.lock ≡ x.lock) × (Holds t c → Holds z c))
    ⊎ (Holds z c ⊎ (Holds t c × ((u : ℕ) × (y.lock ≡ 2 * u))))

-- from w to v the seat s, which was t, alone changes, and each cell moves so
abbrev pub Moves : World → ℕ → Seat → World → Type 0
Moves w s t v = (z : Seat) × (v.seats ≡ slice_set w.seats s z) × ((c : ℕ) (y : Cell) → slice_get v.cells c ≡ Some y → CellMoves w t z c y)

stored-held : (c d : ℕ) (ks : List Held) (k : Held) → find_held d ks ≡ Some k → (m : Held) × (find_held d (with_stored c ks) ≡ Some m)
stored-held c d [] k e = cc
stored-held c d (x ∷ ks) k e = go (known (x.cell == c)) (known (x.cell == d)) (stored-held c d ks k)
  where
    go : ((x.cell == c) ≡ true) ⊎ ((x.cell == c) ≡ false) → ((x.cell == d) ≡ true) ⊎ ((x.cell == d) ≡ false)
        → (find_held d ks ≡ Some k → (m : Held) × (find_held d (with_stored c ks) ≡ Some m))
        → (m : Held) × (find_held d (with_stored c (x ∷ ks)) ≡ Some m)
    go (inl a) (inl b) ih = (record x { stored = true }, rw a (rw b refl))
    go (inr a) (inl b) ih = (x, rw a (rw b refl))
    go (inl a) (inr b) ih = let r : (m : Held) × (find_held d (with_stored c ks) ≡ Some m) = ih (rw b at e) in (r.0, rw a (rw b r.1))
    go (inr a) (inr b) ih = let r : (m : Held) × (find_held d (with_stored c ks) ≡ Some m) = ih (rw b at e) in (r.0, rw a (rw b r.1))

without-held : (c d : ℕ) (ks : List Held) (k : Held) → d ≢ c → find_held d ks ≡ Some k → find_held d (without c ks) ≡ Some k
without-held c d [] k n e = e
without-held c d (x ∷ ks) k n e = go (known (x.cell == c)) (known (x.cell == d)) (without-held c d ks k n)
  where
    go : ((x.cell == c) ≡ true) ⊎ ((x.cell == c) ≡ false) → ((x.cell == d) ≡ true) ⊎ ((x.cell == d) ≡ false)
        → (find_held d ks ≡ Some k → find_held d (without c ks) ≡ Some k) → find_held d (without c (x ∷ ks)) ≡ Some k
    go (inl a) (inl b) ih = absurd (n (sym (equal_numbers x.cell d b) ∙ equal_numbers x.cell c a))
    go (inl a) (inr b) ih = rw a (ih (rw b at e))
    go (inr a) (inl b) ih = let q : Some x ≡ Some k = rw b at e in rw a (rw b q)
    go (inr a) (inr b) ih = rw a (rw b (ih (rw b at e)))

module _ (o : List ℕ) (w : World) (s : ℕ) (t : Seat) (I : Consistent o w) (e : slice_get w.seats s ≡ Some t) where
  -- nothing but the seat changes
  seat_moves : (z : Seat) → ((c : ℕ) → Holds t c → Holds z c) → Moves w s t (with_seat w s z)
  seat_moves z f = (z, refl, λ c y g. inl (y, g, refl, f c))

  pub none_held : (p : Phase) → t.phase ≡ p → (PhaseOk o w.cells w.history t p → t.held ≡ []) → (c : ℕ) → Holds t c → ⊥
  none_held p a f c h = empty_held t.held (f (subst (λ (y : Phase). PhaseOk o w.cells w.history t y) a (I.seats s t e).phase)) c h.0 h.1

  gives : (z : Seat) (d word : ℕ) (x : Cell) (g : List WordsEntry) (u : ℕ) → z.held ≡ without d t.held → word ≡ 2 * u → (k : Held)
      → find_held d t.held ≡ Some k
      → Moves w s t (record {
        clock = w.clock;
        cells = slice_set w.cells d (record x { lock = word });
        seats =
            slice_set w.seats s z;
        history = g;
      })
  gives z d word x g u hz hu k f = (z, refl, λ c y h. go c y (get-set_cases w.cells d c (record x { lock = word }) y h))
    where
      go : (c : ℕ) (y : Cell) → ((c ≡ d) × (y ≡ record x { lock = word })) ⊎ ((c ≢ d) × (slice_get w.cells c ≡ Some y))
          → CellMoves w t z c y
      go c y (inl p) = inr (inr ((k, ap (λ (j : ℕ). find_held j t.held) p.0 ∙ f), (u, ap (λ (a : Cell). a.lock) p.1 ∙ hu)))
      go c y (inr p) = inl (y, p.1, refl, λ h. (h.0, ap (find_held c) hz ∙ without-held d c t.held h.0 p.0 h.1))

  old_word : (c : ℕ) (k : Held) → find_held c t.held ≡ Some k → (u : ℕ) × (k.word ≡ 2 * u)
  old_word c k f =
      let b : (y : Cell) × (slice_get w.cells c ≡ Some y) × HeldOk o w.history t.rv t.phase c k y = (I.seats s t e).held c k f in
      (b.2.old.0, b.2.old.1)

  pub row_moves : (a : Action) (v : World) → Row w s t a v → Moves w s t v
  row_moves a v (begins (inl p)) = seat_moves (begun w t) (λ c h. absurd (none_held Idle p (λ y. y) c h))
  row_moves a v (begins (inr p)) = seat_moves (begun w t) (λ c h. absurd (none_held Reading p (λ y. y) c h))
  row_moves a v (looks {c} {x} p f m) = seat_moves (in_phase (saw t c x.lock) (Looked c x.lock)) (λ d h. h)
  row_moves a v (look_conflicts {c} {x} p f m) = seat_moves (conflict (saw t c x.lock) Idle) (λ d h. h)
  row_moves a v (loads {c} {word} {x} p f) = seat_moves (in_phase t (Loaded c word x.value)) (λ d h. h)
  row_moves a v (relooks {c} {word} {v = u} {x} p f m) =
      seat_moves (record (saw t c x.lock) { phase = Reading; reads = record { cell = c; word = word; value = u } ∷ t.reads }) (λ d h. h)
  row_moves a v (relook_conflicts {c} {x = x} p f m) = seat_moves (conflict (saw t c x.lock) Idle) (λ d h. h)
  row_moves a v (takes {c} {v = u} {r} {x} p g f m) = (
    record (saw t c x.lock) {
      phase = Taking;
      held = record { cell = c; word = r.word; value = u; stored = false } ∷ t.held;
      locked =
          c ∷ t.locked;
    },
    refl,
    λ d y h. go d y (get-set_cases w.cells c d (record x { lock = suc r.word }) y h),
  )
    where
      z : Seat
      z = record (saw t c x.lock) {
        phase = Taking;
        held = record { cell = c; word = r.word; value = u; stored = false } ∷ t.held;
        locked =
            c ∷ t.locked;
      }

      more : (d : ℕ) → Holds t d → ((c == d) ≡ true) ⊎ ((c == d) ≡ false)
          → Holds (record (saw t c x.lock) {
            phase = Taking;
            held =
                record { cell = c; word = r.word; value = u; stored = false } ∷ t.held;
            locked = c ∷ t.locked;
          }) d
      more d h (inl b) = (record { cell = c; word = r.word; value = u; stored = false }, rw b refl)
      more d h (inr b) = (h.0, rw b h.1)

      here : (d : ℕ) → d ≡ c → ((c == d) ≡ true) ⊎ ((c == d) ≡ false)
          → Holds (record (saw t c x.lock) {
            phase = Taking;
            held =
                record { cell = c; word = r.word; value = u; stored = false } ∷ t.held;
            locked = c ∷ t.locked;
          }) d
      here d n (inl b) = (record { cell = c; word = r.word; value = u; stored = false }, rw b refl)
      here d n (inr b) = absurd (other_numbers c d b (sym n))

      go : (d : ℕ) (y : Cell) → ((d ≡ c) × (y ≡ record x { lock = suc r.word })) ⊎ ((d ≢ c) × (slice_get w.cells d ≡ Some y))
          → CellMoves w t (record (saw t c x.lock) {
            phase = Taking;
            held =
                record { cell = c; word = r.word; value = u; stored = false } ∷ t.held;
            locked = c ∷ t.locked;
          }) d y
      go d y (inl q) = inr (inl (here d q.0 (known (c == d))))
      go d y (inr q) = inl (y, q.1, refl, λ h. more d h (known (c == d)))
  row_moves a v (take_conflicts {c} {x = x} p g f m) =
      seat_moves (conflict (saw t c x.lock) (if is_nil t.held then Idle else Failing)) (λ d h. h)
  row_moves a v (draws p) = (in_phase t (Checking w.clock 0), refl, λ c y g. inl (y, g, refl, λ h. h))
  row_moves a v (checks {i} {u} {c} {x} p d f m) = seat_moves (in_phase (saw t c x.lock) (Checking i (suc c))) (λ d h. h)
  row_moves a v (check_conflicts {i} {c = c} {x} p d f m) = seat_moves (conflict (saw t c x.lock) (Voiding i)) (λ d h. h)
  row_moves a v (stores {i} {c} {k} {x} p g f) = (
    record t { phase = Storing i; held = with_stored c t.held },
    refl,
    λ d y h. go d y
        (get-set_cases w.cells c d (record x { value = k.value }) y h),
  )
    where
      on : (d : ℕ) → Holds t d → Holds (record t { phase = Storing i; held = with_stored c t.held }) d
      on d h = stored-held c d t.held h.0 h.1

      go : (d : ℕ) (y : Cell) → ((d ≡ c) × (y ≡ record x { value = k.value })) ⊎ ((d ≢ c) × (slice_get w.cells d ≡ Some y))
          → CellMoves w t (record t { phase = Storing i; held = with_stored c t.held }) d y
      go d y (inl q) = inl (x, ap (slice_get w.cells) q.0 ∙ f, ap (λ (b : Cell). b.lock) q.1, on d)
      go d y (inr q) = inl (y, q.1, refl, on d)
  row_moves a v (releases_done {i} {c} {k} {x} p g st f) =
      gives (record t { phase = (if is_nil (without c t.held) then Idle else t.phase); held = without c t.held }) c (2 * suc i) x w.history
      (suc i) refl refl k g
  row_moves a v (releases_failed {c} {k} {x} p g f) =
      let b : (u : ℕ) × (k.word ≡ 2 * u) = old_word c k g in
      gives (record t { phase = (if is_nil (without c t.held) then Idle else t.phase); held = without c t.held }) c k.word x w.history b.0
      refl b.1 k g
  row_moves a v (releases_void {i} {c} {k} {x} p g f) =
      let b : (u : ℕ) × (k.word ≡ 2 * u) = old_word c k g in
      gives (record t { phase = (if is_nil (without c t.held) then Idle else t.phase); held = without c t.held }) c k.word x
      (settle w.history i Void) b.0 refl b.1 k g

-- ---- each locked cell is held

pub locked_step : (w v : World) (s : ℕ) (t : Seat) → slice_get w.seats s ≡ Some t → Moves w s t v → LockedAreHeld w.cells w.seats
    → LockedAreHeld v.cells v.seats
locked_step w v s t e m O c u y f j = go (m.2 c y f)
  where
    at_s : slice_get v.seats s ≡ Some m.0
    at_s = ap (λ (l : List Seat). slice_get l s) m.1 ∙ get-set_same w.seats s m.0 t e

    other : (q : ℕ) (d : Seat) → slice_get w.seats q ≡ Some d → Holds d c → (Holds t c → Holds m.0 c) → (q ≡ s) ⊎ (q ≢ s)
        → (s : ℕ) × (t : Seat) × (slice_get v.seats s ≡ Some t) × Holds t c
    other q d g h k (inl n) =
        let a : Some t ≡ Some d = sym e ∙ (ap (slice_get w.seats) (sym n) ∙ g) in
        let b : t ≡ d = cc in
        (s, m.0, at_s, k (subst (λ (r : Seat). Holds r c) (sym b) h))
    other q d g h k (inr n) = (q, d, ap (λ (l : List Seat). slice_get l q) m.1 ∙ (get-set_other w.seats s q m.0 n ∙ g), h)

    go : CellMoves w t m.0 c y → (s : ℕ) × (t : Seat) × (slice_get v.seats s ≡ Some t) × Holds t c
    go (inl a) =
        let b : (q : ℕ) × (d : Seat) × (slice_get w.seats q ≡ Some d) × Holds d c = O c u a.0 a.1 (sym a.2 ∙ j) in
        other b.0 b.1 b.2 b.3 a.3 (same_or_not s b.0)
    go (inr (inl a)) = (s, m.0, at_s, a)
    go (inr (inr a)) = absurd (odd_even u a.1.0 (sym j ∙ a.1.1))
