-- Who holds a cell has locked it.
use Rattle.std.proofs.Common.{Bool, List, Some, [], ap, append_assoc, false, if◌then◌else◌, inl, inr, refl, slice_get, slice_set, subst, suc}
use Rattle.std.proofs.Common.{sym, true, ℕ, ◌++◌, ◌==◌, ◌||◌, ◌∙◌, ◌∷◌, ◌≡◌, ◌≢◌, ◌⊎◌}
use Rattle.std.specs.List.{list_any}
use Rattle.std.proofs.lemmas.List.Folds.{list_any-append}
use Rattle.tlcore.specs.Seats.{Checking, Failing, Held, Idle, Loaded, Looked, Reading, Seat, Storing, Taking, Voiding, find_held, is_nil}
use Rattle.tlcore.specs.Seats.{with_stored, without}
use Rattle.tlcore.specs.Machine.{Action, World, begun, conflict, next, in_phase, saw}
use Rattle.tlcore.specs.Schedules.{Event, run}
use Rattle.tlcore.specs.Invariant.{Holds}
use Rattle.tlcore.specs.Conflicts.{HasLocked, HoldersHaveLocked}
use Rattle.tlcore.proofs.Lists.{get-set_other, get-set_same, known, same_or_not}
use Rattle.tlcore.proofs.Opacity.{given_some}
use Rattle.tlcore.proofs.Rows.{Row, begins, check_conflicts, checks, draws, loads, look_conflicts, looks, releases_done, releases_failed}
use Rattle.tlcore.proofs.Rows.{releases_void, relook_conflicts, relooks, row_of, stores, take_conflicts, takes}
use Rattle.tlcore.proofs.SeatParts.{stored-find, without-find}

-- ---- among cells

among_left : (c : ℕ) (xs ys : List ℕ) → list_any (λ d. d == c) xs ≡ true → list_any (λ d. d == c) (xs ++ ys) ≡ true
among_left c xs ys e =
    list_any-append (λ d. d == c) xs ys ∙ ap (λ (b : Bool). b || list_any (λ d. d == c) ys) e

among_right : (c : ℕ) (xs ys : List ℕ) → list_any (λ d. d == c) ys ≡ true → list_any (λ d. d == c) (xs ++ ys) ≡ true
among_right c xs ys e =
    list_any-append (λ d. d == c) xs ys ∙ (ap (λ (b : Bool). list_any (λ d. d == c) xs || b) e ∙ or_true (list_any (λ d. d == c) xs))
  where
    or_true : (b : Bool) → (b || true) ≡ true
    or_true true = refl
    or_true false = refl

-- ---- one seat

-- it holds no further cells, and has locked none
locks_none : (t z : Seat) → z.locked ≡ t.locked → ((c : ℕ) → Holds z c → Holds t c) → HasLocked t z
locks_none t z l f = record { cells = []; locked = l; held = λ c h. inl (f c h) }

locks_then : (t u z : Seat) → HasLocked t u → HasLocked u z → HasLocked t z
locks_then t u z p q =
    record {
      cells = q.cells ++ p.cells;
      locked = q.locked ∙ (ap (λ (xs : List ℕ). q.cells ++ xs) p.locked ∙ sym (append_assoc q.cells p.cells t.locked));
      held = λ c h. before c (q.held c h);
    }
  where
    first : (c : ℕ) → Holds t c ⊎ (list_any (λ d. d == c) p.cells ≡ true)
        → Holds t c ⊎ (list_any (λ d. d == c) (q.cells ++ p.cells) ≡ true)
    first c (inl h) = inl h
    first c (inr e) = inr (among_right c q.cells p.cells e)

    before : (c : ℕ) → Holds u c ⊎ (list_any (λ d. d == c) q.cells ≡ true)
        → Holds t c ⊎ (list_any (λ d. d == c) (q.cells ++ p.cells) ≡ true)
    before c (inl h) = first c (p.held c h)
    before c (inr e) = inr (among_left c q.cells p.cells e)

-- ---- one event

-- from w to v the seat s, which was t, alone changes, and it locks so
abbrev Locks : World → ℕ → Seat → World → Type 0
Locks w s t v = (z : Seat) × (v.seats ≡ slice_set w.seats s z) × HasLocked t z

nothing_held : (c : ℕ) (k : Held) → find_held c [] ≡ Some k → ⊥
nothing_held c k e = cc

module _ (w : World) (s : ℕ) (t : Seat) where
  released : (c : ℕ) → HasLocked t (record t { phase = (if is_nil (without c t.held) then Idle else t.phase); held = without c t.held })
  released c =
      locks_none t (record t { phase = (if is_nil (without c t.held) then Idle else t.phase); held = without c t.held }) refl
      (λ d h. let m = without-find c d t.held h.0 h.1 in (h.0, m.1))

  row_locks : (a : Action) (v : World) → Row w s t a v → Locks w s t v
  row_locks a v (begins p) = (begun w t, refl, locks_none t (begun w t) refl (λ c h. absurd (nothing_held c h.0 h.1)))
  row_locks a v (looks {c} {x} p f m) =
      (in_phase (saw t c x.lock) (Looked c x.lock), refl, locks_none t (in_phase (saw t c x.lock) (Looked c x.lock)) refl (λ d h. h))
  row_locks a v (look_conflicts {c} {x} p f m) =
      (conflict (saw t c x.lock) Idle, refl, locks_none t (conflict (saw t c x.lock) Idle) refl (λ d h. h))
  row_locks a v (loads {c} {word} {x} p f) =
      (in_phase t (Loaded c word x.value), refl, locks_none t (in_phase t (Loaded c word x.value)) refl (λ d h. h))
  row_locks a v (relooks {c} {word} {v = u} {x} p f m) = (
    record (saw t c x.lock) { phase = Reading; reads = record { cell = c; word = word; value = u } ∷ t.reads },
    refl,
    locks_none t (record (saw t c x.lock) { phase = Reading; reads = record { cell = c; word = word; value = u } ∷ t.reads }) refl
        (λ d h. h),
  )
  row_locks a v (relook_conflicts {c} {x = x} p f m) =
      (conflict (saw t c x.lock) Idle, refl, locks_none t (conflict (saw t c x.lock) Idle) refl (λ d h. h))
  row_locks a v (takes {c} {v = u} {r} {x} p g f m) = (
    record (saw t c x.lock) {
      phase = Taking;
      held = record { cell = c; word = r.word; value = u; stored = false } ∷ t.held;
      locked =
          c ∷ t.locked;
    },
    refl,
    record { cells = c ∷ []; locked = refl; held = λ d h. own d h.0 h.1 (known (c == d)) },
  )
    where
      own : (d : ℕ) (k : Held) → find_held d (record { cell = c; word = r.word; value = u; stored = false } ∷ t.held) ≡ Some k
          → ((c == d) ≡ true) ⊎ ((c == d) ≡ false) → Holds t d ⊎ (list_any (λ b. b == d) (c ∷ []) ≡ true)
      own d k e (inl b) = inr (rw b refl)
      own d k e (inr b) = inl (k, rw b at e)
  row_locks a v (take_conflicts {c} {x = x} p g f m) = (
    conflict (saw t c x.lock) (if is_nil t.held then Idle else Failing),
    refl,
    locks_none t (conflict (saw t c x.lock) (if is_nil t.held then Idle else Failing)) refl (λ d h. h),
  )
  row_locks a v (draws p) = (in_phase t (Checking w.clock 0), refl, locks_none t (in_phase t (Checking w.clock 0)) refl (λ d h. h))
  row_locks a v (checks {i} {u} {c} {x} p d f m) =
      (in_phase (saw t c x.lock) (Checking i (suc c)), refl, locks_none t (in_phase (saw t c x.lock) (Checking i (suc c))) refl (λ d h. h))
  row_locks a v (check_conflicts {i} {c = c} {x} p d f m) =
      (conflict (saw t c x.lock) (Voiding i), refl, locks_none t (conflict (saw t c x.lock) (Voiding i)) refl (λ d h. h))
  row_locks a v (stores {i} {c} {k} {x} p g f) = (
    record t { phase = Storing i; held = with_stored c t.held },
    refl,
    locks_none t (record t { phase = Storing i; held = with_stored c t.held }) refl
        (λ d h. let m = stored-find c d t.held h.0 h.1 in (m.0, m.1)),
  )
  row_locks a v (releases_done {i} {c} {k} {x} p g st f) =
      (record t { phase = (if is_nil (without c t.held) then Idle else t.phase); held = without c t.held }, refl, released c)
  row_locks a v (releases_failed {c} {k} {x} p g f) =
      (record t { phase = (if is_nil (without c t.held) then Idle else t.phase); held = without c t.held }, refl, released c)
  row_locks a v (releases_void {i} {c} {k} {x} p g f) =
      (record t { phase = (if is_nil (without c t.held) then Idle else t.phase); held = without c t.held }, refl, released c)

-- ---- a schedule

abbrev HoldersHave : List Event → Type 0
HoldersHave es =
    (now later : World) (s : ℕ) (t u : Seat)
    → run es now ≡ Some later → slice_get now.seats s ≡ Some t → slice_get later.seats s ≡ Some u → HasLocked t u

pub holders_have_locked : HoldersHaveLocked
holders_have_locked [] now later s t u r e f =
    let world : now ≡ later = cc in
    let seat : Some t ≡ Some u = sym e ∙ (ap (λ (w : World). slice_get w.seats s) world ∙ f) in
    let same : t ≡ u = cc in
    subst (HasLocked t) same (locks_none t t refl (λ c h. h))
holders_have_locked (event ∷ es) now later s t u r e f =
    first (given_some (next now event.0 event.1) (λ w. run es w) later r) (holders_have_locked es)
  where
    first : (mid : World) × (next now event.0 event.1 ≡ Some mid) × (run es mid ≡ Some later) → HoldersHave es → HasLocked t u
    first m ih = go (row_of now m.0 event.0 event.1 m.1)
      where
        go : (own : Seat) × (slice_get now.seats event.0 ≡ Some own) × Row now event.0 own event.1 m.0 → HasLocked t u
        go row = step (row_locks now event.0 row.0 event.1 m.0 row.2) (same_or_not event.0 s)
          where
            step : Locks now event.0 row.0 m.0 → (s ≡ event.0) ⊎ (s ≢ event.0) → HasLocked t u
            step b (inl own) =
                let seat : Some t ≡ Some row.0 = sym e ∙ (ap (slice_get now.seats) own ∙ row.1) in
                let same : t ≡ row.0 = cc in
                let at : slice_get (m.0).seats s ≡ Some b.0 =
                ap (λ (l : List Seat). slice_get l s) b.1 ∙ (ap (slice_get (slice_set now.seats event.0 b.0)) own
                ∙ get-set_same now.seats event.0 b.0 row.0 row.1) in
                locks_then t b.0 u (subst (λ (z : Seat). HasLocked z b.0) (sym same) b.2) (ih m.0 later s b.0 u m.2 at f)
            step b (inr other) =
                ih m.0 later s t u m.2 (ap (λ (l : List Seat). slice_get l s) b.1 ∙ (get-set_other now.seats event.0 s b.0 other ∙ e)) f
