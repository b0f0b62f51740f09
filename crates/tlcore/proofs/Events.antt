-- Each lawful event keeps the invariant, and the history grows.
use Rattle.std.proofs.Common.{List, None, Some, [], ap, arith, inl, inr, refl, slice_get, subst, suc, sym, true, ℕ, ◌||◌, ◌≡◌, ◌⊎◌}
use Rattle.tlcore.specs.History.{WordsEntry, Grows, One, Open}
use Rattle.tlcore.specs.Seats.{Checking, Loaded, Phase, Reading, Seat, Taking, all_below, all_settled, is_next, number_at, reads_of}
use Rattle.tlcore.specs.Seats.{writes_of}
use Rattle.tlcore.specs.Machine.{Action, World, begun, with_seat}
use Rattle.tlcore.specs.Invariant.{CheckingOk, Consistent, PhaseOk, done_at}
use Rattle.tlcore.specs.Laws.{EachEventKeeps}
use Rattle.tlcore.proofs.Draws.{drawn_keeps}
use Rattle.tlcore.proofs.Growth.{Grows-append, Grows-refl}
use Rattle.tlcore.proofs.Lists.{equal_numbers, one_of}
use Rattle.tlcore.proofs.Moves.{locked_step, row_moves}
use Rattle.tlcore.proofs.Quiet.{begin_keeps, check_fails_keeps, checked_keeps, conflict_keeps, load_keeps, looked_keeps, relooked_keeps}
use Rattle.tlcore.proofs.Releases.{release_done, release_failed, release_void, void_grows}
use Rattle.tlcore.proofs.Rows.{Row, begins, check_conflicts, checks, draws, loads, look_conflicts, looks, releases_done, releases_failed}
use Rattle.tlcore.proofs.Rows.{releases_void, relook_conflicts, relooks, row_of, stores, take_conflicts, takes}
use Rattle.tlcore.proofs.SeatParts.{ReadsOk-one, find_read-ok}
use Rattle.tlcore.proofs.Stores.{all_one, first_grows, first_store_keeps}
use Rattle.tlcore.proofs.StoresAgain.{again_same, store_keeps}
use Rattle.tlcore.proofs.Takes.{lost_keeps, taken_keeps}

-- what the parts say of each other is kept, and the history grows
abbrev Kept : List ℕ → World → World → Type 0
Kept o w v = Consistent o v × Grows w.history v.history

-- the reads of a run that has drawn, once none is left to check, or where nobody drew in between
drawn_one : (o : List ℕ) (w : World) (s : ℕ) (t : Seat) (i u : ℕ) → Consistent o w → slice_get w.seats s ≡ Some t → t.phase ≡ Checking i u
    → (is_next t i || all_settled t.held u t.reads) ≡ true → One o w.history i (reads_of t.reads)
drawn_one o w s t i u I e p b = either (one_of (is_next t i) (all_settled t.held u t.reads) b)
  where
    r : CheckingOk o w.history t i u
    r = subst (λ (y : Phase). PhaseOk o w.cells w.history t y) p (I.seats s t e).phase

    either : (is_next t i ≡ true) ⊎ (all_settled t.held u t.reads ≡ true) → One o w.history i (reads_of t.reads)
    either (inl b) =
        subst (λ (y : ℕ). One o w.history y (reads_of t.reads))
        (let e : suc t.rv ≡ suc i = equal_numbers (suc t.rv) (suc i) b in omega (arith, e))
        (ReadsOk-one o w.history t.rv t.reads (I.seats s t e).reads)
    either (inr b) = all_one o w.history i u t.held t.reads r.settled b

module _ (o : List ℕ) (w : World) (s : ℕ) (t : Seat) (I : Consistent o w) (e : slice_get w.seats s ≡ Some t) where
  -- nothing is drawn, settled or forgotten
  same : (v : World) → v.history ≡ w.history → Consistent o v → Kept o w v
  same v a b = (b, subst (λ (h : List WordsEntry). Grows w.history h) (sym a) (Grows-refl w.history))

  empty_at : (p : Phase) → t.phase ≡ p → (PhaseOk o w.cells w.history t p → t.held ≡ []) → t.held ≡ []
  empty_at p a f = f (subst (λ (y : Phase). PhaseOk o w.cells w.history t y) a (I.seats s t e).phase)

  -- a run that takes cells has no number
  free_of : (c : ℕ) → (t.phase ≡ Reading) ⊎ ((t.phase ≡ Taking) × (all_below c t.held ≡ true))
      → (done_at t.phase ≡ None) × (number_at t.phase ≡ None)
  free_of c (inl p) = (ap done_at p, ap number_at p)
  free_of c (inr p) = (ap done_at p.0, ap number_at p.0)

  pub row_keeps : (a : Action) (v : World) → Row w s t a v → Kept o w v
  row_keeps a v (begins p) = same (with_seat w s (begun w t)) refl (begin_keeps o w s t I e)
  row_keeps a v (looks {c} {x} p f m) = same v refl (looked_keeps o w s t c x I e (empty_at Reading p (λ y. y)) f m)
  row_keeps a v (look_conflicts {c} {x} p f m) = same v refl (conflict_keeps o w s t c x.lock I e (empty_at Reading p (λ y. y)))
  row_keeps a v (loads {c} {word} {x} p f) = same v refl (load_keeps o w s t c word x I e p f)
  row_keeps a v (relooks {c} {word} {v = y} {x} p f m) = same v refl (relooked_keeps o w s t c word y x I e p f m)
  row_keeps a v (relook_conflicts {c} {word} {v = y} {x} p f m) =
      same v refl (conflict_keeps o w s t c x.lock I e (empty_at (Loaded c word y) p (λ q. q.0)))
  row_keeps a v (takes {c} {v = y} {r} {x} p f g m) =
      same v refl (taken_keeps o w s t c y r.word x I e (free_of c p).0 (free_of c p).1
      (find_read-ok o w.history t.rv c t.reads r (I.seats s t e).reads f).1 g (equal_numbers x.lock r.word m))
  row_keeps a v (take_conflicts {c} {x = x} p f g m) = same v refl (lost_keeps o w s t c x.lock I e (free_of c p).0 (free_of c p).1)
  row_keeps a v (draws p) =
      (drawn_keeps o w s t I e p, Grows-append w.history (record { status = Open; reads = reads_of t.reads; writes = writes_of t.held }))
  row_keeps a v (checks {i} {u} {c} {x} p d f m) = same v refl (checked_keeps o w s t i u c x I e p d f m)
  row_keeps a v (check_conflicts {i} {u} {c} {x} p d f m) = same v refl (check_fails_keeps o w s t i u I e p c x.lock)
  row_keeps a v (stores {i} {c} {k} {x} (inl p) f g) = (
    first_store_keeps o w s t i p.0 c k x I e p.1 (drawn_one o w s t i p.0 I e p.1 p.2) f g,
    first_grows o w s t i p.0 c k x I e p.1
        (drawn_one o w s t i p.0 I e p.1 p.2) f g,
  )
  row_keeps a v (stores {i} {c} {k} {x} (inr p) f g) = same v (again_same o w s t i c k x I e p f g) (store_keeps o w s t i c k x I e p f g)
  row_keeps a v (releases_done {i} {c} {k} {x} p f st g) = same v refl (release_done o w s t c k x I e f g i p st)
  row_keeps a v (releases_failed {c} {k} {x} p f g) = same v refl (release_failed o w s t c k x I e f g p)
  row_keeps a v (releases_void {i} {c} {k} {x} p f g) = (release_void o w s t c k x I e f g i p, void_grows o w s t c k x I e f g i p)

-- each lawful event keeps the invariant
pub event_keeps : EachEventKeeps
event_keeps o w v s a I n =
    let r : (t : Seat) × (slice_get w.seats s ≡ Some t) × Row w s t a v = row_of w v s a n in
    let k : Kept o w v = row_keeps o w s r.0 I.consistent r.1 a v r.2 in
    record {
      invariant = record {
        consistent = k.0;
        locked_are_held = locked_step w v s r.0 r.1 (row_moves o w s r.0 I.consistent r.1 a v r.2) I.locked_are_held;
      };
      grows = k.1;
    }
