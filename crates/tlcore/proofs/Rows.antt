-- The rows of the table of steps as a relation, by cases of which the proofs go.
use Rattle.std.proofs.Common.{Bool, None, Option, Some, ap, false, if◌then◌else◌, inl, inr, not, refl, slice_get, subst, suc, sym, true, ℕ}
use Rattle.std.proofs.Common.{◌&&◌, ◌*◌, ◌==◌, ◌||◌, ◌∙◌, ◌∷◌, ◌≡◌, ◌⊎◌}
use Rattle.std.specs.Prelude.{IfSome}
use Rattle.tlcore.specs.History.{Void, settle}
use Rattle.tlcore.specs.Seats.{Checking, Failing, Held, Idle, Loaded, Looked, Phase, Read, Reading, Seat, Storing, Taking, Voiding}
use Rattle.tlcore.specs.Seats.{all_below, all_settled, find_held, find_read, is_due, is_next, is_nil, passes}
use Rattle.tlcore.specs.Machine.{Action, Begin, Cell, Check, Draw, Load, Look, Release, Relook, Store, Take, World, act, begun, check}
use Rattle.tlcore.specs.Machine.{conflict, drawn, given, load, look, next, only_if, in_phase, release, relook, saw, store, take_cell, taken}
use Rattle.tlcore.specs.Machine.{with_seat}
use Rattle.tlcore.proofs.Lists.{both_right, equal_numbers, known}

pub given_keeps : {A B : Type 0} (P : B → Type 0) (x : Option A) (f : A → Option B) → ((a : A) → x ≡ Some a → IfSome (f a) P)
    → IfSome (given x f) P
given_keeps P None f h = tt
given_keeps P (Some a) f h = h a refl

pub only_keeps : {B : Type 0} (P : B → Type 0) (b : Bool) (x : Option B) → (b ≡ true → IfSome x P) → IfSome (only_if b x) P
only_keeps P true x h = h refl
only_keeps P false x h = tt

pub some_keeps : {B : Type 0} (P : B → Type 0) (x : Option B) (v : B) → IfSome x P → x ≡ Some v → P v
some_keeps P None v h e = cc
some_keeps P (Some b) v h e = let q : b ≡ v = cc in subst P q h

-- the action of the seat t leads from w to a world: one row for each outcome
pub data Row (w : World) (s : ℕ) (t : Seat) : Action → World → Type 0 where
  begins : (t.phase ≡ Idle) ⊎ (t.phase ≡ Reading) → Row w s t Begin (with_seat w s (begun w t))
  looks : {c : ℕ} {x : Cell} → t.phase ≡ Reading → slice_get w.cells c ≡ Some x → passes x.lock t.rv ≡ true
      → Row w s t (Look c) (with_seat w s (in_phase (saw t c x.lock) (Looked c x.lock)))
  look_conflicts : {c : ℕ} {x : Cell} → t.phase ≡ Reading → slice_get w.cells c ≡ Some x → passes x.lock t.rv ≡ false
      → Row w s t (Look c) (with_seat w s (conflict (saw t c x.lock) Idle))
  loads : {c word : ℕ} {x : Cell} → t.phase ≡ Looked c word → slice_get w.cells c ≡ Some x → Row w s t (Load c) (load w s t c word x)
  relooks : {c word v : ℕ} {x : Cell} → t.phase ≡ Loaded c word v → slice_get w.cells c ≡ Some x → (x.lock == word) ≡ true
      → Row w s t (Relook c) (with_seat w s (record (saw t c x.lock) {
        phase = Reading;
        reads =
            record { cell = c; word = word; value = v } ∷ t.reads;
      }))
  relook_conflicts : {c word v : ℕ} {x : Cell} → t.phase ≡ Loaded c word v → slice_get w.cells c ≡ Some x → (x.lock == word) ≡ false
      → Row w s t (Relook c) (with_seat w s (conflict (saw t c x.lock) Idle))
  takes : {c v : ℕ} {r : Read} {x : Cell} → (t.phase ≡ Reading) ⊎ ((t.phase ≡ Taking) × (all_below c t.held ≡ true))
      → find_read c t.reads ≡ Some r → slice_get w.cells c ≡ Some x → (x.lock == r.word) ≡ true
      → Row w s t (Take c v) (taken w s t c v r.word x)
  take_conflicts : {c v : ℕ} {r : Read} {x : Cell} → (t.phase ≡ Reading) ⊎ ((t.phase ≡ Taking) × (all_below c t.held ≡ true))
      → find_read c t.reads ≡ Some r → slice_get w.cells c ≡ Some x → (x.lock == r.word) ≡ false
      → Row w s t (Take c v) (with_seat w s (conflict (saw t c x.lock) (if is_nil t.held then Idle else Failing)))
  draws : t.phase ≡ Taking → Row w s t Draw (drawn w s t)
  checks : {i u c : ℕ} {x : Cell} → t.phase ≡ Checking i u → is_due t u c ≡ true → slice_get w.cells c ≡ Some x → passes x.lock t.rv ≡ true
      → Row w s t (Check c) (with_seat w s (in_phase (saw t c x.lock) (Checking i (suc c))))
  check_conflicts : {i u c : ℕ} {x : Cell} → t.phase ≡ Checking i u → is_due t u c ≡ true → slice_get w.cells c ≡ Some x
      → passes x.lock t.rv ≡ false → Row w s t (Check c) (with_seat w s (conflict (saw t c x.lock) (Voiding i)))
  stores : {i c : ℕ} {k : Held} {x : Cell}
      → ((u : ℕ) × (t.phase ≡ Checking i u) × ((is_next t i || all_settled t.held u t.reads) ≡ true)) ⊎ (t.phase ≡ Storing i)
      → find_held c t.held ≡ Some k → slice_get w.cells c ≡ Some x
      → Row w s t (Store c) (store w s t i c k x)
  releases_done : {i c : ℕ} {k : Held} {x : Cell} → t.phase ≡ Storing i → find_held c t.held ≡ Some k → k.stored ≡ true
      → slice_get w.cells c ≡ Some x → Row w s t (Release c) (release w s t c (2 * suc i) x w.history)
  releases_failed : {c : ℕ} {k : Held} {x : Cell} → t.phase ≡ Failing → find_held c t.held ≡ Some k → slice_get w.cells c ≡ Some x
      → Row w s t (Release c) (release w s t c k.word x w.history)
  releases_void : {i c : ℕ} {k : Held} {x : Cell} → t.phase ≡ Voiding i → find_held c t.held ≡ Some k → slice_get w.cells c ≡ Some x
      → Row w s t (Release c) (release w s t c k.word x (settle w.history i Void))

module _ (w : World) (s : ℕ) (t : Seat) where
  look_row : (c : ℕ) (x : Cell) → t.phase ≡ Reading → slice_get w.cells c ≡ Some x
      → (passes x.lock t.rv ≡ true) ⊎ (passes x.lock t.rv ≡ false) → Row w s t (Look c) (look w s t c x)
  look_row c x p f (inl m) = rw m (looks p f m)
  look_row c x p f (inr m) = rw m (look_conflicts p f m)

  relook_row : (c word v : ℕ) (x : Cell) → t.phase ≡ Loaded c word v → slice_get w.cells c ≡ Some x
      → ((x.lock == word) ≡ true) ⊎ ((x.lock == word) ≡ false) → Row w s t (Relook c) (relook w s t c word v x)
  relook_row c word v x p f (inl m) = rw m (relooks p f m)
  relook_row c word v x p f (inr m) = rw m (relook_conflicts p f m)

  check_row : (i u c : ℕ) (x : Cell) → t.phase ≡ Checking i u → is_due t u c ≡ true → slice_get w.cells c ≡ Some x
      → (passes x.lock t.rv ≡ true) ⊎ (passes x.lock t.rv ≡ false) → Row w s t (Check c) (check w s t i c x)
  check_row i u c x p d f (inl m) =
      subst (λ (y : Bool). Row w s t (Check c)
      (with_seat w s (if y then in_phase (saw t c x.lock) (Checking i (suc c)) else conflict (saw t c x.lock) (Voiding i))))
      (sym m) (checks p d f m)
  check_row i u c x p d f (inr m) =
      subst (λ (y : Bool). Row w s t (Check c)
      (with_seat w s (if y then in_phase (saw t c x.lock) (Checking i (suc c)) else conflict (saw t c x.lock) (Voiding i))))
      (sym m) (check_conflicts p d f m)

  take_row : (c v : ℕ) (r : Read) (x : Cell) → (t.phase ≡ Reading) ⊎ ((t.phase ≡ Taking) × (all_below c t.held ≡ true))
      → find_read c t.reads ≡ Some r → slice_get w.cells c ≡ Some x
      → ((x.lock == r.word) ≡ true) ⊎ ((x.lock == r.word) ≡ false) → Row w s t (Take c v) (take_cell w s t c v r.word x)
  take_row c v r x p g f (inl m) =
      subst (λ (y : Bool). Row w s t (Take c v) (if y then taken w s t c v r.word x else with_seat w s
      (conflict (saw t c x.lock) (if is_nil t.held then Idle else Failing)))) (sym m) (takes p g f m)
  take_row c v r x p g f (inr m) =
      subst (λ (y : Bool). Row w s t (Take c v) (if y then taken w s t c v r.word x else with_seat w s
      (conflict (saw t c x.lock) (if is_nil t.held then Idle else Failing)))) (sym m) (take_conflicts p g f m)

  take_rows : (c v : ℕ) → (t.phase ≡ Reading) ⊎ ((t.phase ≡ Taking) × (all_below c t.held ≡ true))
      → IfSome (given (find_read c t.reads) (λ r. given (slice_get w.cells c) (λ x. Some (take_cell w s t c v r.word x))))
      (Row w s t (Take c v))
  take_rows c v p =
      given_keeps (Row w s t (Take c v)) (find_read c t.reads) (λ r. given (slice_get w.cells c) (λ x. Some (take_cell w s t c v r.word x)))
      (λ r g. given_keeps (Row w s t (Take c v)) (slice_get w.cells c) (λ x. Some (take_cell w s t c v r.word x))
      (λ x f. take_row c v r x p g f (known (x.lock == r.word))))

  act_rows : (p : Phase) (a : Action) → t.phase ≡ p → IfSome (act w s t p a) (Row w s t a)
  act_rows Idle Begin q = begins (inl q)
  act_rows Reading Begin q = begins (inr q)
  act_rows Reading (Look c) q =
      given_keeps (Row w s t (Look c)) (slice_get w.cells c) (λ x. Some (look w s t c x))
      (λ x f. look_row c x q f (known (passes x.lock t.rv)))
  act_rows (Looked d word) (Load c) q =
      only_keeps (Row w s t (Load c)) (d == c) (given (slice_get w.cells c) (λ x. Some (load w s t c word x)))
      (λ b. given_keeps (Row w s t (Load c)) (slice_get w.cells c) (λ x. Some (load w s t c word x))
      (λ x f. loads (q ∙ ap (λ (y : ℕ). Looked y word) (equal_numbers d c b)) f))
  act_rows (Loaded d word v) (Relook c) q =
      only_keeps (Row w s t (Relook c)) (d == c) (given (slice_get w.cells c) (λ x. Some (relook w s t c word v x)))
      (λ b. given_keeps (Row w s t (Relook c)) (slice_get w.cells c) (λ x. Some (relook w s t c word v x))
      (λ x f. relook_row c word v x (q ∙ ap (λ (y : ℕ). Loaded y word v) (equal_numbers d c b)) f (known (x.lock == word))))
  act_rows Reading (Take c v) q = take_rows c v (inl q)
  act_rows Taking (Take c v) q =
      only_keeps (Row w s t (Take c v)) (all_below c t.held)
      (given (find_read c t.reads) (λ r. given (slice_get w.cells c) (λ x. Some (take_cell w s t c v r.word x))))
      (λ b. take_rows c v (inr (q, b)))
  act_rows Taking Draw q = draws q
  act_rows (Checking i u) (Check c) q =
      only_keeps (Row w s t (Check c)) (not (is_next t i) && is_due t u c)
      (given (find_read c t.reads) (λ r. given (slice_get w.cells c) (λ x. Some (check w s t i c x))))
      (λ b. given_keeps (Row w s t (Check c)) (find_read c t.reads) (λ r. given (slice_get w.cells c) (λ x. Some (check w s t i c x)))
      (λ r g. given_keeps (Row w s t (Check c)) (slice_get w.cells c) (λ x. Some (check w s t i c x))
      (λ x f. check_row i u c x q (both_right (not (is_next t i)) (is_due t u c) b) f (known (passes x.lock t.rv)))))
  act_rows (Checking i u) (Store c) q =
      only_keeps (Row w s t (Store c)) (is_next t i || all_settled t.held u t.reads)
      (given (find_held c t.held) (λ k. given (slice_get w.cells c) (λ x. Some (store w s t i c k x))))
      (λ b. given_keeps (Row w s t (Store c)) (find_held c t.held) (λ k. given (slice_get w.cells c) (λ x. Some (store w s t i c k x)))
      (λ k g. given_keeps (Row w s t (Store c)) (slice_get w.cells c) (λ x. Some (store w s t i c k x))
      (λ x f. stores (inl (u, q, b)) g f)))
  act_rows (Storing i) (Store c) q =
      given_keeps (Row w s t (Store c)) (find_held c t.held) (λ k. given (slice_get w.cells c) (λ x. Some (store w s t i c k x)))
      (λ k g. given_keeps (Row w s t (Store c)) (slice_get w.cells c) (λ x. Some (store w s t i c k x)) (λ x f. stores (inr q) g f))
  act_rows (Storing i) (Release c) q =
      given_keeps (Row w s t (Release c)) (find_held c t.held)
      (λ k. only_if k.stored (given (slice_get w.cells c) (λ x. Some (release w s t c (2 * suc i) x w.history))))
      (λ k g. only_keeps (Row w s t (Release c)) k.stored
      (given (slice_get w.cells c) (λ x. Some (release w s t c (2 * suc i) x w.history)))
      (λ b. given_keeps (Row w s t (Release c)) (slice_get w.cells c) (λ x. Some (release w s t c (2 * suc i) x w.history))
      (λ x f. releases_done q g b f)))
  act_rows Failing (Release c) q =
      given_keeps (Row w s t (Release c)) (find_held c t.held)
      (λ k. given (slice_get w.cells c) (λ x. Some (release w s t c k.word x w.history)))
      (λ k g. given_keeps (Row w s t (Release c)) (slice_get w.cells c) (λ x. Some (release w s t c k.word x w.history))
      (λ x f. releases_failed q g f))
  act_rows (Voiding i) (Release c) q =
      given_keeps (Row w s t (Release c)) (find_held c t.held)
      (λ k. given (slice_get w.cells c) (λ x. Some (release w s t c k.word x (settle w.history i Void))))
      (λ k g. given_keeps (Row w s t (Release c)) (slice_get w.cells c) (λ x. Some (release w s t c k.word x (settle w.history i Void)))
      (λ x f. releases_void q g f))
  act_rows _ _ q = tt

-- a lawful event is of a seat, by a row
pub row_of : (w v : World) (s : ℕ) (a : Action) → next w s a ≡ Some v → (t : Seat) × (slice_get w.seats s ≡ Some t) × Row w s t a v
row_of w v s a e =
    some_keeps (λ (u : World). (t : Seat) × (slice_get w.seats s ≡ Some t) × Row w s t a u) (next w s a) v
    (given_keeps (λ (u : World). (t : Seat) × (slice_get w.seats s ≡ Some t) × Row w s t a u) (slice_get w.seats s)
    (λ t. act w s t t.phase a) (λ t f. with_found t f (act w s t t.phase a) (act_rows w s t t.phase a refl))) e
  where
    with_found : (t : Seat) → slice_get w.seats s ≡ Some t → (x : Option World) → IfSome x (Row w s t a)
        → IfSome x (λ (u : World). (t : Seat) × (slice_get w.seats s ≡ Some t) × Row w s t a u)
    with_found t f None h = tt
    with_found t f (Some u) h = (t, f, h)
