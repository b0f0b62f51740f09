-- The laws of single events.
use Rattle.std.proofs.Common.{Bool, List, Option, Some, [], ap, arith, eq-eqb, false, inl, inr, length, not, refl, slice_get, subst, sym}
use Rattle.std.proofs.Common.{true, ℕ, ◌&&◌, ◌*◌, ◌++◌, ◌==◌, ◌||◌, ◌∙◌, ◌∷◌, ◌≡◌, ◌⊎◌}
use Rattle.tlcore.specs.History.{Void, settle, value, wv}
use Rattle.tlcore.specs.Seats.{Checking, Failing, Held, Idle, Loaded, Looked, Phase, Read, Reading, Seat, Storing, Taking, Voiding}
use Rattle.tlcore.specs.Seats.{all_below, all_settled, find_held, find_read, idle, is_due, is_next, number_at}
use Rattle.tlcore.specs.Machine.{Action, Begin, Cell, Check, Draw, Load, Look, Release, Relook, Store, Take, World, act, begun, check}
use Rattle.tlcore.specs.Machine.{drawn, given, load, look, next, only_if, release, relook, store, take_cell, with_seat}
use Rattle.tlcore.specs.Invariant.{HeldApart, Holds, Invariant, NumbersApart, SeatOk}
use Rattle.tlcore.specs.Laws.{BeginLeads, CheckLeads, DrawLeads, IdleSeatKeeps, Leads, LoadLeads, LookLeads, OneStays, ReleaseFailedLeads}
use Rattle.tlcore.specs.Laws.{ReleaseLeads, ReleaseVoidLeads, RelookLeads, StoreLeads, TakeLeads}
use Rattle.tlcore.proofs.Events.{event_keeps}
use Rattle.tlcore.proofs.Growth.{One-kept}
use Rattle.tlcore.proofs.Lists.{get-append_cases, get-append_left, get_within}

-- a chain of tests and look-ups that all pass
pub given_is : {A B : Type 0} (x : Option A) (f : A → Option B) (a : A) → x ≡ Some a → given x f ≡ f a
given_is x f a e = ap (λ y. given y f) e

pub only_is : {B : Type 0} (b : Bool) (x : Option B) → b ≡ true → only_if b x ≡ x
only_is b x e = ap (λ y. only_if y x) e

-- a lawful event of the seat t, by its row
next_is : (w v : World) (s : ℕ) (t : Seat) (p : Phase) (a : Action) → slice_get w.seats s ≡ Some t → t.phase ≡ p → act w s t p a ≡ Some v
    → next w s a ≡ Some v
next_is w v s t p a e q n =
    given_is (slice_get w.seats s) (λ t. act w s t t.phase a) t e ∙ (ap (λ (y : Phase). act w s t y a) q ∙ n)

leads : (o : List ℕ) (w v : World) (s : ℕ) (t : Seat) (p : Phase) (a : Action) → Invariant o w → slice_get w.seats s ≡ Some t → t.phase ≡ p
    → act w s t p a ≡ Some v → Leads o w s a v
leads o w v s t p a I e q n =
    let l : next w s a ≡ Some v = next_is w v s t p a e q n in
    record { lawful = l; keeps = event_keeps o w v s a I l }

pub begin_leads : BeginLeads
begin_leads o w s t I e (inl p) = leads o w (with_seat w s (begun w t)) s t Idle Begin I e p refl
begin_leads o w s t I e (inr p) = leads o w (with_seat w s (begun w t)) s t Reading Begin I e p refl

pub look_leads : LookLeads
look_leads o w s t c x I e p f =
    leads o w (look w s t c x) s t Reading (Look c) I e p
    (given_is (slice_get w.cells c) (λ (x : Cell). Some (look w s t c x)) x f)

same : (c : ℕ) → (c == c) ≡ true
same c = eq-eqb c c refl

pub load_leads : LoadLeads
load_leads o w s t c word x I e p f =
    leads o w (load w s t c word x) s t (Looked c word) (Load c) I e p
    (only_is (c == c) (given (slice_get w.cells c) (λ (x : Cell). Some (load w s t c word x))) (same c)
    ∙ given_is (slice_get w.cells c) (λ (x : Cell). Some (load w s t c word x)) x f)

pub relook_leads : RelookLeads
relook_leads o w s t c word value x I e p f =
    leads o w (relook w s t c word value x) s t (Loaded c word value) (Relook c) I e p
    (only_is (c == c) (given (slice_get w.cells c) (λ (x : Cell). Some (relook w s t c word value x))) (same c)
    ∙ given_is (slice_get w.cells c) (λ (x : Cell). Some (relook w s t c word value x)) x f)

-- the try of a cell that was read
tried : (w : World) (s : ℕ) (t : Seat) (c value : ℕ) (r : Read) (x : Cell) → find_read c t.reads ≡ Some r → slice_get w.cells c ≡ Some x
    → given (find_read c t.reads) (λ (r : Read). given (slice_get w.cells c) (λ (x : Cell). Some (take_cell w s t c value r.word x)))
    ≡ Some (take_cell w s t c value r.word x)
tried w s t c value r x g f =
    given_is (find_read c t.reads) (λ (r : Read). given (slice_get w.cells c) (λ (x : Cell). Some (take_cell w s t c value r.word x))) r g
    ∙ given_is (slice_get w.cells c) (λ (x : Cell). Some (take_cell w s t c value r.word x)) x f

pub take_leads : TakeLeads
take_leads o w s t c value r x I e (inl p) g f =
    leads o w (take_cell w s t c value r.word x) s t Reading (Take c value) I e p (tried w s t c value r x g f)
take_leads o w s t c value r x I e (inr p) g f =
    leads o w (take_cell w s t c value r.word x) s t Taking (Take c value) I e p.0
    (only_is (all_below c t.held) (given (find_read c t.reads)
    (λ (r : Read). given (slice_get w.cells c) (λ (x : Cell). Some (take_cell w s t c value r.word x)))) p.1
    ∙ tried w s t c value r x g f)

pub draw_leads : DrawLeads
draw_leads o w s t I e p = leads o w (drawn w s t) s t Taking Draw I e p refl

both_pass : (a b : Bool) → a ≡ false → b ≡ true → (not a && b) ≡ true
both_pass true b p q = cc
both_pass false b p q = q

pub check_leads : CheckLeads
check_leads o w s t i upto c r x I e p n d g f =
    leads o w (check w s t i c x) s t (Checking i upto) (Check c) I e p
    (only_is (not (is_next t i) && is_due t upto c) (given (find_read c t.reads)
    (λ (r : Read). given (slice_get w.cells c) (λ (x : Cell). Some (check w s t i c x))))
    (both_pass (is_next t i) (is_due t upto c) n d)
    ∙ (given_is (find_read c t.reads) (λ (r : Read). given (slice_get w.cells c) (λ (x : Cell). Some (check w s t i c x))) r g
    ∙ given_is (slice_get w.cells c) (λ (x : Cell). Some (check w s t i c x)) x f))

-- what is done with a cell that is held
with_held : (w : World) (t : Seat) (c : ℕ) (k : Held) (x : Cell) (after : Held → Cell → World) → find_held c t.held ≡ Some k
    → slice_get w.cells c ≡ Some x
    → given (find_held c t.held) (λ (k : Held). given (slice_get w.cells c) (λ (x : Cell). Some (after k x))) ≡ Some (after k x)
with_held w t c k x after g f =
    given_is (find_held c t.held) (λ (k : Held). given (slice_get w.cells c) (λ (x : Cell). Some (after k x))) k g
    ∙ given_is (slice_get w.cells c) (λ (x : Cell). Some (after k x)) x f

pub store_leads : StoreLeads
store_leads o w s t i c k x I e (inl p) g f =
    leads o w (store w s t i c k x) s t (Checking i p.0) (Store c) I e p.1
    (only_is (is_next t i || all_settled t.held p.0 t.reads)
    (given (find_held c t.held) (λ (k : Held). given (slice_get w.cells c) (λ (x : Cell). Some (store w s t i c k x)))) p.2
    ∙ with_held w t c k x (λ (k : Held) (x : Cell). store w s t i c k x) g f)
store_leads o w s t i c k x I e (inr p) g f =
    leads o w (store w s t i c k x) s t (Storing i) (Store c) I e p (with_held w t c k x (λ (k : Held) (x : Cell). store w s t i c k x) g f)

pub release_leads : ReleaseLeads
release_leads o w s t i c k x I e p g m f =
    leads o w (release w s t c (2 * wv i) x w.history) s t (Storing i) (Release c) I e p
    (given_is (find_held c t.held) (λ (k : Held). only_if k.stored
    (given (slice_get w.cells c) (λ (x : Cell). Some (release w s t c (2 * wv i) x w.history)))) k g
    ∙ (only_is k.stored (given (slice_get w.cells c) (λ (x : Cell). Some (release w s t c (2 * wv i) x w.history))) m
    ∙ given_is (slice_get w.cells c) (λ (x : Cell). Some (release w s t c (2 * wv i) x w.history)) x f))

pub release_failed_leads : ReleaseFailedLeads
release_failed_leads o w s t c k x I e p g f =
    leads o w (release w s t c k.word x w.history) s t Failing (Release c) I e p
    (with_held w t c k x (λ (k : Held) (x : Cell). release w s t c k.word x w.history) g f)

pub release_void_leads : ReleaseVoidLeads
release_void_leads o w s t i c k x I e p g f =
    leads o w (release w s t c k.word x (settle w.history i Void)) s t (Voiding i) (Release c) I e p
    (with_held w t c k x (λ (k : Held) (x : Cell). release w s t c k.word x (settle w.history i Void)) g f)

-- ---- an idle seat

module _ (o : List ℕ) (w : World) (I : Invariant o w) where
  -- a seat of the longer list is one of before, or the idle one
  seat_cases : (s : ℕ) (t : Seat) → slice_get (w.seats ++ idle ∷ []) s ≡ Some t → (slice_get w.seats s ≡ Some t) ⊎ (t ≡ idle)
  seat_cases s t e = go (get-append_cases w.seats idle s)
    where
      go :
          (slice_get (w.seats ++ idle ∷ []) s ≡ slice_get w.seats s)
          ⊎ ((s ≡ length w.seats) × (slice_get (w.seats ++ idle ∷ []) s ≡ Some idle))
          → (slice_get w.seats s ≡ Some t) ⊎ (t ≡ idle)
      go (inl p) = inl (sym p ∙ e)
      go (inr p) = let q : Some idle ≡ Some t = sym p.1 ∙ e in let r : idle ≡ t = cc in inr (sym r)

  idle_holds : (t : Seat) (c : ℕ) (k : Held) → t ≡ idle → find_held c t.held ≡ Some k → ⊥
  idle_holds t c k e f = let q : find_held c (idle).held ≡ Some k = subst (λ (y : Seat). find_held c y.held ≡ Some k) e f in cc

  idle_number : (t : Seat) (i : ℕ) → t ≡ idle → number_at t.phase ≡ Some i → ⊥
  idle_number t i e f = let q : number_at (idle).phase ≡ Some i = subst (λ (y : Seat). number_at y.phase ≡ Some i) e f in cc

  idle_seat : SeatOk o w.cells w.history idle
  idle_seat = record { phase = refl; rv = omega arith; reads = tt; held = λ c k f. cc }

  seats_ok : (s : ℕ) (t : Seat) → slice_get (w.seats ++ idle ∷ []) s ≡ Some t → SeatOk o w.cells w.history t
  seats_ok s t e = go (seat_cases s t e)
    where
      go : (slice_get w.seats s ≡ Some t) ⊎ (t ≡ idle) → SeatOk o w.cells w.history t
      go (inl p) = I.consistent.seats s t p
      go (inr p) = subst (λ (y : Seat). SeatOk o w.cells w.history y) (sym p) idle_seat

  apart : HeldApart (w.seats ++ idle ∷ [])
  apart s z t u c k l e f g h = go (seat_cases s t e) (seat_cases z u f)
    where
      go : (slice_get w.seats s ≡ Some t) ⊎ (t ≡ idle) → (slice_get w.seats z ≡ Some u) ⊎ (u ≡ idle) → s ≡ z
      go (inl p) (inl q) = I.consistent.held_apart s z t u c k l p q g h
      go (inr p) q = absurd (idle_holds t c k p g)
      go (inl p) (inr q) = absurd (idle_holds u c l q h)

  numbers : NumbersApart (w.seats ++ idle ∷ [])
  numbers s z t u i e f g h = go (seat_cases s t e) (seat_cases z u f)
    where
      go : (slice_get w.seats s ≡ Some t) ⊎ (t ≡ idle) → (slice_get w.seats z ≡ Some u) ⊎ (u ≡ idle) → s ≡ z
      go (inl p) (inl q) = I.consistent.numbers_apart s z t u i p q g h
      go (inr p) q = absurd (idle_number t i p g)
      go (inl p) (inr q) = absurd (idle_number u i q h)

  with_idle : Invariant o (record w { seats = w.seats ++ idle ∷ [] })
  with_idle =
      record {
        consistent = record {
          clock = I.consistent.clock;
          cells = I.consistent.cells;
          history = I.consistent.history;
          seats = seats_ok;
          held_apart = apart;
          numbers_apart = numbers;
        };
        locked_are_held = λ c v x e f.
            let h : (s : ℕ) × (t : Seat) × (slice_get w.seats s ≡ Some t) × Holds t c = I.locked_are_held c v x e f in
            (h.0, h.1, get-append_left w.seats (idle ∷ []) h.0 (get_within w.seats h.0 h.1 h.2) ∙ h.2, h.3);
      }

pub idle_seat_keeps : IdleSeatKeeps
idle_seat_keeps o w I = with_idle o w I

pub one_stays : OneStays
one_stays o g h k reads r l p = One-kept o g h k reads r l p
