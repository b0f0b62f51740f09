-- What the functions of src/machine.rt ask of the invariant: numbers fit, and a step leads to a reachable world.
use Rattle.std.proofs.Common.{Bool, List, None, Option, Some, [], add-one, ap, arith, false, length, refl, slice_get, slice_set, subst, suc}
use Rattle.std.proofs.Common.{sym, true, zero, ℕ, ◌++◌, ◌+◌, ◌<◌, ◌∙◌, ◌∷◌, ◌≡◌, ◌≤◌}
use Rattle.std.specs.Bool.{MatchBool}
use Rattle.tlcore.specs.History.{WordsEntry, IsOne}
use Rattle.tlcore.specs.Seats.{Read, Seat, Storing, find_read, idle, number_at}
use Rattle.tlcore.specs.Machine.{Action, Cell, World, act, given, next}
use Rattle.tlcore.specs.Schedules.{opened, seated}
use Rattle.tlcore.specs.Invariant.{Invariant, IsOld, SeatOk}
use Rattle.tlcore.specs.Steps.{Acts, MeetsInvariant, world_of}
use Rattle.tlcore.proofs.Events.{event_keeps}
use Rattle.tlcore.proofs.Opacity.{start_ok}
use Rattle.tlcore.proofs.SeatParts.{find_read-ok, number_within}

pub words_fit : (w : World) (s : ℕ) (t : Seat) → MeetsInvariant w → slice_get w.seats s ≡ Some t → length w.history < 4611686018427387904
    → (c : ℕ) (r : Read) → find_read c t.reads ≡ Some r → r.word < 18446744073709551615
words_fit w s t I e l c r f =
    let q : SeatOk I.0 w.cells w.history t = I.1.consistent.seats s t e in
    let b : (r.cell ≡ c) × IsOld r.word t.rv × IsOne I.0 w.history t.rv c r.value = find_read-ok I.0 w.history t.rv c t.reads r q.reads f in
    omega (arith, b.1.1, b.1.2, q.rv, l)

pub numbers_fit : (w : World) (s : ℕ) (t : Seat) → MeetsInvariant w → slice_get w.seats s ≡ Some t → length w.history < 4611686018427387904
    → (before : ℕ) → t.phase ≡ Storing before → before < 4611686018427387904
numbers_fit w s t I e l i p =
    let q : SeatOk I.0 w.cells w.history t = I.1.consistent.seats s t e in
    let b : i < length w.history = number_within I.0 w.cells w.history t t.phase i q.phase (ap number_at p) in
    omega (arith, b, l)

pub acts_next :
    (xs : List Cell) (ss : List Seat) (h : List WordsEntry) (s : ℕ) (t : Seat) (a : Action) (b : Bool) (ys : List Cell) (z : Seat)
    (g : List WordsEntry)
    → slice_get ss s ≡ Some t → Acts xs t h a b ys z g
    → MatchBool b (next (world_of xs ss h) s a ≡ Some (world_of ys (slice_set ss s z) g)) (next (world_of xs ss h) s a ≡ None)
acts_next xs ss h s t a true ys z g e k = ap (λ (y : Option Seat). given y (λ t. act (world_of xs ss h) s t t.phase a)) e ∙ k ss s
acts_next xs ss h s t a false ys z g e k = ap (λ (y : Option Seat). given y (λ t. act (world_of xs ss h) s t t.phase a)) e ∙ k ss s

get_past : {A : Type 0} (xs : List A) (i : ℕ) → length xs ≤ i → slice_get xs i ≡ None
get_past [] i l = refl
get_past (x ∷ xs) zero l = absurd (omega arith)
get_past (x ∷ xs) (suc i) l = get_past xs i (omega arith)

pub next_past : (xs : List Cell) (ss : List Seat) (h : List WordsEntry) (s : ℕ) (a : Action) → length ss ≤ s
    → next (world_of xs ss h) s a ≡ None
next_past xs ss h s a l = ap (λ (y : Option Seat). given y (λ t. act (world_of xs ss h) s t t.phase a)) (get_past ss s l)

pub reachable_next : (w v : World) (s : ℕ) (a : Action) → MeetsInvariant w → next w s a ≡ Some v → MeetsInvariant v
reachable_next w v s a I e = (I.0, (event_keeps I.0 w v s a I.1 e).invariant)

pub seated_more : (n : ℕ) → seated n ++ idle ∷ [] ≡ seated (n + 1)
seated_more n = rw add-one (go n)
  where
    go : (n : ℕ) → seated n ++ idle ∷ [] ≡ idle ∷ seated n
    go zero = refl
    go (suc n) = ap (λ (y : List Seat). idle ∷ y) (go n)

pub start_reachable : (vs : List ℕ) (n : ℕ) (xs : List Cell) (ss : List Seat) (h : List WordsEntry) → xs ≡ opened vs → ss ≡ seated n
    → h ≡ []
    → MeetsInvariant (world_of xs ss h)
start_reachable vs n xs ss h a b c = (
  vs,
  subst (λ (y : List Cell). Invariant vs (world_of y ss h)) (sym a)
      (subst (λ (y : List Seat). Invariant vs (world_of (opened vs) y h)) (sym b)
      (subst (λ (y : List WordsEntry). Invariant vs (world_of (opened vs) (seated n) y)) (sym c) (start_ok vs n))),
)
