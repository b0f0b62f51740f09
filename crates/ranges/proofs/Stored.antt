-- Ranges that are stored in one store.
use Rattle.std.proofs.Common.{◌≡◌, ℕ, ◌+◌, ◌<◌, ◌≤◌, Some, List, length, slice_get, ap, arith}
use Rattle.std.proofs.lemmas.Option.{slice_get-get_or}
use Rattle.ranges.specs.Ranges.{Range, Has, IsStored, AreCoherent}

-- ranges that are stored in one store are coherent
pub stored_coherent : (tail : ℕ) (store : List ℕ) (ranges : List Range) → ((r : Range) → Has r ranges → IsStored tail store r)
    → AreCoherent ranges
stored_coherent tail store ranges stored r q i j w v in_r in_q at a b =
    let x = (stored r in_r i w a).0 in
    let y = (stored q in_q j v b).0 in
    let z : slice_get store (r.start + i) ≡ slice_get store (q.start + j) = ap (slice_get store) at in
    cc

-- where more of the store is taken, it is stored still
pub stored_on : (tail later : ℕ) (store : List ℕ) (r : Range) → tail ≤ later → IsStored tail store r → IsStored later store r
stored_on tail later store r l f i w e =
    let a : (slice_get store (r.start + i) ≡ Some w) × (r.start + i < tail) = f i w e in
    let b : r.start + i < tail = a.1 in
    (a.0, omega (arith, b, l))

-- a word of a stored range lies below the tail
pub below_tail : (tail : ℕ) (store : List ℕ) (r : Range) (i : ℕ) → IsStored tail store r → i < length r.words → r.start + i < tail
below_tail tail store r i f l = (f i _ (slice_get-get_or r.words i 0 l)).1
