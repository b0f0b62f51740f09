-- The values of cells that name ranges of the store, at the opening.
use Rattle.std.proofs.Common.{◌≡◌, ◌≢◌, ℕ, ◌+◌, ◌/◌, ◌%◌, ◌^◌, ◌≤◌, inl, inr, Bool, true, Some, List, [], length, slice_get, take, drop, get_or}
use Rattle.std.proofs.Common.{refl, ap, subst, arith, length-drop}
use Rattle.std.specs.Prelude.{All}
use Rattle.std.proofs.lemmas.List.{length-take-le}
use Rattle.std.proofs.lemmas.Option.{slice_get-get_or, slice_get_within}
use Rattle.ranges.specs.Ranges.{Range, Names, range_named, ranges_named}
use Rattle.ranges.proofs.Named.{has_its_ranges}
use Rattle.wordrows.specs.Seats.{IsNameIn}

-- a range that lies in the store has the length that the word tells
long : (store : List ℕ) (start len : ℕ) → start + len ≤ length store → length (take len (drop start store)) ≡ len
long store start len inside =
    let rest : len ≤ length (drop start store) = rw length-drop (omega (arith, inside)) in
    length-take-le len (drop start store) rest

name_in : (named : Bool) (store values : List ℕ) (c v : ℕ) → slice_get values c ≡ Some v → named ≡ true → IsNameIn (length store) v
    → Names (ranges_named (λ _. named) store values) v
name_in named store values c v here is (inl e) = inl e
name_in named store values c v here is (inr (some, inside)) =
    let r : Range = range_named store v in
    let len : length r.words ≡ v % 2 ^ 25 = long store (v / 2 ^ 25) (v % 2 ^ 25) inside in
    let has_words : r.words ≢ [] =
    λ e. (let z : length r.words ≡ 0 = ap (λ (ws : List ℕ). length ws) e in omega (arith, some, len, z)) in
    inr (r, has_its_ranges (λ _. named) store values r (c, v, here, is, refl, has_words), omega (arith, len))

-- values of an opening that name ranges of its store
pub values_named : (named : Bool) (store values : List ℕ) → (named ≡ true → All (IsNameIn (length store)) values)
    → (c v : ℕ) → slice_get values c ≡ Some v → named ≡ true → Names (ranges_named (λ _. named) store values) v
values_named named store values all c v here is =
    let at = all is c v (slice_get_within values c v here) in
    let e : get_or values c v ≡ v = (let f = slice_get-get_or values c v (slice_get_within values c v here) in cc) in
    name_in named store values c v here is (subst (IsNameIn (length store)) e at)
