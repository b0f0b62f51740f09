-- The ranges of a store that words name.
use Rattle.std.proofs.Common.{◌≡◌, ◌≢◌, ◌⊎◌, ⊎_elim, Bool, true, false, ℕ, zero, suc, ◌+◌, ◌/◌, ◌%◌, ◌^◌, ◌<◌, ◌≤◌, inl, inr, Some, List}
use Rattle.std.proofs.Common.{[], ◌∷◌, ◌++◌, length, slice_get, sym, ap, ◌∙◌, subst, refl, arith, take, drop}
use Rattle.std.proofs.lemmas.Option.{slice_get-get_or, slice_get_within}
use Rattle.ranges.specs.Ranges.{Range, Has, IsStored, AreOfOneStore, range_named, with_range, with_named, named_from, ranges_named, IsNamed}
use Rattle.ranges.proofs.Stored.{stored_coherent}

get_append : (xs ys : List ℕ) (i : ℕ) → i < length xs → slice_get (xs ++ ys) i ≡ slice_get xs i
get_append [] ys i h = absurd (omega arith)
get_append (z ∷ xs) ys zero h = refl
get_append (z ∷ xs) ys (suc i) h = get_append xs ys i (omega arith)

-- what stands in a part of the list stands in the list
taken : (n i w : ℕ) (xs : List ℕ) → slice_get (take n xs) i ≡ Some w → slice_get xs i ≡ Some w
taken zero i w xs e = absurd (cc)
taken (suc n) i w [] e = absurd (cc)
taken (suc n) zero w (x ∷ xs) e = e
taken (suc n) (suc i) w (x ∷ xs) e = taken n i w xs e

pub part_get : (n s i w : ℕ) (xs : List ℕ) → slice_get (take n (drop s xs)) i ≡ Some w → slice_get xs (s + i) ≡ Some w
part_get n zero i w xs e = ap (λ (k : ℕ). slice_get xs k) (let z : 0 + i ≡ i = omega arith in z) ∙ taken n i w xs e
part_get n (suc s) i w [] e = let none : slice_get [] i ≡ Some w = taken n i w [] e in absurd (cc)
part_get n (suc s) i w (x ∷ xs) e = ap (λ (k : ℕ). slice_get (x ∷ xs) k) (let k : suc s + i ≡ suc (s + i) = omega arith in k)
    ∙ part_get n s i w xs e

part_within : (n s i : ℕ) (xs : List ℕ) → i < length (take n (drop s xs)) → s + i < length xs
part_within n s i xs l = slice_get_within xs (s + i) _ (part_get n s i _ xs (slice_get-get_or (take n (drop s xs)) i 0 l))

-- a range that an opening names is one that some value of a range cell names, and has words
has_range : (r q : Range) (ws : List ℕ) (rs : List Range) → Has r (with_range q ws rs) → ((r ≡ q) × (ws ≢ [])) ⊎ Has r rs
has_range r q [] rs has = inr has
has_range r q (w ∷ ws) rs (inl e) = inl (e, λ p. cons_not_nil w ws p)
  where
    cons_not_nil : (w : ℕ) (ws : List ℕ) → w ∷ ws ≡ [] → ⊥
    cons_not_nil w ws e = cc
has_range r q (w ∷ ws) rs (inr has) = inr has

has_named : (b : Bool) (r q : Range) (rs : List Range) → Has r (with_named b q rs) → ((b ≡ true) × (r ≡ q) × (q.words ≢ [])) ⊎ Has r rs
has_named false r q rs has = inr has
has_named true r q rs has = ⊎_elim (λ (p : (r ≡ q) × (q.words ≢ [])). inl (refl, p.0, p.1)) (λ (p : Has r rs). inr p)
    (has_range r q q.words rs has)

named_in : (ranged : ℕ → Bool) (store : List ℕ) (c : ℕ) (values : List ℕ) (r : Range) → Has r (named_from ranged store c values)
    → (k : ℕ) × (v : ℕ) × (slice_get values k ≡ Some v) × (ranged (c + k) ≡ true) × (r ≡ range_named store v) × (r.words ≢ [])
named_in ranged store c [] r has = absurd has
named_in ranged store c (v ∷ vs) r has = ⊎_elim
    (λ (p : (ranged c ≡ true) × (r ≡ range_named store v) × ((range_named store v).words ≢ [])). (
      0,
      v,
      refl,
      ap ranged (let z : c + 0 ≡ c = omega arith in z) ∙ p.0,
      p.1,
      λ e. p.2 (ap (λ (q : Range). q.words) (sym p.1) ∙ e),
    ))
    (λ (p : Has r (named_from ranged store (suc c) vs)).
    let q = named_in ranged store (suc c) vs r p in
    (suc q.0, q.1, q.2, ap ranged (let z : c + suc q.0 ≡ suc c + q.0 = omega arith in z) ∙ q.3, q.4, q.5))
    (has_named (ranged c) r (range_named store v) (named_from ranged store (suc c) vs) has)

pub is_named : (ranged : ℕ → Bool) (store values : List ℕ) (r : Range) → Has r (ranges_named ranged store values)
    → IsNamed ranged store values r
is_named ranged store values r has =
    let q = named_in ranged store 0 values r has in
    (q.0, q.1, q.2, ap ranged (let z : q.0 ≡ 0 + q.0 = omega arith in z) ∙ q.3, q.4, q.5)

here_range : (r : Range) (ws : List ℕ) (rs : List Range) → ws ≢ [] → Has r (with_range r ws rs)
here_range r [] rs has_words = absurd (has_words refl)
here_range r (w ∷ ws) rs has_words = inl refl

here_named : (b : Bool) (r : Range) (rs : List Range) → b ≡ true → r.words ≢ [] → Has r (with_named b r rs)
here_named false r rs e has_words = absurd (cc)
here_named true r rs e has_words = here_range r r.words rs has_words

there_range : (r q : Range) (ws : List ℕ) (rs : List Range) → Has r rs → Has r (with_range q ws rs)
there_range r q [] rs has = has
there_range r q (w ∷ ws) rs has = inr has

there_named : (b : Bool) (r q : Range) (rs : List Range) → Has r rs → Has r (with_named b q rs)
there_named false r q rs has = has
there_named true r q rs has = there_range r q q.words rs has

named_at : (ranged : ℕ → Bool) (store : List ℕ) (c k v : ℕ) (values : List ℕ) → slice_get values k ≡ Some v → ranged (c + k) ≡ true
    → (range_named store v).words ≢ [] → Has (range_named store v) (named_from ranged store c values)
named_at ranged store c k v [] e is has_words = absurd (cc)
named_at ranged store c zero v (u ∷ us) e is has_words =
    let q : u ≡ v = cc in
    subst (λ (x : ℕ). Has (range_named store v) (with_named (ranged c) (range_named store x) (named_from ranged store (suc c) us))) (sym q)
    (here_named (ranged c) (range_named store v) (named_from ranged store (suc c) us)
    (ap ranged (let z : c ≡ c + 0 = omega arith in z) ∙ is) has_words)
named_at ranged store c (suc k) v (u ∷ us) e is has_words =
    there_named (ranged c) (range_named store v) (range_named store u) (named_from ranged store (suc c) us)
    (named_at ranged store (suc c) k v us e (ap ranged (let z : suc c + k ≡ c + suc k = omega arith in z) ∙ is) has_words)

-- the ranges of an opening are those that its range cells name and that have words
pub has_its_ranges : (ranged : ℕ → Bool) (store values : List ℕ) (r : Range) → IsNamed ranged store values r
    → Has r (ranges_named ranged store values)
has_its_ranges ranged store values r p =
    subst (λ (q : Range). Has q (ranges_named ranged store values)) (sym p.4)
    (named_at ranged store 0 p.0 p.1 values p.2 (ap ranged (let z : 0 + p.0 ≡ p.0 = omega arith in z) ∙ p.3)
    (λ e. p.5 (ap (λ (q : Range). q.words) p.4 ∙ e)))

-- the ranges that the values name are stored, whatever stands behind the store's words
pub named_stored : (ranged : ℕ → Bool) (store values more : List ℕ) (r : Range) → Has r (ranges_named ranged store values)
    → IsStored (length store) (store ++ more) r
named_stored ranged store values more r has =
    let p = is_named ranged store values r has in
    subst (λ (r : Range). IsStored (length store) (store ++ more) r) (sym p.4)
    (λ i w e.
    let here = part_get (p.1 % 2 ^ 25) (p.1 / 2 ^ 25) i w store e in
    let l = slice_get_within store (p.1 / 2 ^ 25 + i) w here in
    (get_append store more (p.1 / 2 ^ 25 + i) l ∙ here, l))

lies_in : (ranged : ℕ → Bool) (store values : List ℕ) (room : ℕ) → length store ≤ room → (r : Range)
    → Has r (ranges_named ranged store values)
    → (i : ℕ) → i < length r.words → r.start + i < room
lies_in ranged store values room l r has =
    let p = is_named ranged store values r has in
    subst (λ (r : Range). (i : ℕ) → i < length r.words → r.start + i < room) (sym p.4)
    (λ i m. let w = part_within (p.1 % 2 ^ 25) (p.1 / 2 ^ 25) i store m in omega (arith, w, l))

pub named_of_one : (ranged : ℕ → Bool) (store values : List ℕ) (room : ℕ) → length store ≤ room
    → AreOfOneStore room (ranges_named ranged store values)
named_of_one ranged store values room l = (
  lies_in ranged store values room l,
  stored_coherent (length store) (store ++ []) (ranges_named ranged store values) (named_stored ranged store values []),
)
