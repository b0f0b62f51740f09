-- Range cells of a shown library hold 0 or words that name its ranges; and a word that names a stored range names no other.
use Rattle.std.proofs.Common.{◌≡◌, ◌≢◌, ◌∙◌, ap, sym, subst, refl, ℕ, zero, suc, ◌+◌, ◌*◌, ◌/◌, ◌%◌, ◌^◌, ◌<◌, ◌≤◌, true, List, [], ◌∷◌, length, take, drop, Some, inl, inr, arith}
use Rattle.std.specs.Prelude.{◌⊎◌, nat_lt, slice_get, slice_index}
use Rattle.std.proofs.lemmas.Bool.{and_parts, ltb-true}
use Rattle.std.proofs.lemmas.Option.{slice_get-get_or, slice_get_within, get_or_from_slice_get}
use Rattle.mmsyntax.specs.declared.statement.Kind.{Kind}
use Rattle.mmsyntax.specs.declared.statement.Kind.TheVariants.{Axiom, Theorem}
use Rattle.mmsyntax.specs.declared.statement.Step.{Step}
use Rattle.library.specs.declared.library.Ranked.{Ranked}
use Rattle.ranges.specs.Ranges.{Range, Has, Names, IsStored, word_of, range_named}
use Rattle.cells.specs.State.{State, HasBody, most_words}
use Rattle.cells.specs.Slots.{name_cell, statement_cell, proof_cell, is_ranged}
use Rattle.cells.specs.Shows.{Held, slots_of, HoldsProof, Holds, IsEmpty, Shows}
use Rattle.ranges.proofs.Members.{all_has, mapped_has}
use Rattle.plaincells.proofs.Stores.{has_some}

-- ---- the words of a range that is stored

front_is : (words xs : List ℕ) → ((i w : ℕ) → slice_get words i ≡ Some w → slice_get xs i ≡ Some w) → take (length words) xs ≡ words
front_is [] xs at = refl
front_is (w ∷ words) [] at = let e = at zero w refl in absurd (cc)
front_is (w ∷ words) (x ∷ xs) at =
    let e = at zero w refl in
    let same : x ≡ w = cc in
    let rest = front_is words xs (λ i v h. at (suc i) v h) in
    λ i. same i ∷ rest i

part_is : (start : ℕ) (words store : List ℕ) → ((i w : ℕ) → slice_get words i ≡ Some w → slice_get store (start + i) ≡ Some w)
    → take (length words) (drop start store) ≡ words
part_is zero words store at = front_is words store (λ i w h. ap (slice_get store) (let e : i ≡ 0 + i = omega arith in e) ∙ at i w h)
part_is (suc s) words [] at = front_is words [] (λ i w h. let none = at i w h in absurd (cc))
part_is (suc s) words (x ∷ store) at =
    part_is s words store (λ i w h. ap (slice_get (x ∷ store)) (let e : suc (s + i) ≡ suc s + i = omega arith in e) ∙ at i w h)

part_within : (start : ℕ) (words store : List ℕ) → words ≢ []
    → ((i w : ℕ) → slice_get words i ≡ Some w → slice_get store (start + i) ≡ Some w)
    → start + length words ≤ length store
part_within start [] store some at = absurd (some refl)
part_within start (w ∷ words) store some at =
    let last = slice_get-get_or (w ∷ words) (length words) w (omega arith) in
    let lt = slice_get_within store (start + length words) _ (at (length words) _ last) in
    omega (arith, lt)

-- ---- a word that names a stored range with words

module _ (tail : ℕ) (store : List ℕ) (short : length store ≤ most_words) (r : Range) (stored : IsStored tail store r) (some : r.words ≢ [])
    (v : ℕ) (is : v ≡ word_of r) where
  here : (i w : ℕ) → slice_get r.words i ≡ Some w → slice_get store (r.start + i) ≡ Some w
  here i w at = (stored i w at).0

  within : r.start + length r.words ≤ length store
  within = part_within r.start r.words store some here

  start_of : v / 2 ^ 25 ≡ r.start
  start_of = let lies = within in omega (arith, is, lies, short)

  count_of : v % 2 ^ 25 ≡ length r.words
  count_of = let lies = within in omega (arith, is, lies, short)

  -- it names no other
  pub stored_named : range_named store v ≡ r
  stored_named =
      let words : take (v % 2 ^ 25) (drop (v / 2 ^ 25) store) ≡ r.words =
      (λ i. take (count_of i) (drop (start_of i) store)) ∙ part_is r.start r.words store here in
      λ i. record { start = start_of i; words = words i }

  -- and its place has words, all of them in the store
  pub stored_lies : (0 < v % 2 ^ 25) × (v / 2 ^ 25 + v % 2 ^ 25 ≤ length store)
  stored_lies = let lies = within in let first = start_of in let count = count_of in let one = has_some r.words some in
      (omega (arith, count, one), omega (arith, first, count, lies))

-- ---- range cells

module _ (slots : ℕ) (st : State) where
  -- the cell holds 0, or names a body
  abbrev NamesBody : ℕ → Type 0
  NamesBody c = (st.value c ≡ 0) ⊎ ((words : List ℕ) × HasBody st c words)

  -- the three range cells of a slot do
  abbrev AllName : ℕ → Type 0
  AllName i = NamesBody (name_cell i) × NamesBody (statement_cell i) × NamesBody (proof_cell i)

  proof_named : (i : ℕ) (kind : Kind) (steps : List Step) → HoldsProof slots st i kind steps → NamesBody (proof_cell i)
  proof_named i Axiom steps h = inl h.0
  proof_named i Theorem steps h = inr (_, h.1)

  held_named : (lib : List Ranked) (i : ℕ) (e : Ranked) → Holds slots st lib i e → AllName i
  held_named lib i e h = (inr (_, h.name.body), inr (_, h.statement), proof_named i e.assertion.kind e.assertion.proof h.proof)

  slot_named : (lib : List Ranked) (shown : Shows slots st lib) (i : ℕ) → Has i (slots_of shown.held) ⊎ IsEmpty slots st i → AllName i
  slot_named lib shown i (inl has) =
      let p = mapped_has (λ (h : Held). h.slot) shown.held i has in
      subst AllName (sym p.2)
      (held_named lib p.0.slot p.0.entry (all_has (λ (h : Held). Holds slots st lib h.slot h.entry) shown.held p.0 shown.holds p.1))
  slot_named lib shown i (inr e) = (inl e.name, inl e.statement, inl e.proof)

  one_of : (c i k : ℕ) → c ≡ 5 * i + k → k < 3 → AllName i → NamesBody c
  one_of c i zero e lt all = subst NamesBody (let same : name_cell i ≡ c = omega (arith, e) in same) all.0
  one_of c i (suc zero) e lt all = subst NamesBody (let same : statement_cell i ≡ c = omega (arith, e) in same) all.1
  one_of c i (suc (suc zero)) e lt all = subst NamesBody (let same : proof_cell i ≡ c = omega (arith, e) in same) all.2
  one_of c i (suc (suc (suc k))) e lt all = absurd (omega arith)

  cell_named : (lib : List Ranked) → Shows slots st lib → (c : ℕ) → is_ranged slots c ≡ true → NamesBody c
  cell_named lib shown c ranged =
      let both = and_parts (nat_lt c (5 * slots)) (nat_lt (c % 5) 3) ranged in
      let below = ltb-true c (5 * slots) both.0 in
      let first = ltb-true (c % 5) 3 both.1 in
      let within : c / 5 < slots = omega (arith, below) in
      one_of c (c / 5) (c % 5) (omega arith) first (slot_named lib shown (c / 5) (shown.others (c / 5) within))

-- what range cells of a shown library hold is 0 or names a range
pub shown_names : (slots : ℕ) (values : List ℕ) (ranges : List Range) (lib : List Ranked)
    → Shows slots (record { value = slice_index values; ranges = ranges }) lib
    → (c v : ℕ) → slice_get values c ≡ Some v → is_ranged slots c ≡ true → Names ranges v
shown_names slots values ranges lib shown c v at ranged =
    go (cell_named slots (record { value = slice_index values; ranges = ranges }) lib shown c ranged)
  where
    is : slice_index values c ≡ v
    is = get_or_from_slice_get values c v 0 at

    go : NamesBody slots (record { value = slice_index values; ranges = ranges }) c → Names ranges v
    go (inl none) = inl (sym is ∙ none)
    go (inr b) = inr (record { start = b.1.start; words = b.0 }, b.1.finished, sym is ∙ b.1.named)
