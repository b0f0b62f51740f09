-- Pairs in order, and what the map of a block's hypotheses finds after one more.
use Rattle.std.proofs.Common.{◌≡◌, ℕ, zero, suc, ◌+◌, ◌<◌, Bool, true, false, cond, List, [], ◌∷◌, ◌++◌, length, get_or, drop}
use Rattle.std.proofs.Common.{Option, Some, None, Vec}
use Rattle.std.proofs.Common.{◌≤◌, refl, sym, ap, ◌∙◌, eqb, ltb, arith, length-append}
use Rattle.std.specs.Prelude.{◌||◌, ◌&&◌}
use Rattle.std.specs.Option.{option_map, option_or}
use Rattle.std.specs.Str.{bytes_eq}
use Rattle.std.specs.HashMap.{HashMap}
use Rattle.std.specs.BTreeSet.{insert_key}
use Rattle.std.specs.Ordering.{nat_cmp, ordering_then, match_ordering}
use Rattle.std.specs.declared.cmp.Ordering.{Ordering}
use Rattle.std.specs.declared.cmp.Ordering.TheVariants.{Less, Equal, Greater}
use Rattle.std.specs.declared.alloc.Global.{Global}
use Rattle.std.specs.declared.random_state.RandomState.{RandomState}
use Rattle.std.proofs.lemmas.Bool.{ltb-true}
use Rattle.mmsyntax.specs.Tables.{place_of}
use Rattle.mmsyntax.specs.Blocks.{Hypothesis, with_pair}
use Rattle.mmsyntax.specs.Steps.{hypothesis_named}
use Rattle.mmunits.specs.HypothesisPlaces.{FindsHypotheses}
use Rattle.mmunits.specs.WordMaps.{FindsUnlessBefore}
use Rattle.mmsyntax.proofs.Names.{bytes_eq-sym, place_of-push, place_of-at, ne-eqb}

-- ---- pairs

-- the order of pairs
abbrev pub pair_cmp : ℕ × ℕ → ℕ × ℕ → Ordering
pair_cmp p q = ordering_then (nat_cmp p.0 q.0) (nat_cmp p.1 q.1)

lt_not_eq : (m n : ℕ) → ltb m n ≡ true → eqb m n ≡ false
lt_not_eq m n h = ne-eqb m n (λ e. let lt : m < n = ltb-true m n h in absurd (omega (arith, e)))

put_by : {A : Type 0} (a b c d : Bool) → (a ≡ true → b ≡ false) → (c ≡ true → d ≡ false) → (x y z v : A) → z ≡ v
    → match_ordering (ordering_then (cond a Less (cond b Equal Greater)) (cond c Less (cond d Equal Greater))) x y z
    ≡ cond (b && d) y (cond (a || (b && c)) x v)
put_by true true c d h g x y z v e = absurd (let f : true ≡ false = h refl in cc)
put_by true false c d h g x y z v e = refl
put_by false false c d h g x y z v e = e
put_by false true true true h g x y z v e = absurd (let f : true ≡ false = g refl in cc)
put_by false true true false h g x y z v e = refl
put_by false true false true h g x y z v e = refl
put_by false true false false h g x y z v e = e

-- a pair is put into a set as into an ascending list
pub pair_put : (p : ℕ × ℕ) (ps : List (ℕ × ℕ)) → insert_key pair_cmp ps p ≡ with_pair p ps
pair_put p [] = refl
pair_put p (q ∷ qs) =
    put_by (ltb p.0 q.0) (eqb p.0 q.0) (ltb p.1 q.1) (eqb p.1 q.1) (lt_not_eq p.0 q.0) (lt_not_eq p.1 q.1) (p ∷ q ∷ qs) (q ∷ qs)
    (q ∷ insert_key pair_cmp qs p) (q ∷ with_pair p qs) (ap (λ rest. q ∷ rest) (pair_put p qs))

-- ---- hypotheses

-- a place among those behind the first n
abbrev pub behind : ℕ → Option ℕ → Option ℕ
behind n o = option_map (λ m. n + m) o

behind_suc : (n : ℕ) (o : Option ℕ) → behind (suc n) o ≡ option_map (λ m. suc m) (behind n o)
behind_suc n None = refl
behind_suc n (Some m) = ap (λ k. Some k) (let e : suc n + m ≡ suc (n + m) = omega arith in e)

suc_behind : (n : ℕ) (o : Option ℕ) → behind n (option_map (λ m. suc m) o) ≡ behind (suc n) o
suc_behind n None = refl
suc_behind n (Some m) = ap (λ k. Some k) (let e : n + suc m ≡ suc n + m = omega arith in e)

-- the item at a place passes, and is the first of what is left
pub first_here : {A : Type 0} (test : A → Bool) (xs : List A) (i : ℕ) (d : A) → i < length xs → test (get_or xs i d) ≡ true
    → behind i (place_of test (drop i xs)) ≡ Some i
first_here test [] i d lt h = absurd (omega arith)
first_here test (x ∷ xs) zero d lt h = ap (λ b. behind 0 (cond b (Some 0) (option_map (λ n. suc n) (place_of test xs)))) h
first_here test (x ∷ xs) (suc i) d lt h =
    behind_suc i (place_of test (drop i xs)) ∙ ap (λ o. option_map (λ m. suc m) o) (first_here test xs i d (omega arith) h)

-- it doesn't, and the first is behind it
pub first_later : {A : Type 0} (test : A → Bool) (xs : List A) (i : ℕ) (d : A) → i < length xs → test (get_or xs i d) ≡ false
    → behind i (place_of test (drop i xs)) ≡ behind (suc i) (place_of test (drop (suc i) xs))
first_later test [] i d lt h = absurd (omega arith)
first_later test (x ∷ xs) zero d lt h =
    ap (λ b. behind 0 (cond b (Some 0) (option_map (λ n. suc n) (place_of test xs)))) h ∙ suc_behind 0 (place_of test xs)
first_later test (x ∷ xs) (suc i) d lt h =
    behind_suc i (place_of test (drop i xs))
    ∙ ap (λ o. option_map (λ m. suc m) o) (first_later test xs i d (omega arith) h)
    ∙ sym (behind_suc (suc i) (place_of test (drop (suc i) xs)))

-- one more hypothesis: an earlier one of its label stays the one that is named
pub found_too : (m n : HashMap (Vec ℕ Global) ℕ RandomState) (hyps after : List Hypothesis) (h : Hypothesis) (place : ℕ)
    → FindsHypotheses m hyps → length hyps < 1000 → place ≡ length hyps → after ≡ hyps ++ h ∷ [] → FindsUnlessBefore m h.label place n
    → FindsHypotheses n after
found_too m n hyps after h place at_m room at_end pushed put = record {
  found = λ w.
      put w
      ∙ ap (λ o. option_or o (cond (bytes_eq h.label w) (Some place) None)) (at_m.found w)
      ∙ ap (λ b. option_or (hypothesis_named hyps w) (cond b (Some place) None)) (bytes_eq-sym h.label w)
      ∙ ap (λ p. option_or (hypothesis_named hyps w) (cond (bytes_eq w h.label) (Some p) None)) at_end
      ∙ sym (place_of-push (λ g. bytes_eq w g.label) hyps h) ∙ ap (λ hs. hypothesis_named hs w) (sym pushed);
  few = omega (arith, ap length pushed, length-append hyps (h ∷ []), room);
}

no_hypothesis : Hypothesis
no_hypothesis = record { label = []; expression = [] }

-- the place of a hypothesis is among them
pub place_within : (hyps : List Hypothesis) (w : List ℕ) (n : ℕ) → length hyps ≤ 1000 → hypothesis_named hyps w ≡ Some n → n < 1000
place_within hyps w n few at =
    let within : n < length hyps = (place_of-at (λ h. bytes_eq w h.label) hyps n no_hypothesis at).0 in omega (arith, within, few)
