-- The first candidates that are free, gathered one after another.
use Rattle.std.proofs.Common.{◌≡◌, ◌∙◌, ◌+◌, ◌-◌, ◌≤◌, ℕ, zero, suc, Bool, true, false, cond, List, [], ◌∷◌, ◌++◌, length, map, take, filter, refl, sym, ap, arith, append-nil}
use Rattle.std.specs.List.{range_with_len}
use Rattle.std.proofs.lemmas.Bool.{cond-true, cond-false}
use Rattle.std.proofs.lemmas.List.{map-append, take_all, take_at}
use Rattle.std.proofs.lemmas.List.Elements.{filter-append}
use Rattle.std.proofs.lemmas.List.FromFn.{filter_of_map_range_with_len_more}
use Rattle.standins.specs.StandIns.{most_candidates}

-- how many are tried
pub most_is : most_candidates ≡ 65536
unfolding most_candidates
most_is = refl

range_both : (from n m : ℕ) → range_with_len from (n + m) ≡ range_with_len from n ++ range_with_len (from + n) m
range_both from zero m =
    let whole : 0 + m ≡ m = omega arith in
    let front : from ≡ from + 0 = omega arith in
    ap (range_with_len from) whole ∙ ap (λ k. range_with_len k m) front
range_both from (suc n) m =
    let more : suc n + m ≡ suc (n + m) = omega arith in
    let front : from + 1 + n ≡ from + suc n = omega arith in
    ap (range_with_len from) more
    ∙ ap (λ ks. from ∷ ks) (range_both (from + 1) n m ∙ ap (λ k. range_with_len (from + 1) n ++ range_with_len k m) front)

module _ {A : Type 0} (p : A → Bool) (f : ℕ → A) where
  -- those that pass among the first
  abbrev pub passing : ℕ → List A
  passing n = filter p (map f (range_with_len 0 n))

  one_more : (n : ℕ) → passing (n + 1) ≡ passing n ++ cond (p (f n)) (f n ∷ []) []
  one_more n = filter_of_map_range_with_len_more p f 0 n n (omega arith)

  -- one more that passes
  pub passes_next : (n : ℕ) (made next : List A) → p (f n) ≡ true → made ≡ passing n → next ≡ made ++ f n ∷ [] → next ≡ passing (n + 1)
  passes_next n made next passes so_far is =
      is ∙ ap (λ xs. xs ++ f n ∷ []) so_far ∙ ap (λ xs. passing n ++ xs) (sym (cond-true (p (f n)) (f n ∷ []) [] passes)) ∙ sym (one_more n)

  -- one more that doesn't
  pub fails_next : (n : ℕ) (made : List A) → p (f n) ≡ false → made ≡ passing n → made ≡ passing (n + 1)
  fails_next n made fails so_far =
      so_far ∙ sym (append-nil (passing n)) ∙ ap (λ xs. passing n ++ xs) (sym (cond-false (p (f n)) (f n ∷ []) [] fails))
      ∙ sym (one_more n)

  -- enough of them
  pub enough : (n most count : ℕ) (made : List A) → n ≤ most → made ≡ passing n → length made ≡ count → made ≡ take count (passing most)
  enough n most count made within so_far long =
      let rest = most - n in
      let whole : n + rest ≡ most = omega arith in
      let both : passing (n + rest) ≡ passing n ++ filter p (map f (range_with_len (0 + n) rest)) =
      ap (λ ks. filter p (map f ks)) (range_both 0 n rest)
      ∙ ap (filter p) (map-append f (range_with_len 0 n) (range_with_len (0 + n) rest))
      ∙ filter-append p (map f (range_with_len 0 n)) (map f (range_with_len (0 + n) rest)) in
      so_far
      ∙ sym (take_at (passing n) (filter p (map f (range_with_len (0 + n) rest))) count (sym (ap length so_far) ∙ long))
      ∙ ap (take count) (sym both ∙ ap passing whole)

  -- fewer than are wanted
  pub too_few : (n most count : ℕ) (made : List A) → n ≡ most → made ≡ passing n → length made ≤ count → made ≡ take count (passing most)
  too_few n most count made whole so_far long = sym (take_all count made long) ∙ ap (take count) (so_far ∙ ap passing whole)
