-- The changes from labels to others, one pair more.
use Rattle.std.proofs.Common.{◌≡◌, ◌∙◌, ◌<◌, ◌+◌, ℕ, Bool, true, false, cond, List, [], ◌∷◌, ◌++◌, length, take, get_or, min, Bor, sym, ap, ap₂, append-nil, append_assoc, arith}
use Rattle.std.specs.Prelude.{filter}
use Rattle.std.specs.List.{zip}
use Rattle.std.specs.Str.{bytes_eq}
use Rattle.std.proofs.lemmas.List.{take_more, take_all, length-map, get_or-map}
use Rattle.std.proofs.lemmas.List.Elements.{filter-append}
use Rattle.std.proofs.lemmas.Slice.Zip.{length-zip, get_or-zip}
use mathlib.Core.Bool.{not}
use Rattle.giving.specs.Staying.{Change}
use Rattle.source.specs.Views.{seen_words}

abbrev pub differs : Change → Bool
differs p = not (bytes_eq p.0 p.1)

module _ (xs ys : List (Bor (List ℕ))) (n : ℕ) (x y : Bor (List ℕ)) (first : n < length xs) (second : n < length ys)
    (at_first : x ≡ get_or xs n x) (at_second : y ≡ get_or ys n y) where
  abbrev pairs : List Change
  pairs = zip (seen_words xs) (seen_words ys)

  here : get_or pairs n (x.now, y.now) ≡ (x.now, y.now)
  here =
      let now = λ (w : Bor (List ℕ)). w.now in
      let firsts = length-map xs now in
      let seconds = length-map ys now in
      get_or-zip (seen_words xs) (seen_words ys) n (x.now, y.now) (omega (arith, firsts, first)) (omega (arith, seconds, second))
      ∙ ap₂ (λ a b. (a, b)) (get_or-map now xs n x x.now first ∙ sym (ap now at_first))
      (get_or-map now ys n y y.now second ∙ sym (ap now at_second))

  more : filter differs (take (n + 1) pairs)
      ≡ filter differs (take n pairs) ++ cond (differs (x.now, y.now)) ((x.now, y.now) ∷ []) []
  more =
      let now = λ (w : Bor (List ℕ)). w.now in
      let firsts = length-map xs now in
      let seconds = length-map ys now in
      let long = length-zip (seen_words xs) (seen_words ys) in
      ap (filter differs) (take_more pairs n (x.now, y.now) (omega (arith, long, firsts, seconds, first, second)))
      ∙ filter-append differs (take n pairs) (get_or pairs n (x.now, y.now) ∷ [])
      ∙ ap (λ (p : Change). filter differs (take n pairs) ++ filter differs (p ∷ [])) here

  module _ (old so_far : List Change) (is : so_far ≡ old ++ filter differs (take n pairs)) where
    -- one that changes
    pub one_changes : true ≡ differs (x.now, y.now) → so_far ++ (x.now, y.now) ∷ [] ≡ old ++ filter differs (take (n + 1) pairs)
    one_changes d =
        ap (λ (l : List Change). l ++ (x.now, y.now) ∷ []) is
        ∙ append_assoc old (filter differs (take n pairs)) ((x.now, y.now) ∷ [])
        ∙ ap (λ b. old ++ (filter differs (take n pairs) ++ cond b ((x.now, y.now) ∷ []) [])) d
        ∙ ap (λ (l : List Change). old ++ l) (sym more)

    -- one that stays
    pub one_stays : false ≡ differs (x.now, y.now) → so_far ≡ old ++ filter differs (take (n + 1) pairs)
    one_stays d =
        is
        ∙ ap (λ (l : List Change). old ++ l) (sym (append-nil (filter differs (take n pairs))))
        ∙ ap (λ b. old ++ (filter differs (take n pairs) ++ cond b ((x.now, y.now) ∷ []) [])) d
        ∙ ap (λ (l : List Change). old ++ l) (sym more)

pub all_pairs : (xs ys : List (Bor (List ℕ))) (n : ℕ) → n ≡ min (length xs) (length ys)
    → take n (zip (seen_words xs) (seen_words ys)) ≡ zip (seen_words xs) (seen_words ys)
all_pairs xs ys n is =
    let now = λ (w : Bor (List ℕ)). w.now in
    let long : length (zip (seen_words xs) (seen_words ys)) ≡ n =
    length-zip (seen_words xs) (seen_words ys) ∙ ap₂ min (length-map xs now) (length-map ys now) ∙ sym is in
    take_all n (zip (seen_words xs) (seen_words ys)) (omega (arith, long))
