-- Words that encode items, read one after another.
use Rattle.std.proofs.Common.{◌≡◌, ℕ, ◌+◌, ◌^◌, ◌<◌, ◌≤◌, List, [], ◌∷◌, ◌++◌, length, map, get_or, take, drop, sym, ap, ◌∙◌, arith}
use Rattle.std.specs.Prelude.{All, bit_and}
use Rattle.std.specs.List.{flat_map}
use Rattle.std.proofs.Math.Nat.{mod-eq_of_lt}
use Rattle.std.proofs.Math.Seq.{take-append_seam, drop-append_seam}
use Rattle.std.proofs.lemmas.List.{take_more, drop_more, get_or-map, append_assoc, length-append, length-map}
use Rattle.std.proofs.lemmas.List.Elements.{All-get_or, All-head, All-tail}
use Rattle.std.proofs.lemmas.Nat.{and_mask}

module _ {X : Type 0} (f : X → ℕ) (P : X → Type 0) (xs : List X) (i : ℕ) (x : X) where
  -- the item that the word at a place decodes to is the one at that place
  pub decoded : (words : List ℕ) → All P xs → map f xs ≡ words → i < length words → ((y : X) → P y → f y ≡ get_or words i 0 → x ≡ y)
      → (i < length xs) × (x ≡ get_or xs i x)
  decoded words all is within decodes =
      let lengths : length (map f xs) ≡ length words = ap (λ ws. length ws) is in
      let count : length (map f xs) ≡ length xs = length-map xs f in
      let lt : i < length xs = omega arith in
      let at : f (get_or xs i x) ≡ get_or words i 0 = sym (get_or-map f xs i x 0 lt) ∙ ap (λ ws. get_or ws i 0) is in
      (lt, decodes (get_or xs i x) (All-get_or P xs i x lt all) at)

-- the words of what is left of a list begin with those of the item that is next
pub next_words : {X : Type 0} (f : X → List ℕ) (xs : List X) (i : ℕ) (d : X) (more : List ℕ) → i < length xs
    → flat_map f (drop i xs) ++ more ≡ f (get_or xs i d) ++ (flat_map f (drop (i + 1) xs) ++ more)
next_words f xs i d more lt =
    ap (λ ys. flat_map f ys ++ more) (drop_more xs i d lt) ∙ append_assoc (f (get_or xs i d)) (flat_map f (drop (i + 1) xs)) more

-- a list has at most as many items as its words, where each item has some
pub few_items : {X : Type 0} (f : X → List ℕ) → ((x : X) → 1 ≤ length (f x)) → (xs : List X) → length xs ≤ length (flat_map f xs)
few_items f some [] = omega arith
few_items f some (x ∷ xs) = omega (arith, some x, few_items f some xs, length-append (f x) (flat_map f xs))

-- one more item that was read
pub one_more : {X : Type 0} (xs items after : List X) (i : ℕ) (x : X) → i < length xs → items ≡ take i xs → after ≡ items ++ x ∷ []
    → x ≡ get_or xs i x → after ≡ take (i + 1) xs
one_more xs items after i x lt before push is =
    push ∙ ap (λ ys. ys ++ x ∷ []) before ∙ ap (λ y. take i xs ++ y ∷ []) is ∙ sym (take_more xs i x lt)

-- the first so many of two lists, one behind the other, are those of the first, and the others those of the second
pub front_back : {X : Type 0} (xs ys zs : List X) (n : ℕ) → zs ≡ xs ++ ys → n ≡ length xs → (take n zs ≡ xs) × (drop n zs ≡ ys)
front_back xs ys zs n is here = (
  ap (λ k. take k zs) here ∙ ap (take (length xs)) is ∙ take-append_seam xs ys,
  ap (λ k. drop k zs) here ∙ ap (drop (length xs)) is ∙ drop-append_seam xs ys,
)

-- the low byte of a byte is the byte
pub low_bytes : (bytes : List ℕ) → All (λ byte. byte < 2 ^ 8) bytes → map (λ w. bit_and w 255) bytes ≡ bytes
low_bytes [] all = λ i. []
low_bytes (b ∷ bs) all =
    let here = and_mask b 8 ∙ mod-eq_of_lt (All-head (λ byte. byte < 2 ^ 8) b bs all) in
    let rest = low_bytes bs (All-tail (λ byte. byte < 2 ^ 8) b bs all) in
    λ i. here i ∷ rest i
