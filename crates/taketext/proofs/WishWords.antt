-- Words that tell a wish.
use Rattle.std.proofs.Common.{◌≡◌, ℕ, ◌≤◌, ◌<◌, true, List, [], ◌∷◌, refl, length, get_or, arith}
use Rattle.std.specs.Prelude.{◌&&◌, codes}
use Rattle.std.specs.Borrow.{Bor}
use Rattle.std.specs.Str.{bytes_eq}
use Rattle.std.proofs.lemmas.Slice.Eq.{bytes_eq-Decides}
use Rattle.std.proofs.lemmas.Bool.{and_parts}
use Rattle.choosing.specs.declared.wish.Wish.TheVariants as wish
use Rattle.mmtext.specs.Words.{Word}
use Rattle.source.specs.Views.{seen_words}
use Rattle.taketext.specs.Reading.{AreWishWords}

-- a word that is none
abbrev pub no_word : Bor (List ℕ)
no_word = record { ref_ptr = (0, 0); now = [] }

one_of : (xs : List (Bor (List ℕ))) (d : Bor (List ℕ)) → 1 ≤ length xs → length xs < 2 → seen_words xs ≡ (get_or xs 0 d).now ∷ []
one_of [] d h k = absurd (omega arith)
one_of (x ∷ []) d h k = refl
one_of (x ∷ y ∷ xs) d h k = absurd (omega arith)

three_of : (xs : List (Bor (List ℕ))) (d : Bor (List ℕ)) → 3 ≤ length xs → length xs < 4
    → seen_words xs ≡ (get_or xs 0 d).now ∷ (get_or xs 1 d).now ∷ (get_or xs 2 d).now ∷ []
three_of [] d h k = absurd (omega arith)
three_of (x ∷ []) d h k = absurd (omega arith)
three_of (x ∷ y ∷ []) d h k = absurd (omega arith)
three_of (x ∷ y ∷ z ∷ []) d h k = refl
three_of (x ∷ y ∷ z ∷ u ∷ xs) d h k = absurd (omega arith)

module _ (first : Word) (xs : List (Bor (List ℕ))) (d : Bor (List ℕ)) where
  pub all_told : 1 ≤ length xs → length xs < 2
      → (bytes_eq first (codes "all") && bytes_eq (get_or xs 0 d).now (codes "assertions")) ≡ true
      → AreWishWords (first ∷ seen_words xs) wish.All
  all_told h k e =
      let both = and_parts (bytes_eq first (codes "all")) (bytes_eq (get_or xs 0 d).now (codes "assertions")) e in
      let is : first ≡ codes "all" = (bytes_eq-Decides first (codes "all")).0 both.0 in
      let other : (get_or xs 0 d).now ≡ codes "assertions" = (bytes_eq-Decides (get_or xs 0 d).now (codes "assertions")).0 both.1 in
      let one = one_of xs d h k in
      record { asked = λ no. no; are = cc }

  pub between_told : 3 ≤ length xs → length xs < 4
      → (bytes_eq first (codes "from") && bytes_eq (get_or xs 1 d).now (codes "to")) ≡ true
      → AreWishWords (first ∷ seen_words xs) (wish.Between (get_or xs 0 d) (get_or xs 2 d))
  between_told h k e =
      let both = and_parts (bytes_eq first (codes "from")) (bytes_eq (get_or xs 1 d).now (codes "to")) e in
      let is : first ≡ codes "from" = (bytes_eq-Decides first (codes "from")).0 both.0 in
      let other : (get_or xs 1 d).now ≡ codes "to" = (bytes_eq-Decides (get_or xs 1 d).now (codes "to")).0 both.1 in
      let three = three_of xs d h k in
      record { asked = λ no. no; are = cc }
