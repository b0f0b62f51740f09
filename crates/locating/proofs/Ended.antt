-- The ends of the steps in letters, byte by byte, and the theorem that isn't there.
use Rattle.std.proofs.Common.{◌≡◌, ◌∙◌, ℕ, suc, ◌+◌, ◌<◌, Bool, true, false, cond, List, [], ◌∷◌, ◌++◌}
use Rattle.std.proofs.Common.{length, take, get_or, refl, sym, ap, arith, append_assoc, length-take-le}
use Rattle.std.proofs.lemmas.Bool.{cond-true, cond-false}
use Rattle.std.proofs.lemmas.List.{take_more, append-nil}
use Rattle.mmtext.specs.Text.{Token}
use Rattle.mmtext.specs.Words.{Word}
use Rattle.locating.specs.declared.steps.Ending.{Ending}
use Rattle.locating.specs.Steps.{ends_step, ends_from, from_theorem}

-- ---- letters

abbrev letter : ℕ → ℕ → Ending
letter place at = record { word = place; behind = at; length = 1 }

put_onto : (t : Bool) (e : Ending) (xs ys : List Ending) → cond t (e ∷ (xs ++ ys)) (xs ++ ys) ≡ cond t (e ∷ xs) xs ++ ys
put_onto true e xs ys = refl
put_onto false e xs ys = refl

one_more : (place at n : ℕ) (bs : List ℕ) (b : ℕ) → at + length bs ≡ n
    → ends_from place at (bs ++ b ∷ []) ≡ ends_from place at bs ++ cond (ends_step b) (letter place n ∷ []) []
one_more place at n [] b e =
    let same : at ≡ n = omega arith in
    ap (λ k. cond (ends_step b) (letter place k ∷ []) []) same
one_more place at n (x ∷ bs) b e =
    ap (λ es. cond (ends_step x) (letter place at ∷ es) es) (one_more place (suc at) n bs b (omega arith))
    ∙ put_onto (ends_step x) (letter place at) (ends_from place (suc at) bs) (cond (ends_step b) (letter place n ∷ []) [])

module _ (place : ℕ) (text : List ℕ) (i : ℕ) (inside : i < length text) where
  abbrev so_far : List Ending
  so_far = ends_from place 0 (take i text)

  next_byte : (d : ℕ) → so_far ++ cond (ends_step (get_or text i d)) (letter place i ∷ []) [] ≡ ends_from place 0 (take (i + 1) text)
  next_byte d =
      let short : length (take i text) ≡ i = length-take-le i text (omega arith) in
      sym (ap (ends_from place 0) (take_more text i d inside) ∙ one_more place 0 i (take i text) (get_or text i d) (omega arith))

  pub ends_here : (d : ℕ) (old : List Ending) → ends_step (get_or text i d) ≡ true
      → (old ++ so_far) ++ (letter place i ∷ []) ≡ old ++ ends_from place 0 (take (i + 1) text)
  ends_here d old y =
      append_assoc old so_far (letter place i ∷ [])
      ∙ ap (λ es. old ++ es)
      (sym (ap (λ es. so_far ++ es) (cond-true (ends_step (get_or text i d)) (letter place i ∷ []) [] y)) ∙ next_byte d)

  pub ends_not_here : (d : ℕ) (old : List Ending) → ends_step (get_or text i d) ≡ false
      → old ++ so_far ≡ old ++ ends_from place 0 (take (i + 1) text)
  ends_not_here d old n =
      ap (λ es. old ++ es)
      (sym (append-nil so_far)
      ∙ (sym (ap (λ es. so_far ++ es) (cond-false (ends_step (get_or text i d)) (letter place i ∷ []) [] n)) ∙ next_byte d))

-- ---- theorems

-- a label and $p are two words
pub no_theorem : (label : Word) (ts : List Token) → length ts < 2 → [] ≡ from_theorem label ts
no_theorem label [] few = refl
no_theorem label (t ∷ []) few = refl
no_theorem label (t ∷ u ∷ ts) few = absurd (omega arith)
