-- Symbols with one space between them, and the first of many.
use Rattle.std.proofs.Common.{◌≡◌, ◌∙◌, ℕ, List, [], ◌∷◌, ◌++◌, length, take, ap, append-nil, arith}
use Rattle.std.specs.Prelude.{min}
use Rattle.std.specs.List.{flat_map}
use Rattle.std.proofs.lemmas.List.{take_min}
use Rattle.mmtext.specs.Words.{Word}
use Rattle.locating.specs.Told.{shown}
use Rattle.verifytext.specs.FindingLines.{spaced}

pub spaced_is : (w : Word) (ws : List Word) → shown w ++ flat_map (λ v. 32 ∷ shown v) ws ≡ spaced (w ∷ ws)
spaced_is w [] = append-nil (shown w)
spaced_is w (v ∷ vs) = ap (λ l. shown w ++ 32 ∷ l) (spaced_is v vs)

pub first_of : {A : Type 0} (xs : List A) (n m : ℕ) → m ≡ min (length xs) n → take m xs ≡ take n xs
first_of xs n m e = ap (λ k. take k xs) (let f : m ≡ min n (length xs) = omega (arith, e) in f) ∙ take_min n xs
