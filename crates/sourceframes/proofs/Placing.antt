-- The first places of variables, as they are noted.
use Rattle.std.proofs.Common.{◌≡◌, ℕ, suc, ◌+◌, ◌<◌, true, false, cond, List, [], ◌∷◌, ◌++◌, length, map, take, get_or, sym, ap, ◌∙◌, inl, inr, arith}
use Rattle.std.specs.Prelude.{Option, Some, None}
use Rattle.std.specs.Option.{option_or}
use Rattle.std.specs.Borrow.{Bor}
use Rattle.std.specs.Str.{bytes_eq}
use Rattle.std.proofs.Math.Seq.{take-suc}
use Rattle.std.proofs.lemmas.Bool.{cases_Bool}
use Rattle.std.proofs.lemmas.List.{map-append, length-map, length-take-le}
use Rattle.mmtext.specs.Words.{Word}
use Rattle.mmsyntax.specs.Tables.{place_of}
use Rattle.mmsyntax.proofs.Names.{place_of-push, option_or-none, same_bytes, bytes_eq-same}
use Rattle.sourceframes.specs.Frames.{seen_variable, is_that}

-- a variable that has no place yet gets one
pub noted_first : (old new : Word → Option ℕ) (v : Word) (place : ℕ) → old v ≡ None
    → ((w : Word) → new w ≡ cond (bytes_eq v w) (Some place) (old w)) → (w : Word)
    → new w ≡ option_or (old w) (cond (bytes_eq w v) (Some place) None)
noted_first old new v place none put w =
    put w ∙ elim (cases_Bool (bytes_eq v w)) [
      | inl y ↦
          let same : v ≡ w = same_bytes v w y in
          ap (λ b. cond b (Some place) (old w)) y
          ∙ sym (ap (λ o. option_or o (cond (bytes_eq w v) (Some place) None)) (ap old (sym same) ∙ none)
          ∙ ap (λ u. cond (bytes_eq w u) (Some place) None) same
          ∙ ap (λ b. cond b (Some place) None) (bytes_eq-same w))
      | inr n ↦
          ap (λ b. cond b (Some place) (old w)) n
          ∙ sym (ap (λ b. option_or (old w) (cond b (Some place) None)) (other n) ∙ option_or-none (old w))
    ]
  where
    other : bytes_eq v w ≡ false → bytes_eq w v ≡ false
    other n = elim (cases_Bool (bytes_eq w v)) [
      | inl y ↦
          let same : w ≡ v = same_bytes w v y in
          absurd (let e : true ≡ false = sym (bytes_eq-same w) ∙ ap (λ u. bytes_eq u w) same ∙ n in cc)
      | inr f ↦ f
    ]

-- one more variable
pub placed_on : (vs : List (Option (Bor (List ℕ)))) (i : ℕ) (d : Option (Bor (List ℕ))) (old new : Word → Option ℕ) → i < length vs
    → ((w : Word) → new w ≡ option_or (old w) (cond (is_that w (seen_variable (get_or vs i d))) (Some i) None))
    → ((w : Word) → old w ≡ place_of (is_that w) (map seen_variable (take i vs))) → (w : Word)
    → new w ≡ place_of (is_that w) (map seen_variable (take (i + 1) vs))
placed_on vs i d old new lt noted was w =
    let more : take (i + 1) vs ≡ take i vs ++ get_or vs i d ∷ [] =
    ap (λ k. take k vs) (let e : i + 1 ≡ suc i = omega arith in e) ∙ take-suc vs i d lt in
    let long : length (map seen_variable (take i vs)) ≡ i =
    length-map (take i vs) seen_variable ∙ length-take-le i vs (omega (arith, lt)) in
    noted w ∙ ap (λ o. option_or o (cond (is_that w (seen_variable (get_or vs i d))) (Some i) None)) (was w)
    ∙ ap (λ k. option_or (place_of (is_that w) (map seen_variable (take i vs)))
    (cond (is_that w (seen_variable (get_or vs i d))) (Some k) None)) (sym long)
    ∙ sym (ap (place_of (is_that w)) (ap (map seen_variable) more ∙ map-append seen_variable (take i vs) (get_or vs i d ∷ []))
    ∙ place_of-push (is_that w) (map seen_variable (take i vs)) (seen_variable (get_or vs i d)))
