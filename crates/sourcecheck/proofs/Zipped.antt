-- Tests of what stands at the same places of two lists.
use Rattle.std.proofs.Common.{◌≡◌, ℕ, zero, suc, ◌+◌, ◌<◌, ◌≤◌, Bool, true, false, ◌&&◌, List, [], ◌∷◌, length, drop, get_or, refl, sym, ap, ◌∙◌, arith}
use Rattle.std.proofs.Common.{◌++◌}
use Rattle.std.specs.Prelude.{◌↔◌, ◌≢◌, ◌==◌, IsTrue}
use Rattle.std.specs.List.{list_all, zip}
use Rattle.std.specs.Cmp.Lexicographic.{pointwise}
use Rattle.std.proofs.lemmas.List.{append_cancel_left}
use Rattle.std.proofs.lemmas.Bool.Decides.{Decides-eqb}
use Rattle.std.proofs.lemmas.Slice.Eq.{slice_eq-Decides}
use Rattle.mmsyntax.proofs.Options.{alike}
use Rattle.sourceframes.specs.declared.frame.Piece.{Piece}
use Rattle.sourcecheck.specs.Coded.{piece_value, filled}

module _ {A B : Type 0} (f : A → B → Bool) where
  abbrev pub met : List A → List B → Bool
  met xs ys = list_all (λ p. f p.0 p.1) (zip xs ys)

  met_none : (xs : List A) → met xs [] ≡ true
  met_none [] = refl
  met_none (x ∷ xs) = refl

  met_next : (xs : List A) (ys : List B) (i : ℕ) (x : A) (y : B) → i < length xs → length xs ≡ length ys
      → met (drop i xs) (drop i ys) ≡ (f (get_or xs i x) (get_or ys i y) && met (drop (i + 1) xs) (drop (i + 1) ys))
  met_next [] ys i x y lt l = absurd (omega arith)
  met_next (a ∷ xs) [] i x y lt l = absurd (omega arith)
  met_next (a ∷ xs) (b ∷ ys) zero x y lt l = refl
  met_next (a ∷ xs) (b ∷ ys) (suc i) x y lt l =
      let e : suc (i + 1) ≡ suc i + 1 = omega arith in
      met_next xs ys i x y (omega arith) (omega arith)
      ∙ ap (λ n. f (get_or xs i x) (get_or ys i y) && met (drop n (a ∷ xs)) (drop n (b ∷ ys))) e

  met_end : (xs : List A) (ys : List B) (i : ℕ) → length xs ≤ i → met (drop i xs) (drop i ys) ≡ true
  met_end [] ys zero le = refl
  met_end [] ys (suc i) le = refl
  met_end (a ∷ xs) ys zero le = absurd (omega arith)
  met_end (a ∷ xs) [] (suc i) le = met_none (drop i xs)
  met_end (a ∷ xs) (b ∷ ys) (suc i) le = met_end xs ys i (omega arith)

  -- what a loop keeps
  pub met_on : (xs : List A) (ys : List B) (i : ℕ) (x : A) (y : B) (b : Bool) → i < length xs → length xs ≡ length ys
      → met (drop i xs) (drop i ys) ≡ met xs ys → b ≡ f (get_or xs i x) (get_or ys i y) → b ≡ true
      → met (drop (i + 1) xs) (drop (i + 1) ys) ≡ met xs ys
  met_on xs ys i x y b lt l kept is on =
      ap (λ z. z && met (drop (i + 1) xs) (drop (i + 1) ys)) (sym on ∙ is) ∙ sym (met_next xs ys i x y lt l) ∙ kept

  pub met_off : (xs : List A) (ys : List B) (i : ℕ) (x : A) (y : B) (b : Bool) → i < length xs → length xs ≡ length ys
      → met (drop i xs) (drop i ys) ≡ met xs ys → b ≡ f (get_or xs i x) (get_or ys i y) → b ≡ false → false ≡ met xs ys
  met_off xs ys i x y b lt l kept is off =
      ap (λ z. z && met (drop (i + 1) xs) (drop (i + 1) ys)) (sym off ∙ is) ∙ sym (met_next xs ys i x y lt l) ∙ kept

  pub met_all : (xs : List A) (ys : List B) (i : ℕ) → length xs ≤ i → met (drop i xs) (drop i ys) ≡ met xs ys → true ≡ met xs ys
  met_all xs ys i le kept = sym (met_end xs ys i le) ∙ kept

-- ---- pieces of an expression

pub next_piece : (es : List (List ℕ)) (ps : List Piece) (i : ℕ) (d : Piece) → i < length ps
    → filled es (drop i ps) ≡ piece_value es (get_or ps i d) ++ filled es (drop (i + 1) ps)
next_piece es [] i d lt = absurd (omega arith)
next_piece es (p ∷ ps) zero d lt = refl
next_piece es (p ∷ ps) (suc i) d lt =
    let e : suc (i + 1) ≡ suc i + 1 = omega arith in
    next_piece es ps i d (omega arith) ∙ ap (λ n. piece_value es (get_or ps i d) ++ filled es (drop n (p ∷ ps))) e

pub piece_matches : (all piece after next later rest : List ℕ) (G : Type 0) → all ≡ piece ++ after → next ≡ piece → rest ≡ next ++ later
    → (all ≡ rest) ↔ G → (after ≡ later) ↔ G
piece_matches all piece after next later rest G a n r h =
    (λ e. h.0 cc, λ g. let whole = h.1 g in append_cancel_left next after later cc)

pub piece_fails : (all piece after next rest : List ℕ) (G : Type 0) → all ≡ piece ++ after → next ≡ piece
    → ((later : List ℕ) → rest ≢ next ++ later) → (all ≡ rest) ↔ G → G → ⊥
piece_fails all piece after next rest G a n apart h g = let whole = h.1 g in apart after cc

-- a test by the numbers is one by the lists
pub same_as : (b : Bool) (d e : List ℕ) → IsTrue b ↔ (d ≡ e) → b ≡ pointwise (λ a b. a == b) d e
same_as b d e h =
    let decides = slice_eq-Decides Decides-eqb d e (pointwise (λ a b. a == b) d e) refl in
    alike b (pointwise (λ a b. a == b) d e) (λ t. decides.1 (h.0 t)) (λ t. h.1 (decides.0 t))
