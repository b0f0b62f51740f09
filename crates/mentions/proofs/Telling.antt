-- The lines of labels that are mentioned.
use Rattle.std.proofs.Common.{◌≡◌, ◌∙◌, ◌==◌, ◌-◌, ℕ, false, cond, List, [], ◌∷◌, ◌++◌, Bor, ap, ap₂, arith, codes, length, map, min, refl, sym, take}
use Rattle.std.specs.Prelude.{◌&&◌, filter}
use mathlib.Core.Bool.{not}
use Rattle.std.specs.Fmt.{decimal}
use Rattle.std.specs.Str.{bytes_eq}
use Rattle.std.specs.List.{take-map}
use Rattle.std.proofs.lemmas.List.{length-map, take_min}
use Rattle.mmtext.specs.Words.{Word}
use Rattle.mmtext.specs.Text.{Token}
use Rattle.source.specs.Scopes.{is_in}
use Rattle.source.specs.Views.{seen_words}
use Rattle.checking.specs.Checks.{Bytes}
use Rattle.mentions.specs.Lines.{mention_line, more_line, most_told}

-- how many more, where these are others than none and one
pub more_line-many : (many : ℕ) → (many == 0) ≡ false → (many == 1) ≡ false
    → more_line many ≡ (codes "and of " ++ (decimal many ++ codes " more labels")) ∷ []
more_line-many many some others =
    let line = codes "and of " ++ (decimal many ++ codes " more labels") in
    let one = codes "and of 1 more label" in
    ap (λ b. cond b [] (cond (many == 1) (one ∷ []) (line ∷ []))) some ∙ ap (λ b. cond b (one ∷ []) (line ∷ [])) others

-- the lines of the first of labels that are among these words, and how many more there are
abbrev pub lines_of : Bytes → List Token → List Word → List Bytes
lines_of out words found =
    map (λ w. mention_line out w (filter (λ t. bytes_eq t.text w) words)) (take most_told found) ++ more_line (length found - most_told)

least : (a b : ℕ) → min a b ≡ min b a
least a b = omega arith

-- so many of them are told as the code tells
pub capped : (g : Word → Bytes) (labels : List (Bor (List ℕ))) (told : ℕ) → told ≡ min (length labels) most_told
    → map g (seen_words (take told labels)) ++ more_line (length labels - told)
    ≡ map g (take most_told (seen_words labels)) ++ more_line (length (seen_words labels) - most_told)
capped g labels told is =
    let first : seen_words (take told labels) ≡ take most_told (seen_words labels) =
    ap (λ k. seen_words (take k labels)) (is ∙ least (length labels) most_told) ∙ ap seen_words (take_min most_told labels)
    ∙ sym (take-map (λ (w : Bor (List ℕ)). w.now) most_told labels) in
    let long : length (seen_words labels) ≡ length labels = length-map labels (λ (w : Bor (List ℕ)). w.now) in
    let rest : length labels - told ≡ length (seen_words labels) - most_told = omega (arith, is, long) in
    ap₂ (λ ws n. map g ws ++ more_line n) first rest

-- where nothing was given up, nothing vanished
pub none_vanished : (given living labels : List Word) → given ≡ []
    → filter (λ w. is_in given w && not (is_in living w)) labels ≡ []
none_vanished given living labels none =
    ap (λ (gs : List Word). filter (λ w. is_in gs w && not (is_in living w)) labels) none ∙ all_fail labels where
      all_fail : (ws : List Word) → filter (λ w. is_in [] w && not (is_in living w)) ws ≡ []
      all_fail [] = refl
      all_fail (w ∷ ws) = all_fail ws
