-- One more word of a line.
use Rattle.std.proofs.Common.{◌≡◌, ◌∙◌, ℕ, List, [], ◌∷◌, ◌++◌, sym, ap, append_assoc, subst}
use Rattle.std.specs.Prelude.{◌≢◌, All}
use Rattle.std.specs.Borrow.{Bor}
use Rattle.std.specs.List.{AllByRecursion}
use Rattle.std.proofs.lemmas.List.{map-append, append-nil}
use Rattle.std.proofs.lemmas.List.Elements.{recursion_from_All, All-from_recursion, All-push}
use Rattle.std.proofs.lemmas.Grind.{flat_map-append}
use Rattle.mmtext.specs.Words.{Word}
use Rattle.source.specs.Views.{seen_words}
use Rattle.mmsyntax.specs.Layout.{spaced}
use Rattle.taketext.specs.Origins.{IsInLine, IsBetweenSpaces}
use Rattle.taketext.specs.Reading.{IsCut, AreWords}

-- words so far, and what is left of a line
pub record AreFront (line left : List ℕ) (ws : List Word) : Type 0 where
  pub are : spaced ws ++ 32 ∷ left ≡ 32 ∷ line
  pub each : All IsBetweenSpaces ws
  pub in_line : IsInLine left

both : (xs : List ℕ) → AllByRecursion (λ b. b ≢ 10) xs → AllByRecursion (λ b. b ≢ 32) xs → AllByRecursion (λ b. (b ≢ 10) × (b ≢ 32)) xs
both [] h k = tt
both (x ∷ xs) h k = ((h.0, k.0), both xs h.1 k.1)

plain : (w : Word) → IsInLine w → All (λ b. b ≢ 32) w → IsBetweenSpaces w
plain w h k =
    All-from_recursion (λ (b : ℕ). (b ≢ 10) × (b ≢ 32)) w
    (both w (recursion_from_All (λ (b : ℕ). b ≢ 10) w h) (recursion_from_All (λ (b : ℕ). b ≢ 32) w k))

halves : {X : Type 0} (P : X → Type 0) (xs : List X) (y : X) (ys : List X) → AllByRecursion P (xs ++ y ∷ ys)
    → AllByRecursion P xs × AllByRecursion P ys
halves P [] y ys h = (tt, h.1)
halves P (x ∷ xs) y ys h = let r = halves P xs y ys h.1 in ((h.0, r.0), r.1)

-- one more that is pushed
spaced_push : (ws : List Word) (w : Word) → spaced (ws ++ w ∷ []) ≡ spaced ws ++ 32 ∷ w
spaced_push ws w = flat_map-append (λ (v : Word). 32 ∷ v) ws (w ∷ []) ∙ ap (λ (l : List ℕ). spaced ws ++ 32 ∷ l) (append-nil w)

abbrev now : Bor (List ℕ) → Word
now w = w.now

pub words_more : (ws next : List (Bor (List ℕ))) (word : Bor (List ℕ)) (behind left line : List ℕ) → next ≡ ws ++ word ∷ []
    → AreFront line left (seen_words ws) → IsCut left 32 word.now behind → AreFront line behind (seen_words next)
words_more ws next word behind left line pushed h cut =
    let P : ℕ → Type 0 = λ b. b ≢ 10 in
    let seen : seen_words next ≡ seen_words ws ++ word.now ∷ [] = ap seen_words pushed ∙ map-append now ws (word ∷ []) in
    let parts = halves P word.now 32 behind (recursion_from_All P (word.now ++ 32 ∷ behind) (subst IsInLine cut.is h.in_line)) in
    record {
      are =
          ap (λ (l : List Word). spaced l ++ 32 ∷ behind) seen
          ∙ ap (λ (l : List ℕ). l ++ 32 ∷ behind) (spaced_push (seen_words ws) word.now)
          ∙ append_assoc (spaced (seen_words ws)) (32 ∷ word.now) (32 ∷ behind)
          ∙ ap (λ (l : List ℕ). spaced (seen_words ws) ++ 32 ∷ l) (sym cut.is)
          ∙ h.are;
      each =
          subst (All IsBetweenSpaces) (sym seen)
          (All-push IsBetweenSpaces (seen_words ws) word.now h.each (plain word.now (All-from_recursion P word.now parts.0) cut.first));
      in_line = All-from_recursion P behind parts.1;
    }

pub words_all : (ws next : List (Bor (List ℕ))) (left : Bor (List ℕ)) (line : List ℕ) → next ≡ ws ++ left ∷ []
    → AreFront line left.now (seen_words ws) → All (λ b. b ≢ 32) left.now → AreWords line (seen_words next)
words_all ws next left line pushed h none =
    let seen : seen_words next ≡ seen_words ws ++ left.now ∷ [] = ap seen_words pushed ∙ map-append now ws (left ∷ []) in
    record {
      are = ap spaced seen ∙ spaced_push (seen_words ws) left.now ∙ h.are;
      each =
          subst (All IsBetweenSpaces) (sym seen)
          (All-push IsBetweenSpaces (seen_words ws) left.now h.each (plain left.now h.in_line none));
    }
