-- Words behind words that pass a test: one more word, one more script.
use Rattle.std.proofs.Common.{◌≡◌, ◌<◌, ◌+◌, ℕ, Bool, true, false, List, [], ◌∷◌, ◌++◌, length, map, take, get_or, Bor, Some}
use Rattle.std.proofs.Common.{refl, sym, ap, ◌∙◌, append_assoc}
use Rattle.std.specs.Prelude.{if◌then◌else◌, slice_get}
use Rattle.std.proofs.lemmas.Option.{slice_get-get_or}
use Rattle.std.specs.List.{flat_map}
use Rattle.std.proofs.lemmas.Grind.{flat_map-append}
use Rattle.std.proofs.lemmas.Bool.{cond-true, cond-false}
use Rattle.std.proofs.lemmas.List.{append-nil, map-append}
use Rattle.source.specs.Views.{seen_words}
use Rattle.mmtext.specs.Text.{Token}
use Rattle.mmtext.specs.Views.{seen}
use Rattle.mmtext.specs.Words.{Word}
use Rattle.mmtext.specs.declared.token.Token.{Token as CodeToken}
use Rattle.mmsyntax.proofs.Items.{take_next}
use Rattle.expanding.specs.Asking.{word_behind, words_behind, spoken_in}

-- whether the last word passes a test
abbrev pub last_passes : (Word → Bool) → List Word → Bool
last_passes test [] = false
last_passes test (w ∷ []) = test w
last_passes test (v ∷ w ∷ ws) = last_passes test (w ∷ ws)

pub last_of : (test : Word → Bool) (ws : List Word) (w : Word) → last_passes test (ws ++ w ∷ []) ≡ test w
last_of test [] w = refl
last_of test (v ∷ []) w = refl
last_of test (v ∷ u ∷ ws) w = last_of test (u ∷ ws) w

-- one more word
pub behind_more : (test : Word → Bool) (ws : List Word) (w : Word)
    → words_behind test (ws ++ w ∷ []) ≡ words_behind test ws ++ (if last_passes test ws then w ∷ [] else [])
behind_more test [] w = refl
behind_more test (v ∷ []) w = append-nil (if test v then w ∷ [] else [])
behind_more test (v ∷ u ∷ ws) w =
    ap (λ vs. word_behind test v (u ∷ ws) ++ vs) (behind_more test (u ∷ ws) w)
    ∙ sym (append_assoc (word_behind test v (u ∷ ws)) (words_behind test (u ∷ ws)) (if last_passes test (u ∷ ws) then w ∷ [] else []))

-- ---- turns over words

pub seen_next : (words : List (Bor (List ℕ))) (k : ℕ) (d : Bor (List ℕ)) → k < length words
    → seen_words (take (k + 1) words) ≡ seen_words (take k words) ++ (get_or words k d).now ∷ []
seen_next words k d h =
    ap seen_words (take_next words k (get_or words k d) (slice_get-get_or words k d h))
    ∙ map-append (λ (w : Bor (List ℕ)). w.now) (take k words) (get_or words k d ∷ [])

module _ (test : Word → Bool) (words : List (Bor (List ℕ))) (k : ℕ) (d : Bor (List ℕ)) (within : k < length words) where
  abbrev pub before : List Word
  before = seen_words (take k words)

  abbrev pub word : Word
  word = (get_or words k d).now

  pub last_next : (b : Bool) → b ≡ test word → b ≡ last_passes test (seen_words (take (k + 1) words))
  last_next b is = is ∙ sym (ap (last_passes test) (seen_next words k d within) ∙ last_of test (seen_words (take k words)) word)

  -- a word behind one that passes
  pub behind_next : (start now : List Word) → last_passes test before ≡ true → now ≡ start ++ words_behind test before
      → now ++ word ∷ [] ≡ start ++ words_behind test (seen_words (take (k + 1) words))
  behind_next start now passes is =
      ap (λ ws. ws ++ word ∷ []) is
      ∙ append_assoc start (words_behind test before) (word ∷ [])
      ∙ ap (λ ws. start ++ ws)
      (ap (λ ws. words_behind test before ++ ws) (sym (cond-true (last_passes test before) (word ∷ []) [] passes))
      ∙ sym (ap (words_behind test) (seen_next words k d within) ∙ behind_more test before word))

  -- one behind another
  pub other_next : (start now : List Word) → last_passes test before ≡ false → now ≡ start ++ words_behind test before
      → now ≡ start ++ words_behind test (seen_words (take (k + 1) words))
  other_next start now passes is =
      is
      ∙ ap (λ ws. start ++ ws)
      (sym (append-nil (words_behind test before))
      ∙ ap (λ ws. words_behind test before ++ ws) (sym (cond-false (last_passes test before) (word ∷ []) [] passes))
      ∙ sym (ap (words_behind test) (seen_next words k d within) ∙ behind_more test before word))

-- ---- words without their places

pub spoken_next : (words : List CodeToken) (k : ℕ) (d : CodeToken) → k < length words → (before now : List (Bor (List ℕ)))
    → now ≡ before ++ (get_or words k d).text ∷ [] → seen_words before ≡ spoken_in (map seen (take k words))
    → seen_words now ≡ spoken_in (map seen (take (k + 1) words))
spoken_next words k d within before now next first =
    let t = get_or words k d in
    let left : seen_words now ≡ seen_words before ++ t.text.now ∷ [] =
    ap seen_words next ∙ map-append (λ (w : Bor (List ℕ)). w.now) before (t.text ∷ []) in
    let right : spoken_in (map seen (take (k + 1) words)) ≡ spoken_in (map seen (take k words)) ++ t.text.now ∷ [] =
    ap (λ ts. spoken_in (map seen ts)) (take_next words k t (slice_get-get_or words k d within))
    ∙ ap spoken_in (map-append seen (take k words) (t ∷ []))
    ∙ map-append (λ (u : Token). u.text) (map seen (take k words)) (seen t ∷ []) in
    left ∙ ap (λ ws. ws ++ t.text.now ∷ []) first ∙ sym right

-- ---- scripts

-- one more, of which something is put behind what was put of those before
pub flat_next : {A B : Type 0} (I : A → B) (F : B → List Word) (xs : List A) (k : ℕ) (x : A) → slice_get xs k ≡ Some x
    → (before now : List Word) → before ≡ flat_map F (map I (take k xs)) → now ≡ F (I x)
    → before ++ now ≡ flat_map F (map I (take (k + 1) xs))
flat_next I F xs k x at before now first next =
    ap (λ ws. before ++ ws) (next ∙ sym (append-nil (F (I x))))
    ∙ ap (λ ws. ws ++ (F (I x) ++ [])) first
    ∙ sym (ap (λ ys. flat_map F (map I ys)) (take_next xs k x at)
    ∙ ap (flat_map F) (map-append I (take k xs) (x ∷ []))
    ∙ flat_map-append F (map I (take k xs)) (I x ∷ []))

pub seen_both : (ws vs : List (Bor (List ℕ))) → seen_words (ws ++ vs) ≡ seen_words ws ++ seen_words vs
seen_both ws vs = map-append (λ (w : Bor (List ℕ)). w.now) ws vs
