-- The labels that are asked for, of one assertion after another.
use Rattle.std.proofs.Common.{◌≡◌, ◌∙◌, ◌<◌, ◌≤◌, ◌+◌, ℕ, List, [], ◌∷◌, ◌++◌, length, map, take, drop, get_or, refl, sym, ap, arith, append-nil, Bor, length-append}
use Rattle.std.specs.List.{flat_map}
use Rattle.std.proofs.lemmas.List.{take-append-drop, take_at, length-map, map-append, map_more}
use Rattle.std.proofs.lemmas.Grind.{flat_map-append}
use Rattle.mmtext.specs.Words.{Word}
use Rattle.source.specs.Views.{seen_words}
use Rattle.pasting.specs.Quotes.{GivenLabels}
use Rattle.pasting.specs.Views.{seen_given_labels}
use Rattle.pasting.specs.declared.own_words.GivenLabels.{GivenLabels as CodeLabels}

abbrev pub asked_by : List GivenLabels → List Word
asked_by gs = flat_map (λ g. g.premises) gs

module _ (gs : List CodeLabels) (i : ℕ) where
  -- by the first so many
  abbrev pub asked : List Word
  asked = asked_by (map seen_given_labels (take i gs))

  split : asked_by (map seen_given_labels gs) ≡ asked ++ asked_by (map seen_given_labels (drop i gs))
  split =
      ap (λ (hs : List CodeLabels). asked_by (map seen_given_labels hs)) (sym (take-append-drop i gs))
      ∙ ap asked_by (map-append seen_given_labels (take i gs) (drop i gs))
      ∙ flat_map-append (λ (g : GivenLabels). g.premises) (map seen_given_labels (take i gs)) (map seen_given_labels (drop i gs))

  pub front : take (length asked) (asked_by (map seen_given_labels gs)) ≡ asked
  front = ap (take (length asked)) split ∙ take_at asked (asked_by (map seen_given_labels (drop i gs))) (length asked) refl

  pub within : length asked ≤ length (asked_by (map seen_given_labels gs))
  within =
      let long = ap length split ∙ length-append asked (asked_by (map seen_given_labels (drop i gs))) in omega (arith, long)

-- and by one more
pub one_more : (gs : List CodeLabels) (i : ℕ) (d : CodeLabels) → i < length gs
    → asked gs (i + 1) ≡ asked gs i ++ seen_words (get_or gs i d).premises.now
one_more gs i d lt =
    let before = map seen_given_labels (take i gs) in
    ap asked_by (map_more seen_given_labels gs i d lt)
    ∙ flat_map-append (λ (h : GivenLabels). h.premises) before (seen_given_labels (get_or gs i d) ∷ [])
    ∙ ap (λ ws. asked_by before ++ ws) (append-nil (seen_words (get_or gs i d).premises.now))

pub one_longer : (gs : List CodeLabels) (i : ℕ) (d : CodeLabels) → i < length gs
    → length (asked gs (i + 1)) ≡ length (asked gs i) + length (get_or gs i d).premises.now
one_longer gs i d lt =
    let words = (get_or gs i d).premises.now in
    ap length (one_more gs i d lt)
    ∙ length-append (asked gs i) (seen_words words)
    ∙ ap (λ n. length (asked gs i) + n) (length-map words (λ (w : Bor (List ℕ)). w.now))
