-- Theorems with labels for their axioms, one more at a time.
use Rattle.std.proofs.Common.{◌≡◌, ◌∙◌, ◌+◌, ◌<◌, ℕ, List, [], ◌∷◌, ◌++◌, length, map, take, get_or, sym, ap, ap₂, arith, Bor}
use Rattle.std.specs.List.{zip}
use Rattle.std.proofs.lemmas.List.{get_or-map, length-map, map-append, map_more}
use Rattle.std.proofs.lemmas.Slice.Zip.{get_or-zip, length-zip}
use Rattle.mmtext.specs.Words.{Word}
use Rattle.source.specs.Scopes.{Pair}
use Rattle.source.specs.Views.{seen_pairs}
use Rattle.sourceediting.proofs.Origins.{seen}
use Rattle.standins.specs.declared.standing.StandIn.{StandIn as CodeStandIn}
use Rattle.standins.specs.StandIns.{StandIn, stand_in}
use Rattle.standins.specs.Views.{seen_stand_in, seen_stand_ins}

module _ (theorems : List (Bor (List ℕ) × Bor (List ℕ))) (labels : List Word) (n : ℕ) (theorem : Bor (List ℕ) × Bor (List ℕ)) (label : Word)
    (there : n < length theorems) (labelled : n < length labels) (theorem_is : theorem ≡ get_or theorems n theorem)
    (label_is : label ≡ get_or labels n label) where
  abbrev both : List (Pair × Word)
  both = zip (seen_pairs theorems) labels

  abbrev one : Pair × Word
  one = ((theorem.0.now, theorem.1.now), label)

  within : n < length both
  within = omega (arith, length-zip (seen_pairs theorems) labels, length-map theorems seen, there, labelled)

  one_is : get_or both n one ≡ one
  one_is =
      let long : n < length (seen_pairs theorems) = omega (arith, length-map theorems seen, there) in
      get_or-zip (seen_pairs theorems) labels n one long labelled
      ∙ ap₂ (λ (p : Pair) (w : Word). (p, w)) (get_or-map seen theorems n theorem (seen theorem) there ∙ ap seen (sym theorem_is))
      (sym label_is)

  -- one more
  pub labelled_next : (m : ℕ) (made more : List CodeStandIn) (next : CodeStandIn) → m ≡ n + 1 → next.source ≡ theorem.0.now
      → next.theorem ≡ theorem.1.now → next.cited ≡ label
      → seen_stand_ins made ≡ map stand_in (take n (zip (seen_pairs theorems) labels)) → more ≡ made ++ next ∷ []
      → seen_stand_ins more ≡ map stand_in (take m (zip (seen_pairs theorems) labels))
  labelled_next m made more next many source_is theorem_is' cited_is so_far is =
      let same : seen_stand_in next ≡ stand_in one =
      ap₂ (λ (p : Pair) (w : Word). stand_in (p, w)) (ap₂ (λ (v w : Word). (v, w)) source_is theorem_is') cited_is in
      ap seen_stand_ins is
      ∙ map-append seen_stand_in made (next ∷ [])
      ∙ ap₂ (λ (xs : List StandIn) (x : StandIn). xs ++ x ∷ []) so_far (same ∙ ap stand_in (sym one_is))
      ∙ sym (map_more stand_in both n one within)
      ∙ ap (λ k. map stand_in (take k both)) (sym many)
