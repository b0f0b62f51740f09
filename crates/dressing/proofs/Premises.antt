-- The labels of the `$e` among hypotheses, one more of these; and what stands at the first place that passes a test.
use Rattle.std.proofs.Common.{◌≡◌, ◌∙◌, ◌<◌, ℕ, Bool, List, [], ◌∷◌, ◌++◌, length, Some, sym, ap, Bor, append-nil, inl, inr, arith}
use Rattle.std.specs.Prelude.{slice_get}
use Rattle.std.proofs.lemmas.Option.{slice_get_cases}
use Rattle.std.proofs.lemmas.List.{map_push}
use Rattle.mmtext.specs.Words.{Word}
use Rattle.mmsyntax.specs.Tables.{place_of}
use Rattle.prooftrees.proofs.Found.{first_is}
use Rattle.source.specs.declared.contents.HypothesisWords.{HypothesisWords}
use Rattle.source.specs.Views.{seen_hypothesis, seen_hypotheses}
use Rattle.taking.specs.Listings.{premise_labels}
use Rattle.taking.proofs.Premises.{premises_append}

module _ (seen : List (Bor HypothesisWords)) (one : Bor HypothesisWords) (made : List Word)
    (so_far : made ≡ premise_labels (seen_hypotheses seen)) where
  both : (ws : List Word) → premise_labels (seen_hypothesis one.now ∷ []) ≡ ws
      → made ++ ws ≡ premise_labels (seen_hypotheses (seen ++ one ∷ []))
  both ws kind =
      ap (λ vs. vs ++ ws) so_far
      ∙ ap (λ vs. premise_labels (seen_hypotheses seen) ++ vs) (sym kind)
      ∙ sym (premises_append (seen_hypotheses seen) (seen_hypothesis one.now ∷ []))
      ∙ ap premise_labels (sym (map_push (λ (h : Bor HypothesisWords). seen_hypothesis h.now) seen one))

  -- a `$e`
  pub one_more : (label : Word) → premise_labels (seen_hypothesis one.now ∷ []) ≡ label ∷ []
      → made ++ label ∷ [] ≡ premise_labels (seen_hypotheses (seen ++ one ∷ []))
  one_more label kind = both (label ∷ []) kind

  -- a `$f`
  pub one_less : premise_labels (seen_hypothesis one.now ∷ []) ≡ [] → made ≡ premise_labels (seen_hypotheses (seen ++ one ∷ []))
  one_less kind = sym (append-nil made) ∙ both [] kind

module _ {A : Type 0} (test : A → Bool) (xs : List A) (place : ℕ) (stands : place_of test xs ≡ Some place) where
  pub within : place < length xs
  within = (first_is test xs place place stands).within

  pub there : (x : A) × (slice_get xs place ≡ Some x)
  there =
      let lt = within in
      elim (slice_get_cases xs place).1 [ inl y ↦ (y.0, y.2) | inr past ↦ absurd (omega arith) ]
