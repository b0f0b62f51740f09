-- The labels of mandatory hypotheses, one behind another.
use Rattle.std.proofs.Common.{◌≡◌, Bool, List, [], ◌∷◌, ◌++◌, map, sym, ap, subst, ◌∙◌, Bor}
use Rattle.std.specs.Prelude.{if◌then◌else◌}
use Rattle.std.proofs.lemmas.List.{map_push}
use Rattle.mmtext.specs.Words.{Word}
use Rattle.source.specs.declared.contents.HypothesisWords.{HypothesisWords}
use Rattle.source.specs.Scopes.{label_of}
use Rattle.source.specs.Views.{seen_words, seen_hypothesis, seen_hypotheses}
use Rattle.taking.specs.Listings.{premise_labels}
use Rattle.taking.proofs.Premises.{premises_append}
use Rattle.sourcewriting.specs.declared.proving.Hypotheses.{Hypotheses}
use Rattle.sourcewriting.specs.Taking.{AreHypotheses}

-- one more
pub one_more_hypothesis : (seen : List (Bor HypothesisWords)) (one : Bor HypothesisWords) (old new : Hypotheses) (label : Word)
    (is_premise : Bool) → AreHypotheses (seen_hypotheses seen) old → label ≡ label_of (seen_hypothesis one.now)
    → premise_labels (seen_hypothesis one.now ∷ []) ≡ (if is_premise then label ∷ [] else [])
    → seen_words new.mandatory.items ≡ seen_words old.mandatory.items ++ label ∷ []
    → seen_words new.premises.items ≡ seen_words old.premises.items ++ (if is_premise then label ∷ [] else [])
    → AreHypotheses (seen_hypotheses (seen ++ one ∷ [])) new
one_more_hypothesis seen one old new label is_premise was named kind mandatory premises =
    let hs = seen_hypotheses seen in
    let h = seen_hypothesis one.now in
    let more : seen_hypotheses (seen ++ one ∷ []) ≡ hs ++ h ∷ [] = map_push (λ (h : Bor HypothesisWords). seen_hypothesis h.now) seen one in
    subst (λ gs. AreHypotheses gs new) (sym more) (record {
      mandatory =
          mandatory
          ∙ ap (λ ws. ws ++ label ∷ []) was.mandatory
          ∙ ap (λ w. map label_of hs ++ w ∷ []) named
          ∙ sym (map_push label_of hs h);
      premises =
          premises
          ∙ ap (λ ws. ws ++ (if is_premise then label ∷ [] else [])) was.premises
          ∙ ap (λ ws. premise_labels hs ++ ws) (sym kind)
          ∙ sym (premises_append hs (h ∷ []));
    })
