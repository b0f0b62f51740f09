-- The text of a compressed proof is marked, wherever labels take as many entries as is known of the source and the library.
use Rattle.std.proofs.Common.{◌≡◌, ℕ, List, [], ◌∷◌, ◌++◌, length, map, refl, sym, ap, subst, ◌∙◌, inr, append_assoc, codes, arith}
use Rattle.std.specs.Prelude.{All, Contains, Some}
use Rattle.std.specs.Option.{option_map}
use Rattle.std.proofs.lemmas.List.{length-map, map-append, get_or-map}
use Rattle.std.proofs.lemmas.List.Elements.{All-append, All-map, All-weaker, All-contains_itself}
use Rattle.mmtext.specs.Words.{Word}
use Rattle.source.specs.Scopes.{Hypothesis, Assertion, label_of, Scope}
use Rattle.source.specs.Proofs.{step_of, taken_by}
use Rattle.sourcewriting.specs.declared.listing.Names.{Names}
use Rattle.sourcewriting.specs.declared.shared.CountedLabel.{CountedLabel}
use Rattle.sourcewriting.specs.Counting.{Takes, TakeAsMany}
use Rattle.sourcewriting.specs.MarkedTexts.{IsMarkedText}
use Rattle.sourcewriting.specs.Lines.{laid_out}
use Rattle.sourcewriting.specs.Reading.{counts_of, labels_in, TakeSo}
use Rattle.sourcewriting.specs.Taking.{IsMarkedAs}
use Rattle.sourcewriting.proofs.Counted.{all_among}

first_of : Word × ℕ → Word
first_of p = p.0

firsts : (cs : List CountedLabel) → map first_of (counts_of cs) ≡ labels_in cs
unfolding first_of
firsts [] = refl
firsts (c ∷ cs) = ap (λ ws. c.label.now ∷ ws) (firsts cs)

firsts_none : (ws : List Word) → map first_of (map (λ w. (w, 0)) ws) ≡ ws
unfolding first_of
firsts_none [] = refl
firsts_none (w ∷ ws) = ap (λ vs. w ∷ vs) (firsts_none ws)

-- the labels that are counted
labels_are : (counted labels : List CountedLabel) (mandatory : List Word)
    → counts_of counted ≡ map (λ w. (w, 0)) mandatory ++ counts_of labels → labels_in counted ≡ mandatory ++ labels_in labels
labels_are counted labels mandatory are =
    sym (firsts counted)
    ∙ ap (map first_of) are
    ∙ map-append first_of (map (λ w. (w, 0)) mandatory) (counts_of labels)
    ∙ ap (λ ws. ws ++ map first_of (counts_of labels)) (firsts_none mandatory)
    ∙ ap (λ ws. mandatory ++ ws) (firsts labels)

-- what is so of each count
pub each : (P : Word × ℕ → Type 0) (cs : List CountedLabel) → All P (counts_of cs) → All (λ c. P (c.label.now, c.takes)) cs
each P cs a k d h =
    let pair : CountedLabel → Word × ℕ = λ c. (c.label.now, c.takes) in
    subst P (get_or-map pair cs k d (pair d) h) (a k (pair d) (omega (arith, length-map cs pair)))

module _ (i : List ℕ) (s : Scope) (m : Names) (hs : List Hypothesis) (mandatory : List Word) (words : List CountedLabel) (text : List ℕ)
    (are : mandatory ≡ map label_of hs) (all : All (λ (p : Word × ℕ). Takes s m hs p.0 p.1) (counts_of words))
    (is : IsMarkedAs i mandatory words text) where
  none_taken : All (λ (p : Word × ℕ). Takes s m hs p.0 p.1) (map (λ w. (w, 0)) mandatory)
  none_taken =
      All-map (λ (p : Word × ℕ). Takes s m hs p.0 p.1) (λ (w : Word). (w, 0)) mandatory
      (All-weaker (Contains mandatory) (λ w. Takes s m hs w 0)
      (λ w has. inr (record { stands = inr (subst (λ ws. Contains ws w) are has); none = refl })) mandatory (All-contains_itself mandatory))

  all_taken : All (λ (p : Word × ℕ). Takes s m hs p.0 p.1) (counts_of is.counted)
  all_taken =
      subst (All (λ (p : Word × ℕ). Takes s m hs p.0 p.1)) (sym is.are)
      (All-append (λ (p : Word × ℕ). Takes s m hs p.0 p.1) (map (λ w. (w, 0)) mandatory) (counts_of is.labels) none_taken
      (all_among (λ (p : Word × ℕ). Takes s m hs p.0 p.1) (counts_of is.labels) (counts_of words) is.among all))

  so_many : (earlier : List Assertion) (active : List Hypothesis) → TakeAsMany (Takes s m hs) earlier active
      → TakeSo is.counted earlier active
  so_many earlier active take =
      All-weaker (λ (c : CountedLabel). Takes s m hs c.label.now c.takes)
      (λ c. (taken : List Hypothesis) → taken_by earlier active c.label.now ≡ Some taken → length taken ≡ c.takes)
      (λ c takes taken is. take c.label.now c.takes taken takes is) is.counted
      (each (λ (p : Word × ℕ). Takes s m hs p.0 p.1) is.counted all_taken)

  pub marked_proof : IsMarkedText i (Takes s m hs) hs text
  marked_proof =
      let labels = labels_in is.labels in
      let counted : labels_in is.counted ≡ map label_of hs ++ labels =
      labels_are is.counted is.labels mandatory is.are ∙ ap (λ ws. ws ++ labels) are in
      record {
        laid_out = record { laid = is.laid.laid; lines = is.laid.lines ∙ ap (laid_out i) (sym is.laid.says) };
        labels = labels;
        letters = is.letters;
        says = is.laid.says ∙ ap (λ ws. codes "(" ∷ ws) (append_assoc labels (codes ")" ∷ []) is.letters);
        filled = is.filled;
        steps = map (step_of (labels_in is.counted)) is.marked.codes;
        steps_are =
            ap (option_map (map (step_of (map label_of hs ++ labels)))) is.marked.said
            ∙ ap (λ ws. Some (map (step_of ws) is.marked.codes)) (sym counted);
        marked = λ earlier active take. is.marked.marked earlier active (so_many earlier active take);
      }

-- so it is where more is known of labels
pub marked_where : (i : List ℕ) (takes known : Word → ℕ → Type 0) (hs : List Hypothesis) (text : List ℕ)
    → ((label : Word) (n : ℕ) → takes label n → known label n) → IsMarkedText i takes hs text → IsMarkedText i known hs text
marked_where i takes known hs text within is = record {
  laid_out = is.laid_out;
  labels = is.labels;
  letters = is.letters;
  says = is.says;
  filled = is.filled;
  steps = is.steps;
  steps_are = is.steps_are;
  marked = λ earlier active take. is.marked earlier active (λ label n taken one. take label n taken (within label n one));
}
