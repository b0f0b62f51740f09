-- What is counted of the labels of a normal proof, with one more of them.
use Rattle.std.proofs.Common.{◌≡◌, Bool, true, false, List, [], ◌∷◌, ◌++◌, map, refl, sym, ap, subst, ◌∙◌}
use Rattle.std.specs.Prelude.{Some}
use Rattle.std.specs.List.{list_any}
use Rattle.std.proofs.lemmas.Bool.{or_parts, cond-true, cond-false}
use Rattle.std.proofs.lemmas.List.{map-append}
use Rattle.mmtext.specs.Words.{Word}
use Rattle.source.specs.declared.entries.Entries.{Entries}
use Rattle.source.specs.Scopes.{Hypothesis, Assertion, is_unknown}
use Rattle.source.specs.Proofs.{names, unknown, step_of_word, go_on, labels_go_on}
use Rattle.source.specs.Counts.{StepsAreCounted, LabelsAreCounted, IsStep}
use Rattle.source.proofs.CountedSteps.{one_more}

-- ---- what a word is

pub unknown_word : (w : Word) → is_unknown w ≡ true → step_of_word w ≡ unknown
unknown_word w is = cond-true (is_unknown w) unknown (names w) is

pub label_word : (w : Word) → is_unknown w ≡ false → step_of_word w ≡ names w
label_word w is = cond-false (is_unknown w) unknown (names w) is

-- without a ? all words are labels
pub labels_alone : (ws : List Word) → list_any is_unknown ws ≡ false → map step_of_word ws ≡ map (λ w. names w) ws
labels_alone [] none = refl
labels_alone (w ∷ ws) none =
    let parts = or_parts (is_unknown w) (list_any is_unknown ws) none in
    ap (λ x. x ∷ map step_of_word ws) (label_word w parts.0) ∙ ap (λ xs. names w ∷ xs) (labels_alone ws parts.1)

-- ---- one more

pub word_counted : (earlier : List Assertion) (active : List Hypothesis) (ws : List Word) (w : Word) (old new : Entries) (goes : Bool)
    → LabelsAreCounted earlier active ws old → IsStep earlier active (step_of_word w) old new goes
    → (goes ≡ labels_go_on earlier active (ws ++ w ∷ [])) × (goes ≡ true → LabelsAreCounted earlier active (ws ++ w ∷ []) new)
word_counted earlier active ws w old new goes counted step =
    let more = one_more earlier active (map step_of_word ws) (step_of_word w) old new goes counted.steps step in
    let same = sym (map-append step_of_word ws (w ∷ [])) in (
      more.0 ∙ ap (λ xs. go_on earlier active (Some xs)) same,
      λ go. record {
        steps = subst (λ xs. StepsAreCounted earlier active xs new) same (more.1 go);
        front = step.front ∙ counted.front;
      },
    )
