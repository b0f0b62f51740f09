-- What lawful hypotheses and assertions name is declared where they stand, and a lawful proof is whole.
use Rattle.std.proofs.Common.{◌≡◌, true, false, List, [], ◌∷◌, ◌++◌, IsTrue, length, sym, ap, ◌∙◌, inl, inr}
use Rattle.std.specs.Prelude.{All, Some, is_some, nat_le, ◌||◌}
use Rattle.std.specs.List.{list_any, list_all}
use mathlib.Core.Bool.{not}
use Rattle.std.proofs.lemmas.Bool.{cases_Bool, or_parts, or_right, and_parts, not-false}
use Rattle.std.proofs.lemmas.List.Elements.{All-nil, All-cons, All-weaker}
use Rattle.std.proofs.lemmas.List.Sums.{AllPass-from_list_all}
use Rattle.mmtext.specs.declared.fault.FaultKind.TheVariants.{UnknownSymbol, NotActive, NoTypeFor}
use Rattle.mmtext.specs.Words.{Word, is_label}
use Rattle.source.specs.Statements.{Proof, normal, compressed}
use Rattle.source.specs.Scopes.{Hypothesis, typing, premise, Assertion, Scope, is_in, is_float_of, has_float}
use Rattle.source.specs.Scopes.{is_unknown}
use Rattle.source.specs.Proofs.{taken_by, is_unfinished}
use Rattle.source.specs.Tests.{label_tests, type_tests, symbol_tests, step_tests, cited_tests, letter_tests, passes, all_pass}
use Rattle.source.specs.Tests.{is_new_label, is_expression, has_lawful_words, is_whole, is_lawful_proof}
use Rattle.source.specs.Whole.{is_typed_at, IsHypothesisWhole, labels_in, IsProofWhole, IsAssertionWhole}
use Rattle.source.proofs.Passing.{each_clear, three_parts, step_named, cited_named}
use Rattle.source.proofs.InOrder.{all_passed}
use Rattle.source.proofs.CountedWords.{named_takes}
use Rattle.source.proofs.Growing.{Grows}
use Rattle.source.proofs.Everywhere.{asserting, bare}

-- ---- labels

-- a label that may be declared isn't yet
pub new_label_apart : (s : Scope) (label : Word) → is_new_label s label ≡ true → is_in s.labels label ≡ false
new_label_apart s label h =
    let pass = (and_parts (is_label label) (passes (label_tests s label)) h).1 in
    (or_parts (is_in s.labels label) (is_in s.symbols label) (each_clear (label_tests s label) pass).0).0

-- ---- symbols

pub type_declared : (s : Scope) (w : Word) → passes (type_tests s w) ≡ true → is_in s.constants w ≡ true
type_declared s w h =
    not-false (is_in s.constants w)
    (each_clear ((not (is_in s.constants w), UnknownSymbol) ∷ []) (each_clear (type_tests s w) h).1).0

symbol_typed : (s : Scope) (front : List Word) (w : Word) → passes (symbol_tests s front w) ≡ true
    → IsTrue (is_typed_at s (bare s) w)
symbol_typed s [] w h = ap (λ b. b || has_float s w) (type_declared s w h)
symbol_typed s (c ∷ front) w h =
    let typed = (not (is_in s.constants w || has_float s w), NoTypeFor) ∷ [] in
    let active = (not (is_in s.constants w || is_in s.variables w), NotActive) ∷ typed in
    let known = (not (is_in s.symbols w), UnknownSymbol) ∷ active in
    let h1 : passes known ≡ true = (each_clear (symbol_tests s (c ∷ front) w) h).1 in
    let h2 : passes active ≡ true = (each_clear known h1).1 in
    let h3 : passes typed ≡ true = (each_clear active h2).1 in
    not-false (is_in s.constants w || has_float s w) (each_clear typed h3).0

pub expression_typed : (s : Scope) (ws : List Word) → is_expression s ws ≡ true → All (λ w. IsTrue (is_typed_at s (bare s) w)) ws
expression_typed s ws h =
    all_passed (symbol_tests s) (λ w. IsTrue (is_typed_at s (bare s) w)) (symbol_typed s) [] ws
    (and_parts (nat_le 1 (length ws)) (all_pass (symbol_tests s) [] ws) h).1

-- ---- proofs

module _ (s : Scope) where
  abbrev IsTaken : Word → Type 0
  IsTaken w = IsTrue (is_some (taken_by s.assertions s.hypotheses w))

  steps_taken : (front ws : List Word) → list_any is_unknown ws ≡ false → all_pass (step_tests s) front ws ≡ true → All IsTaken ws
  steps_taken front [] finished h = All-nil IsTaken
  steps_taken front (w ∷ ws) finished h =
      let known = or_parts (is_unknown w) (list_any is_unknown ws) finished in
      let both = and_parts (passes (step_tests s front w)) (all_pass (step_tests s) (front ++ w ∷ []) ws) h in
      All-cons IsTaken w ws (named_takes s w (step_named s front w both.0 known.0)) (steps_taken (front ++ w ∷ []) ws known.1 both.1)

  labels_taken : (e : List Word) (proof : Proof) → has_lawful_words s e proof ≡ true → is_unfinished proof ≡ false
      → All IsTaken (labels_in proof)
  labels_taken e (normal ws) h finished =
      steps_taken [] ws finished (and_parts (nat_le 1 (length ws)) (all_pass (step_tests s) [] ws) h).1
  labels_taken e (compressed labels letters) h finished =
      let cited = λ (w : Word). passes (cited_tests s e w) in
      let parts = three_parts (list_all cited labels) (nat_le 1 (length letters)) (all_pass (letter_tests s e labels) [] letters) h in
      All-weaker (λ w. cited w ≡ true) IsTaken (λ w p. named_takes s w (cited_named s e w p)) labels
      (AllPass-from_list_all cited labels parts.0)

  -- a lawful proof is whole
  pub proof_whole : (label : Word) (e : List Word) (proof : Proof) → is_lawful_proof s e proof ≡ true
      → IsProofWhole s.assertions (asserting s label e (Some proof)) proof
  proof_whole label e proof h =
      let both = and_parts (has_lawful_words s e proof) (is_whole s e proof) h in
      record { named = labels_taken e proof both.0; leaves_one = both.1 }

-- ---- hypotheses

-- what is typed stays so
pub typed_stays : (s t : Scope) (x y : Assertion) → Grows s t
    → ((w : Word) → list_any (is_float_of w) x.active ≡ true → list_any (is_float_of w) y.active ≡ true)
    → (w : Word) → IsTrue (is_typed_at s x w) → IsTrue (is_typed_at t y w)
typed_stays s t x y g floats w h = elim (cases_Bool (is_in s.constants w)) [
  | inl is ↦ ap (λ b. b || list_any (is_float_of w) y.active) (g.constants w is)
  | inr other ↦ or_right (is_in t.constants w) (list_any (is_float_of w) y.active)
      (floats w (ap (λ b. b || list_any (is_float_of w) x.active) (sym other) ∙ h))
]

pub hypothesis_stays : (s t : Scope) (x y : Assertion) → Grows s t
    → ((w : Word) → list_any (is_float_of w) x.active ≡ true → list_any (is_float_of w) y.active ≡ true)
    → (h : Hypothesis) → IsHypothesisWhole s x h → IsHypothesisWhole t y h
hypothesis_stays s t x y g floats (typing label c v) h = (g.labels label h.0, g.constants c h.1)
hypothesis_stays s t x y g floats (premise label ws) h = (
  g.labels label h.0,
  All-weaker (λ w. IsTrue (is_typed_at s x w)) (λ w. IsTrue (is_typed_at t y w)) (typed_stays s t x y g floats) ws h.1,
)

-- ---- assertions

pub assertion_stays : (s t : Scope) (earlier : List Assertion) (x : Assertion) → Grows s t → IsAssertionWhole s earlier x
    → IsAssertionWhole t earlier x
assertion_stays s t earlier x g a = record {
  hypotheses = All-weaker (IsHypothesisWhole s x) (IsHypothesisWhole t x) (hypothesis_stays s t x x g (λ w h. h)) x.active a.hypotheses;
  statement = All-weaker (λ w. IsTrue (is_typed_at s x w)) (λ w. IsTrue (is_typed_at t x w)) (typed_stays s t x x g (λ w h. h)) x.statement
      a.statement;
  mandatory = a.mandatory;
  proof = a.proof;
}
