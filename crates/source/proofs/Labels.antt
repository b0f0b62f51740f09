-- Behind lawful statements every label is a label token, so that no parenthesis is a label in a proof.
use Rattle.std.proofs.Common.{◌≡◌, true, false, List, [], ◌∷◌, ◌++◌, refl, sym, ap, ◌∙◌, inl, inr}
use Rattle.std.specs.Prelude.{◌&&◌, ◌||◌, codes}
use Rattle.std.specs.List.{list_all}
use Rattle.std.specs.Str.{bytes_eq}
use Rattle.std.proofs.lemmas.Bool.{cases_Bool, and_parts}
use Rattle.std.proofs.lemmas.List.Folds.{list_all-append}
use Rattle.mmtext.specs.Words.{Word, is_label}
use Rattle.mmtext.proofs.Marks.{same_word}
use Rattle.source.specs.Statements.{Statement, constants, variables, float, hypothesis, distinct, asserted, proved, block}
use Rattle.source.specs.Statements.{Statements, none, some}
use Rattle.source.specs.Scopes.{Scope, is_in, is_unknown, enter, behind, behind_all}
use Rattle.source.specs.Tests.{passes, label_tests, type_tests, float_tests, is_new_label, is_expression, is_lawful_proof, step_tests}
use Rattle.source.specs.Tests.{cited_tests}
use Rattle.source.specs.Tests.{is_lawful, are_lawful}
use Rattle.source.proofs.Passing.{three_parts, step_labelled, cited_labelled}

-- every label so far is a label token
abbrev pub HasLabels : Scope → Type 0
HasLabels s = list_all is_label s.labels ≡ true

-- ---- words of parentheses

label_in : (ls : List Word) (w : Word) → list_all is_label ls ≡ true → is_in ls w ≡ true → is_label w ≡ true
label_in [] w all h = absurd cc
label_in (l ∷ ls) w all h =
    let both = and_parts (is_label l) (list_all is_label ls) all in
    elim (cases_Bool (bytes_eq w l)) [
      | inl y ↦ ap is_label (same_word w l y) ∙ both.0
      | inr n ↦ label_in ls w both.1 (sym (ap (λ b. b || is_in ls w) n) ∙ h)
    ]

-- a word that is no label token isn't this label
other_word : (w other : Word) → is_label w ≡ true → is_label other ≡ false → bytes_eq w other ≡ false
other_word w other h g = elim (cases_Bool (bytes_eq w other)) [
  | inl y ↦ absurd (let e : is_label w ≡ false = ap is_label (same_word w other y) ∙ g in cc)
  | inr n ↦ n
]

-- a step isn't (
pub step_apart : (s : Scope) (front : List Word) (w : Word) → HasLabels s → passes (step_tests s front w) ≡ true
    → bytes_eq w (codes "(") ≡ false
step_apart s front w all h = elim (cases_Bool (is_unknown w)) [
  | inl y ↦ ap (λ x. bytes_eq x (codes "(")) (same_word w (codes "?") y)
  | inr n ↦ other_word w (codes "(") (label_in s.labels w all (step_labelled s front w h n)) refl
]

-- a label in parentheses isn't )
pub cited_apart : (s : Scope) (e : List Word) (w : Word) → HasLabels s → passes (cited_tests s e w) ≡ true
    → bytes_eq w (codes ")") ≡ false
cited_apart s e w all h = other_word w (codes ")") (label_in s.labels w all (cited_labelled s e w h)) refl

-- ---- statements

one_more : (ls : List Word) (l : Word) → list_all is_label ls ≡ true → is_label l ≡ true → list_all is_label (ls ++ l ∷ []) ≡ true
one_more ls l all h =
    list_all-append is_label ls (l ∷ []) ∙ ap (λ b. b && (is_label l && true)) all ∙ ap (λ b. b && true) h

pub new_label : (s : Scope) (label : Word) → is_new_label s label ≡ true → is_label label ≡ true
new_label s label h = (and_parts (is_label label) (passes (label_tests s label)) h).0

mutual
  pub labels_stay : (s : Scope) (x : Statement) → HasLabels s → is_lawful s x ≡ true → HasLabels (behind s x)
  labels_stay s (constants ws) all h = all
  labels_stay s (variables ws) all h = all
  labels_stay s (float label c v) all h =
      let parts = three_parts (is_new_label s label) (passes (type_tests s c)) (passes (float_tests s v)) h in
      one_more s.labels label all (new_label s label parts.0)
  labels_stay s (hypothesis label ws) all h =
      one_more s.labels label all (new_label s label (and_parts (is_new_label s label) (is_expression s ws) h).0)
  labels_stay s (distinct ws) all h = all
  labels_stay s (asserted label ws) all h =
      one_more s.labels label all (new_label s label (and_parts (is_new_label s label) (is_expression s ws) h).0)
  labels_stay s (proved label ws proof) all h =
      let parts = three_parts (is_new_label s label) (is_expression s ws) (is_lawful_proof s ws proof) h in
      one_more s.labels label all (new_label s label parts.0)
  labels_stay s (block ss) all h = all_labels_stay (enter s) ss all h

  pub all_labels_stay : (s : Scope) (ss : Statements) → HasLabels s → are_lawful s ss ≡ true → HasLabels (behind_all s ss)
  all_labels_stay s none all h = all
  all_labels_stay s (some x xs) all h =
      let both = and_parts (is_lawful s x) (are_lawful (behind s x) xs) h in
      all_labels_stay (behind s x) xs (labels_stay s x all both.0) both.1
