-- What is so of a proof that denotes a tree, and of the steps of a finished one.
use Rattle.std.proofs.Common.{◌≡◌, ℕ, zero, suc, Bool, true, false, List, [], ◌∷◌, ◌++◌, map, refl, sym, ap, subst, ◌∙◌, inl, inr}
use Rattle.std.specs.Prelude.{Option, Some, None, ◌&&◌, ◌||◌, ◌==◌, ◌⊎◌, is_some, if◌then◌else◌}
use Rattle.std.specs.Option.{option_map, option_and_then}
use Rattle.std.specs.List.{list_any, flat_map}
use Rattle.std.proofs.lemmas.Bool.{cases_Bool, and_parts, and_left, or_parts, cond-true, cond-false}
use Rattle.std.proofs.lemmas.Option.{same_Some}
use Rattle.std.proofs.lemmas.List.Folds.{list_any-append}
use Rattle.mmtext.specs.Words.{Word}
use Rattle.source.specs.declared.letters.Code.{Code}
use Rattle.source.specs.declared.letters.Code.TheVariants.{Number, Mark, Unknown}
use Rattle.source.specs.declared.letters.Turn.{Turn}
use Rattle.source.specs.Statements.{Proof, normal, compressed}
use Rattle.source.specs.Scopes.{Hypothesis, label_of, Assertion, is_unknown}
use Rattle.source.specs.Letters.{is_last, is_front, is_too_large, turn_at, Decoded, before, turned, decoded, uncut, codes_of, is_absent}
use Rattle.source.specs.Proofs.{Step, names, unknown, step_of_word, numbered, step_of, steps_of, is_unfinished}
use Rattle.source.specs.Proofs.{there, made, are_marks_placed, leave_one, leaves_one}

-- ---- a proof that denotes a tree

left_there : (earlier : List Assertion) (active : List Hypothesis) (o : Option (List Step)) → leave_one earlier active o ≡ true
    → is_some (option_and_then (made there earlier active) o) ≡ true
left_there earlier active None h = absurd cc
left_there earlier active (Some steps) h =
    (and_parts (are_marks_placed active steps) (is_some (made there earlier active steps)) h).1

-- its steps make one
pub made_there : (earlier : List Assertion) (active hypotheses : List Hypothesis) (proof : Proof)
    → leaves_one earlier active hypotheses proof ≡ true
    → is_some (option_and_then (made there earlier active) (steps_of hypotheses proof)) ≡ true
made_there earlier active hypotheses proof h = left_there earlier active (steps_of hypotheses proof) h

-- ---- steps that aren't there

abbrev pub is_absent_step : Step → Bool
is_absent_step unknown = true
is_absent_step _ = false

number_there : (ws : List Word) (n : ℕ) → is_absent_step (numbered ws n) ≡ false
number_there [] n = refl
number_there (w ∷ ws) zero = refl
number_there (w ∷ ws) (suc n) = number_there ws n

-- the steps of codes
pub absent_codes : (labels : List Word) (codes : List Code)
    → list_any is_absent_step (map (step_of labels) codes) ≡ list_any is_absent codes
absent_codes labels [] = refl
absent_codes labels (Number n ∷ codes) =
    ap (λ b. b || list_any is_absent_step (map (step_of labels) codes)) (number_there labels _) ∙ absent_codes labels codes
absent_codes labels (Mark ∷ codes) = absent_codes labels codes
absent_codes labels (Unknown ∷ codes) = refl

-- the steps of words
absent_words : (ws : List Word) → list_any is_absent_step (map step_of_word ws) ≡ list_any is_unknown ws
absent_words [] = refl
absent_words (w ∷ ws) =
    ap (λ b. b || list_any is_absent_step (map step_of_word ws)) (absent_word (cases_Bool (is_unknown w)))
    ∙ ap (λ b. is_unknown w || b) (absent_words ws)
  where
    absent_word : (is_unknown w ≡ true) ⊎ (is_unknown w ≡ false) → is_absent_step (step_of_word w) ≡ is_unknown w
    absent_word (inl is) = ap is_absent_step (cond-true (is_unknown w) unknown (names w) is) ∙ sym is
    absent_word (inr is) = ap is_absent_step (cond-false (is_unknown w) unknown (names w) is) ∙ sym is

-- ---- letters without a ?

abbrev TurnIsThere : Option Turn → Type 0
TurnIsThere None = Unit {0}
TurnIsThere (Some t) = (t.said ≡ Some Unknown) → ⊥

if_both : {A : Type 0} (P : A → Type 0) (b : Bool) (x y : A) → P x → P y → P (if b then x else y)
if_both P true x y a b = a
if_both P false x y a b = b

-- no other letter says that a step isn't there
turn_there : (front b : ℕ) → (b == 63) ≡ false → TurnIsThere (turn_at front b)
turn_there front b other =
    if_both TurnIsThere (is_too_large front) _ _ tt
    (if_both TurnIsThere (is_last b) _ _ (λ e. absurd cc)
    (if_both TurnIsThere (is_front b) _ _ (λ e. absurd cc)
    (if_both TurnIsThere ((b == 90) && (front == 0)) _ _ (λ e. absurd cc)
    (subst TurnIsThere (sym (cond-false ((b == 63) && (front == 0)) _ None (and_left (b == 63) (front == 0) other))) tt))))

all_there : Option Decoded → Type 0
all_there None = Unit {0}
all_there (Some d) = list_any is_absent d.codes ≡ false

before_there : (c : Option Code) (rest : Option Decoded) → (c ≡ Some Unknown → ⊥) → all_there rest → all_there (before c rest)
unfolding all_there
before_there None rest n h = h
before_there (Some c) None n h = tt
before_there (Some (Number k)) (Some d) n h = h
before_there (Some Mark) (Some d) n h = h
before_there (Some Unknown) (Some d) n h = absurd (n refl)

turned_there : (t : Option Turn) (rest : ℕ → Option Decoded) → TurnIsThere t → ((f : ℕ) → all_there (rest f)) → all_there (turned t rest)
unfolding all_there
turned_there None rest n h = tt
turned_there (Some t) rest n h = before_there t.said (rest t.front) n (h t.front)

letters_there : (letters : List ℕ) (front : ℕ) → list_any (λ b. b == 63) letters ≡ false → all_there (decoded front letters)
unfolding all_there decoded
letters_there [] front none = refl
letters_there (b ∷ bs) front none =
    let parts = or_parts (b == 63) (list_any (λ b. b == 63) bs) none in
    turned_there (turn_at front b) (λ f. decoded f bs) (turn_there front b parts.0) (λ f. letters_there bs f parts.1)

uncut_there : (d : Option Decoded) (codes : List Code) → all_there d → uncut d ≡ Some codes → list_any is_absent codes ≡ false
unfolding all_there
uncut_there None codes h e = absurd cc
uncut_there (Some d) codes h e = elim (cases_Bool (d.front == 0)) [
  | inl whole ↦
      let same : Some d.codes ≡ Some codes = sym (cond-true (d.front == 0) (Some d.codes) None whole) ∙ e in
      ap (list_any is_absent) (sym (same_Some d.codes codes same)) ∙ h
  | inr cut ↦ let none : None ≡ Some codes = sym (cond-false (d.front == 0) (Some d.codes) None cut) ∙ e in absurd cc
]

any_flat : (q : ℕ → Bool) (ls : List Word) → list_any (list_any q) ls ≡ list_any q (flat_map (λ l. l) ls)
any_flat q [] = refl
any_flat q (l ∷ ls) = ap (λ b. list_any q l || b) (any_flat q ls) ∙ sym (list_any-append q l (flat_map (λ l. l) ls))

-- ---- a finished proof

coded_there : (labels : List Word) (codes : Option (List Code)) (steps : List Step)
    → ((cs : List Code) → codes ≡ Some cs → list_any is_absent cs ≡ false)
    → option_map (map (step_of labels)) codes ≡ Some steps → list_any is_absent_step steps ≡ false
coded_there labels None steps h e = absurd cc
coded_there labels (Some cs) steps h e =
    ap (list_any is_absent_step) (sym (same_Some (map (step_of labels) cs) steps e)) ∙ absent_codes labels cs ∙ h cs refl

-- all its steps are there
pub finished_steps : (hypotheses : List Hypothesis) (proof : Proof) (steps : List Step) → is_unfinished proof ≡ false
    → steps_of hypotheses proof ≡ Some steps → list_any is_absent_step steps ≡ false
finished_steps hypotheses (normal ws) steps none e =
    ap (list_any is_absent_step) (sym (same_Some (map step_of_word ws) steps e)) ∙ absent_words ws ∙ none
finished_steps hypotheses (compressed labels letters) steps none e =
    coded_there (map label_of hypotheses ++ labels) (codes_of (flat_map (λ l. l) letters)) steps
    (λ cs is. uncut_there (decoded 0 (flat_map (λ l. l) letters)) cs
    (letters_there (flat_map (λ l. l) letters) 0 (sym (any_flat (λ b. b == 63) letters) ∙ none)) is) e
