-- What is counted of whole words: of letters, and of a proof at its end.
use Rattle.std.proofs.Common.{◌≡◌, ℕ, suc, ◌+◌, ◌<◌, ◌≤◌, Bool, true, false, List, [], ◌∷◌, ◌++◌, length, get_or, take}
use Rattle.std.proofs.Common.{drop, replicate, map, refl, sym, ap, subst}
use Rattle.std.proofs.Common.{◌∙◌, inl, inr, arith, append_assoc, ne_eqb}
use Rattle.std.specs.Prelude.{Option, Some, None, find, ◌||◌, ◌&&◌, ◌==◌, ◌⊎◌, is_some, if◌then◌else◌}
use Rattle.std.specs.Option.{option_map}
use Rattle.std.specs.List.{list_any, list_all, flat_map, All}
use Rattle.std.specs.Str.{bytes_eq}
use Rattle.std.proofs.lemmas.Bool.{cases_Bool, and_cases, and_parts, and_left, and_right, cond-true, cond-false}
use Rattle.std.proofs.lemmas.List.{map-append, append-nil, take_all, take-append-drop, take_more, drop_more}
use Rattle.std.proofs.lemmas.Option.{some_pair_parts}
use Rattle.std.proofs.lemmas.List.Elements.{All-filter}
use Rattle.std.proofs.lemmas.List.Folds.{list_any_at, list_all_at, list_all_more}
use Rattle.std.proofs.lemmas.Grind.{flat_map-append}
use mathlib.Core.Bool.{not}
use Rattle.mmtext.specs.Words.{Word}
use Rattle.mmtext.specs.declared.fault.FaultKind.TheVariants.{BadToken}
use Rattle.mmsyntax.specs.Rows.{first_fault}
use Rattle.mmsyntax.proofs.Names.{bytes_eq-same}
use Rattle.mmsyntax.proofs.Options.{mapped_some}
use Rattle.source.specs.declared.letters.Code.{Code}
use Rattle.source.specs.declared.entries.Citation.{Citation}
use Rattle.source.specs.declared.entries.Citation.TheVariants as citation
use Rattle.source.specs.declared.entries.Entries.{Entries}
use Rattle.source.specs.Statements.{normal, compressed}
use Rattle.source.specs.Scopes.{Scope, Hypothesis, Assertion, label_of, mandatory, is_mandatory, is_named}
use Rattle.source.specs.Letters.{uncut}
use Rattle.source.specs.Proofs.{Step, Stack, step_of_word, step_of, taken_by, empty, run_steps, there, only, single, made, leave_one}
use Rattle.source.specs.Proofs.{leaves_one, letters_go_on}
use Rattle.source.specs.Tests.{letter_tests, is_letter, numbered_labels}
use Rattle.source.specs.Counts.{counts, citation_of, StepsAreCounted, LabelsAreCounted, LettersAreCounted, CountsLetters, HaveCitations}
use Rattle.source.specs.Counts.{CountNumbers}
use Rattle.source.proofs.CountedLetters.{letters_go, letters_stuck}

-- ---- what numbers count

-- a hypothesis that is active takes nothing
abbrev IsActive : List Hypothesis → Hypothesis → Type 0
IsActive active h = list_any (λ x. bytes_eq (label_of h) (label_of x)) active ≡ true

all_active : (active : List Hypothesis) → All (IsActive active) active
all_active active =
    λ k d lt. list_any_at (λ x. bytes_eq (label_of (get_or active k d)) (label_of x)) active k d lt
    (bytes_eq-same (label_of (get_or active k d)))

all_hypotheses : (earlier : List Assertion) (active hs : List Hypothesis) → All (IsActive active) hs
    → map (citation_of earlier active) (map label_of hs) ≡ map (λ c. Some c) (replicate (length hs) citation.Hypothesis)
all_hypotheses earlier active [] all = refl
all_hypotheses earlier active (h ∷ hs) all =
    let here : citation_of earlier active (label_of h) ≡ Some citation.Hypothesis =
    cond-true (list_any (λ x. bytes_eq (label_of h) (label_of x)) active) (Some citation.Hypothesis) _ (all 0 h (omega arith)) in
    ap (λ z. z ∷ map (citation_of earlier active) (map label_of hs)) here
    ∙ ap (λ z. Some citation.Hypothesis ∷ z) (all_hypotheses earlier active hs (λ k d lt. all (suc k) d (omega arith)))

-- numbers count the mandatory hypotheses, then labels
pub numbers_counted : (s : Scope) (e labels : List Word) (hypotheses : ℕ) (citations : List Citation)
    → hypotheses ≡ length (mandatory s.hypotheses e)
    → HaveCitations s.assertions s.hypotheses labels citations
    → CountNumbers s.assertions s.hypotheses (numbered_labels s e labels) hypotheses citations
numbers_counted s e labels hypotheses citations is have =
    let names = citation_of s.assertions s.hypotheses in
    let hs = mandatory s.hypotheses e in
    map-append names (map label_of hs) labels
    ∙ ap (λ z. z ++ map names labels) (all_hypotheses s.assertions s.hypotheses hs
    (All-filter (is_mandatory s.hypotheses e) (IsActive s.hypotheses) s.hypotheses (all_active s.hypotheses)))
    ∙ ap (λ z. map (λ c. Some c) (replicate (length hs) citation.Hypothesis) ++ z) have
    ∙ sym (map-append (λ (c : Citation). Some c) (replicate (length hs) citation.Hypothesis) citations)
    ∙ ap (λ n. map (λ (c : Citation). Some c) (replicate n citation.Hypothesis ++ citations)) (sym is)

-- one more label
pub one_citation : (earlier : List Assertion) (active : List Hypothesis) (ws : List Word) (w : Word) (citations : List Citation)
    (c : Citation)
    → HaveCitations earlier active ws citations → citation_of earlier active w ≡ Some c
    → HaveCitations earlier active (ws ++ w ∷ []) (citations ++ c ∷ [])
one_citation earlier active ws w citations c have is =
    map-append (citation_of earlier active) ws (w ∷ [])
    ∙ ap (λ z. z ++ citation_of earlier active w ∷ []) have
    ∙ ap (λ z. map (λ (c : Citation). Some c) citations ++ z ∷ []) is
    ∙ sym (map-append (λ (c : Citation). Some c) citations (c ∷ []))

found_some : {A : Type 0} (p : A → Bool) (xs : List A) → list_any p xs ≡ true → is_some (find p xs) ≡ true
found_some p [] h = absurd cc
found_some p (x ∷ xs) h =
    elim (cases_Bool (p x)) [
      | inl here ↦ ap is_some (cond-true (p x) (Some x) (find p xs) here)
      | inr other ↦ ap is_some (cond-false (p x) (Some x) (find p xs) other)
          ∙ found_some p xs (ap (λ b. b || list_any p xs) (sym other) ∙ h)
    ]

-- a label that names something is cited
pub named_cites : (s : Scope) (w : Word) → is_named s w ≡ true → is_some (citation_of s.assertions s.hypotheses w) ≡ true
named_cites s w named =
    let active = list_any (λ h. bytes_eq w (label_of h)) s.hypotheses in
    let first = find (λ (a : Assertion). bytes_eq w a.label) s.assertions in
    let rest = option_map (λ (a : Assertion). citation.Assertion (length a.hypotheses)) first in
    elim (cases_Bool active) [
      | inl is ↦ ap is_some (cond-true active (Some citation.Hypothesis) rest is)
      | inr other ↦
          ap is_some (cond-false active (Some citation.Hypothesis) rest other)
          ∙ mapped_some (λ (a : Assertion). citation.Assertion (length a.hypotheses)) first
          ∙ found_some (λ (a : Assertion). bytes_eq w a.label) s.assertions
          (ap (λ b. b || list_any (λ (a : Assertion). bytes_eq w a.label) s.assertions) (sym other) ∙ named)
    ]

-- and so something is taken
pub named_takes : (s : Scope) (w : Word) → is_named s w ≡ true → is_some (taken_by s.assertions s.hypotheses w) ≡ true
named_takes s w named =
    let active = list_any (λ h. bytes_eq w (label_of h)) s.hypotheses in
    let first = find (λ (a : Assertion). bytes_eq w a.label) s.assertions in
    elim (cases_Bool active) [
      | inl is ↦ ap is_some (cond-true active (Some []) _ is)
      | inr other ↦
          ap is_some (cond-false active (Some []) _ other)
          ∙ mapped_some (λ (a : Assertion). a.hypotheses) first
          ∙ found_some (λ (a : Assertion). bytes_eq w a.label) s.assertions
          (ap (λ b. b || list_any (λ (a : Assertion). bytes_eq w a.label) s.assertions) (sym other) ∙ named)
    ]

-- ---- a word of letters

pub one_word : (ls : List Word) (w : Word) → flat_map (λ l. l) (ls ++ w ∷ []) ≡ flat_map (λ l. l) ls ++ w
one_word ls w = flat_map-append (λ l. l) ls (w ∷ []) ∙ ap (λ z. flat_map (λ l. l) ls ++ z) (append-nil w)

-- the tests of a word of letters, by what they find
tests_find : (a b : Bool) → first_fault ((not a, BadToken) ∷ (not b, BadToken) ∷ []) ≡ (if a && b then None else Some BadToken)
tests_find true true = refl
tests_find true false = refl
tests_find false b = refl

-- one more byte
pub one_byte : (earlier : List Assertion) (active : List Hypothesis) (labels : List Word) (letters : List ℕ) (w : Word) (i : ℕ)
    (c : Entries)
    → i < length w → list_all is_letter (take i w) ≡ true
    → (is_letter (get_or w i 0) && letters_go_on earlier active labels ((letters ++ take i w) ++ get_or w i 0 ∷ [])) ≡ true
    → LettersAreCounted earlier active labels ((letters ++ take i w) ++ get_or w i 0 ∷ []) c
    → LettersAreCounted earlier active labels (letters ++ take (i + 1) w) c × (list_all is_letter (take (i + 1) w) ≡ true)
one_byte earlier active labels letters w i c lt all goes counted = (
  subst (λ z. LettersAreCounted earlier active labels z c)
      (append_assoc letters (take i w) (get_or w i 0 ∷ []) ∙ ap (λ z. letters ++ z) (sym (take_more w i 0 lt))) counted,
  list_all_more is_letter w i 0 lt ∙ ap (λ b. b && is_letter (get_or w i 0)) all
      ∙ (and_parts (is_letter (get_or w i 0)) (letters_go_on earlier active labels ((letters ++ take i w) ++ get_or w i 0 ∷ [])) goes).0,
)

-- no byte fails
pub word_goes : (s : Scope) (e labels ls : List Word) (w : Word) (n : ℕ) (c : Entries) → length w ≤ n
    → LettersAreCounted s.assertions s.hypotheses (numbered_labels s e labels) (flat_map (λ l. l) ls ++ take n w) c
    → list_all is_letter (take n w) ≡ true
    → (first_fault (letter_tests s e labels ls w) ≡ None) × CountsLetters s e labels (ls ++ w ∷ []) c
word_goes s e labels ls w n c le counted letters = (
  tests_find (list_all is_letter w) (goes (flat_map (λ l. l) (ls ++ w ∷ [])))
      ∙ ap (λ b. if b && goes (flat_map (λ l. l) (ls ++ w ∷ [])) then None else Some BadToken)
      (ap (list_all is_letter) (sym (take_all n w le)) ∙ letters)
      ∙ ap (λ b. if b then None else Some BadToken) (sym (letters_go s.assertions s.hypotheses (numbered_labels s e labels)
      (flat_map (λ l. l) (ls ++ w ∷ [])) c here)),
  here,
)
  where
    goes : List ℕ → Bool
    goes letters = letters_go_on s.assertions s.hypotheses (numbered_labels s e labels) letters

    here : CountsLetters s e labels (ls ++ w ∷ []) c
    here =
        subst (λ z. LettersAreCounted s.assertions s.hypotheses (numbered_labels s e labels) z c)
        (ap (λ z. flat_map (λ l. l) ls ++ z) (take_all n w le) ∙ sym (one_word ls w)) counted

-- a byte fails
pub word_fails : (s : Scope) (e labels ls : List Word) (w : Word) (i : ℕ) → i < length w
    → false ≡ (is_letter (get_or w i 0) && letters_go_on s.assertions s.hypotheses (numbered_labels s e labels)
    ((flat_map (λ l. l) ls ++ take i w) ++ get_or w i 0 ∷ []))
    → first_fault (letter_tests s e labels ls w) ≡ Some BadToken
word_fails s e labels ls w i lt fails =
    tests_find (list_all is_letter w) (goes (flat_map (λ l. l) (ls ++ w ∷ [])))
    ∙ ap (λ b. if b then None else Some BadToken) both
  where
    goes : List ℕ → Bool
    goes letters = letters_go_on s.assertions s.hypotheses (numbered_labels s e labels) letters

    before : List ℕ
    before = flat_map (λ l. l) ls

    whole : flat_map (λ l. l) (ls ++ w ∷ []) ≡ ((before ++ take i w) ++ get_or w i 0 ∷ []) ++ drop (i + 1) w
    whole =
        one_word ls w ∙ ap (λ z. before ++ z) (sym (take-append-drop i w) ∙ ap (λ z. take i w ++ z) (drop_more w i 0 lt))
        ∙ sym (append_assoc before (take i w) (get_or w i 0 ∷ drop (i + 1) w))
        ∙ sym (append_assoc (before ++ take i w) (get_or w i 0 ∷ []) (drop (i + 1) w))

    both : (list_all is_letter w && goes (flat_map (λ l. l) (ls ++ w ∷ []))) ≡ false
    both = elim (and_cases (is_letter (get_or w i 0)) (goes ((before ++ take i w) ++ get_or w i 0 ∷ [])) (sym fails)) [
      | inl other ↦ and_left (list_all is_letter w) (goes (flat_map (λ l. l) (ls ++ w ∷ []))) (list_all_at is_letter w i 0 lt other)
      | inr stuck ↦
          and_right (list_all is_letter w) (goes (flat_map (λ l. l) (ls ++ w ∷ [])))
          (ap goes whole ∙ letters_stuck s.assertions s.hypotheses (numbered_labels s e labels) ((before ++ take i w) ++ get_or w i 0 ∷ [])
          (drop (i + 1) w) stuck)
    ]

-- ---- the end of a proof

only_one : (xs : List (Unit {0})) → is_some (only xs) ≡ (length xs == 1)
only_one [] = refl
only_one (x ∷ []) = refl
only_one (x ∷ y ∷ xs) = sym (ne_eqb (suc (suc (length xs))) 1 (λ e. omega arith))

one_left : (s : Option (Stack (Unit {0}))) (n m : ℕ) → counts s ≡ Some (n, m) → is_some (single s) ≡ (n == 1)
one_left None n m e = absurd cc
one_left (Some s) n m e = only_one s.entries ∙ ap (λ k. k == 1) (some_pair_parts _ _ _ _ e).0

-- a proof is whole where one entry is left and no number is cut
abbrev pub is_ended : Entries → Bool
is_ended c = (c.entries == 1) && (c.front == 0)

pub one_ended : (c : Entries) → c.entries ≡ 1 → (c.front == 0) ≡ is_ended c
one_ended c one = ap (λ n. (n == 1) && (c.front == 0)) (sym one)

pub other_ended : (c : Entries) → (c.entries ≡ 1 → ⊥) → (c.entries == 1) ≡ is_ended c
other_ended c other =
    ne_eqb c.entries 1 other ∙ ap (λ b. b && (c.front == 0)) (sym (ne_eqb c.entries 1 other))

beside_true : (a b : Bool) → b ≡ true → a ≡ (a && b)
beside_true true b e = sym e
beside_true false b e = refl

steps_ended : (earlier : List Assertion) (active : List Hypothesis) (steps : List Step) (c : Entries)
    → StepsAreCounted earlier active steps c → leave_one earlier active (Some steps) ≡ (c.entries == 1)
steps_ended earlier active steps c counted =
    ap (λ b. b && is_some (made there earlier active steps)) counted.placed
    ∙ one_left (run_steps there earlier active (Some empty) steps) c.entries c.marked counted.left

pub labels_ended : (earlier : List Assertion) (active hypotheses : List Hypothesis) (ws : List Word) (c : Entries)
    → LabelsAreCounted earlier active ws c → leaves_one earlier active hypotheses (normal ws) ≡ is_ended c
labels_ended earlier active hypotheses ws c counted =
    steps_ended earlier active (map step_of_word ws) c counted.steps
    ∙ beside_true (c.entries == 1) (c.front == 0) (ap (λ n. n == 0) counted.front)

pub letters_ended : (earlier : List Assertion) (active hypotheses : List Hypothesis) (labels ls : List Word) (c : Entries)
    → LettersAreCounted earlier active (map label_of hypotheses ++ labels) (flat_map (λ l. l) ls) c
    → leaves_one earlier active hypotheses (compressed labels ls) ≡ is_ended c
letters_ended earlier active hypotheses labels ls c counted =
    ap (λ d. leaves (uncut d)) counted.said ∙ uncut_leaves (cases_Bool (c.front == 0))
  where
    leaves : Option (List Code) → Bool
    leaves codes = leave_one earlier active (option_map (map (step_of (map label_of hypotheses ++ labels))) codes)

    uncut_leaves : ((c.front == 0) ≡ true) ⊎ ((c.front == 0) ≡ false)
        → leaves (uncut (Some (record { codes = counted.codes; front = c.front }))) ≡ is_ended c
    uncut_leaves (inl whole) =
        ap leaves (cond-true (c.front == 0) (Some counted.codes) None whole)
        ∙ steps_ended earlier active (map (step_of (map label_of hypotheses ++ labels)) counted.codes) c counted.steps
        ∙ beside_true (c.entries == 1) (c.front == 0) whole
    uncut_leaves (inr cut) =
        ap leaves (cond-false (c.front == 0) (Some counted.codes) None cut) ∙ sym (and_right (c.entries == 1) (c.front == 0) cut)
