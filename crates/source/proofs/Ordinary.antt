-- The words of lawful statements are ordinary: none opens or closes a comment or includes a file.
use Rattle.std.proofs.Common.{◌≡◌, true, List, [], ◌∷◌, ◌++◌, refl, sym, ◌∙◌}
use Rattle.std.specs.Prelude.{All, codes, nat_le, length}
use Rattle.std.specs.List.{list_all}
use Rattle.std.proofs.lemmas.Bool.{and_parts}
use Rattle.std.proofs.lemmas.List.Elements.{All-nil, All-cons, All-append}
use Rattle.mmtext.specs.Words.{Word}
use Rattle.mmtext.specs.Text.{mark_of}
use Rattle.mmtext.proofs.Marks.{label_plain}
use Rattle.walks.proofs.Walks.{IsOrdinary, plain_is_ordinary}
use Rattle.source.specs.Statements.{Proof, normal, compressed, Statement, constants, variables, float, hypothesis, distinct, asserted}
use Rattle.source.specs.Statements.{proved}
use Rattle.source.specs.Statements.{block, Statements, none, some, proof_spelling, spelling, spellings}
use Rattle.source.specs.Scopes.{Scope, enter, behind}
use Rattle.source.specs.Tests.{passes, type_tests, float_tests, distinct_tests, symbol_tests, step_tests, cited_tests, letter_tests}
use Rattle.source.specs.Tests.{all_pass, is_new_label, is_expression, has_lawful_words, is_whole, is_lawful_proof, each_declared}
use Rattle.source.specs.Tests.{a_constant}
use Rattle.source.specs.Tests.{a_variable, constant_tests, variable_tests, is_lawful, are_lawful}
use Rattle.source.proofs.Passing.{three_parts, constant_plain, variable_plain, type_plain, float_plain, distinct_plain, symbol_plain}
use Rattle.source.proofs.Passing.{step_plain, cited_plain, letter_plain}
use Rattle.source.proofs.InOrder.{constants_at, constant_tests_at, variables_at, variable_tests_at, constants_pass, variables_pass}
use Rattle.source.proofs.InOrder.{each_alone}
use Rattle.source.proofs.InOrder.{all_ordinary}
use Rattle.source.proofs.Labels.{new_label}

-- ---- keywords

-- words between two ordinary ones
between : (first last : Word) (ws : List Word) → IsOrdinary first → IsOrdinary last → All IsOrdinary ws
    → All IsOrdinary (first ∷ (ws ++ last ∷ []))
between first last ws f l all =
    All-cons IsOrdinary first (ws ++ last ∷ []) f
    (All-append IsOrdinary ws (last ∷ []) all (All-cons IsOrdinary last [] l (All-nil IsOrdinary)))

-- $c, $v, $d, $e, $a and $p with their $.
ended : (first : Word) (ws : List Word) → IsOrdinary first → All IsOrdinary ws → All IsOrdinary (first ∷ (ws ++ codes "$." ∷ []))
unfolding mark_of
ended first ws f all = between first (codes "$.") ws f refl all

-- the keywords of statements, by their letters
keywords : record {
  c : IsOrdinary (codes "$c");
  v : IsOrdinary (codes "$v");
  f : IsOrdinary (codes "$f");
  e : IsOrdinary (codes "$e");
  d : IsOrdinary (codes "$d");
  a : IsOrdinary (codes "$a");
  p : IsOrdinary (codes "$p");
  proof : IsOrdinary (codes "$=");
}
unfolding mark_of
keywords = record { c = refl; v = refl; f = refl; e = refl; d = refl; a = refl; p = refl; proof = refl }

-- ---- words of statements

label_ordinary : (s : Scope) (label : Word) → is_new_label s label ≡ true → IsOrdinary label
label_ordinary s label h = plain_is_ordinary label (label_plain label (new_label s label h))

expression_ordinary : (s : Scope) (ws : List Word) → is_expression s ws ≡ true → All IsOrdinary ws
expression_ordinary s ws h =
    all_ordinary (symbol_tests s) (symbol_plain s) [] ws (and_parts (nat_le 1 (length ws)) (all_pass (symbol_tests s) [] ws) h).1

words_ordinary : (s : Scope) (e : List Word) (proof : Proof) → has_lawful_words s e proof ≡ true → All IsOrdinary (proof_spelling proof)
unfolding mark_of
words_ordinary s e (normal steps) h =
    all_ordinary (step_tests s) (step_plain s) [] steps (and_parts (nat_le 1 (length steps)) (all_pass (step_tests s) [] steps) h).1
words_ordinary s e (compressed labels letters) h =
    let parts = three_parts (list_all (λ w. passes (cited_tests s e w)) labels) (nat_le 1 (length letters))
    (all_pass (letter_tests s e labels) [] letters) h in
    let behind_open = All-append IsOrdinary labels (codes ")" ∷ letters)
    (all_ordinary (λ earlier w. cited_tests s e w) (λ earlier w p. cited_plain s e w p) [] labels
    (sym (each_alone (cited_tests s e) [] labels) ∙ parts.0))
    (All-cons IsOrdinary (codes ")") letters refl
    (all_ordinary (letter_tests s e labels) (letter_plain s e labels) [] letters parts.2)) in
    All-cons IsOrdinary (codes "(") (labels ++ codes ")" ∷ letters) refl behind_open

proof_ordinary : (s : Scope) (e : List Word) (proof : Proof) → is_lawful_proof s e proof ≡ true
    → All IsOrdinary (codes "$=" ∷ (proof_spelling proof ++ codes "$." ∷ []))
proof_ordinary s e proof h =
    ended (codes "$=") (proof_spelling proof) keywords.proof
    (words_ordinary s e proof (and_parts (has_lawful_words s e proof) (is_whole s e proof) h).0)

mutual
  unfolding mark_of

  pub statement_ordinary : (s : Scope) (x : Statement) → is_lawful s x ≡ true → All IsOrdinary (spelling x)
  statement_ordinary s (constants ws) h =
      let parts = three_parts s.outermost (nat_le 1 (length ws)) (each_declared a_constant constant_tests s ws) h in
      ended (codes "$c") ws keywords.c
      (all_ordinary (constant_tests_at s) (λ front w. constant_plain (constants_at s front) w) [] ws (sym (constants_pass s ws) ∙ parts.2))
  statement_ordinary s (variables ws) h =
      let parts = and_parts (nat_le 1 (length ws)) (each_declared a_variable variable_tests s ws) h in
      ended (codes "$v") ws keywords.v
      (all_ordinary (variable_tests_at s) (λ front w. variable_plain (variables_at s front) w) [] ws (sym (variables_pass s ws) ∙ parts.1))
  statement_ordinary s (float label c v) h =
      let parts = three_parts (is_new_label s label) (passes (type_tests s c)) (passes (float_tests s v)) h in
      let last = All-cons IsOrdinary (codes "$.") [] refl (All-nil IsOrdinary) in
      All-cons IsOrdinary label (codes "$f" ∷ c ∷ v ∷ codes "$." ∷ []) (label_ordinary s label parts.0)
      (All-cons IsOrdinary (codes "$f") (c ∷ v ∷ codes "$." ∷ []) keywords.f
      (All-cons IsOrdinary c (v ∷ codes "$." ∷ []) (plain_is_ordinary c (type_plain s c parts.1))
      (All-cons IsOrdinary v (codes "$." ∷ []) (plain_is_ordinary v (float_plain s v parts.2)) last)))
  statement_ordinary s (hypothesis label ws) h =
      let parts = and_parts (is_new_label s label) (is_expression s ws) h in
      All-cons IsOrdinary label (codes "$e" ∷ (ws ++ codes "$." ∷ [])) (label_ordinary s label parts.0)
      (ended (codes "$e") ws keywords.e (expression_ordinary s ws parts.1))
  statement_ordinary s (distinct vs) h =
      let parts = and_parts (nat_le 2 (length vs)) (all_pass (distinct_tests s) [] vs) h in
      ended (codes "$d") vs keywords.d (all_ordinary (distinct_tests s) (distinct_plain s) [] vs parts.1)
  statement_ordinary s (asserted label ws) h =
      let parts = and_parts (is_new_label s label) (is_expression s ws) h in
      All-cons IsOrdinary label (codes "$a" ∷ (ws ++ codes "$." ∷ [])) (label_ordinary s label parts.0)
      (ended (codes "$a") ws keywords.a (expression_ordinary s ws parts.1))
  statement_ordinary s (proved label ws proof) h =
      let parts = three_parts (is_new_label s label) (is_expression s ws) (is_lawful_proof s ws proof) h in
      let behind_words = codes "$=" ∷ (proof_spelling proof ++ codes "$." ∷ []) in
      All-cons IsOrdinary label (codes "$p" ∷ (ws ++ behind_words)) (label_ordinary s label parts.0)
      (All-cons IsOrdinary (codes "$p") (ws ++ behind_words) keywords.p
      (All-append IsOrdinary ws behind_words (expression_ordinary s ws parts.1) (proof_ordinary s ws proof parts.2)))
  statement_ordinary s (block ss) h = between (codes "${") (codes "$}") (spellings ss) refl refl (statements_ordinary (enter s) ss h)

  pub statements_ordinary : (s : Scope) (ss : Statements) → are_lawful s ss ≡ true → All IsOrdinary (spellings ss)
  statements_ordinary s none h = All-nil IsOrdinary
  statements_ordinary s (some x xs) h =
      let both = and_parts (is_lawful s x) (are_lawful (behind s x) xs) h in
      All-append IsOrdinary (spelling x) (spellings xs) (statement_ordinary s x both.0) (statements_ordinary (behind s x) xs both.1)
