-- The words of lawful statements lead from before them to behind them.
use Rattle.std.proofs.Common.{◌≡◌, true, false, List, [], ◌∷◌, ◌++◌, length, Ok, sym, ap, ◌∙◌}
use Rattle.std.specs.Prelude.{codes, nat_le}
use Rattle.std.specs.List.{list_all}
use Rattle.std.proofs.lemmas.Bool.{and_parts}
use Rattle.mmtext.specs.Words.{Word, is_label}
use Rattle.source.specs.Statements.{Proof, normal, compressed, Statement, constants, variables, float, hypothesis, distinct, asserted}
use Rattle.source.specs.Statements.{proved}
use Rattle.source.specs.Statements.{block, Statements, none, some, proof_spelling, spelling, spellings}
use Rattle.source.specs.Scopes.{Scope, enter, leave, behind, behind_all}
use Rattle.source.specs.Tests.{passes, label_tests, constant_tests, variable_tests, type_tests, float_tests, distinct_tests, symbol_tests}
use Rattle.source.specs.Tests.{step_tests, cited_tests, letter_tests, all_pass, is_new_label, is_expression, has_lawful_words, is_whole}
use Rattle.source.specs.Tests.{is_lawful_proof, each_declared, a_constant, a_variable, is_lawful, are_lawful}
use Rattle.source.specs.Faults.{Place, after_label, in_constants, in_variables, in_distinct, float_type, float_variable, float_end}
use Rattle.source.specs.Faults.{in_hypothesis, in_axiom, in_theorem, in_steps, in_labels, in_letters, Position}
use Rattle.source.proofs.Passing.{three_parts}
use Rattle.source.proofs.InOrder.{constant_tests_at, variable_tests_at, no_constants, no_variables, constants_pass, variables_pass}
use Rattle.source.proofs.InOrder.{each_alone}
use Rattle.source.proofs.Labels.{HasLabels, labels_stay}
use Rattle.source.proofs.Leading.{there, home, Leads, no_word, word_leads, one_word, two_words, words_lead, each_leads}
use Rattle.source.proofs.LeadingRows.{constant_place, constant_leads, constants_begin, constants_end, variable_place, variable_leads}
use Rattle.source.proofs.LeadingRows.{variables_begin, variables_end, distinct_begin, distinct_leads, distinct_end, ReadsSymbols}
use Rattle.source.proofs.LeadingRows.{hypothesis_symbols, axiom_symbols, theorem_symbols, symbol_leads, hypothesis_end, axiom_end}
use Rattle.source.proofs.LeadingRows.{theorem_end}
use Rattle.source.proofs.LeadingRows.{step_leads, steps_end, labels_begin, cited_leads, labels_end, letters_lead, letters_end, type_leads}
use Rattle.source.proofs.LeadingRows.{float_variable_leads, float_ends, label_leads, IsKeyword, float_keyword, hypothesis_keyword}
use Rattle.source.proofs.LeadingRows.{axiom_keyword, theorem_keyword, keyword_leads, opens, closes}

-- ---- parts of statements

-- a new label and its keyword, before others
labelled : (keyword : Word) (place : Word → Place) → IsKeyword keyword place → (s : Scope) (around : List Scope) (label : Word)
    (ws : List Word) (r : Position) → is_new_label s label ≡ true → Leads (there s around (place label)) ws r
    → Leads (home s around) (label ∷ keyword ∷ ws) r
labelled keyword place is s around label ws r h next =
    let both = and_parts (is_label label) (passes (label_tests s label)) h in
    two_words (home s around) r (λ t. there s around (after_label t)) (there s around (place label)) label keyword ws
    (λ t e. label_leads s around label t both.0 e) (λ t u e g. keyword_leads keyword place is s around label both.1 t u e g) next

-- the symbols of an expression
expression_leads : (place : List Word → Place) → ReadsSymbols place → (s : Scope) (around : List Scope) (ws : List Word)
    → is_expression s ws ≡ true → Leads (there s around (place [])) ws (there s around (place ws))
expression_leads place reads s around ws h =
    each_leads (λ front. there s around (place front)) (symbol_tests s) (symbol_leads place reads s around) [] ws
    (and_parts (nat_le 1 (length ws)) (all_pass (symbol_tests s) [] ws) h).1

-- and how many
some_symbols : (s : Scope) (ws : List Word) → is_expression s ws ≡ true → nat_le 1 (length ws) ≡ true
some_symbols s ws h = (and_parts (nat_le 1 (length ws)) (all_pass (symbol_tests s) [] ws) h).0

-- a proof and its end
proof_leads : (s : Scope) → HasLabels s → (around : List Scope) (label : Word) (e : List Word) (proof : Proof)
    → is_lawful_proof s e proof ≡ true
    → Leads (there s around (in_steps label e [])) (proof_spelling proof ++ codes "$." ∷ []) (home (behind s (proved label e proof)) around)
proof_leads s labelled around label e (normal ws) h =
    let both = and_parts (has_lawful_words s e (normal ws)) (is_whole s e (normal ws)) h in
    let parts = and_parts (nat_le 1 (length ws)) (all_pass (step_tests s) [] ws) both.0 in
    let p = there s around (in_steps label e []) in
    let q = there s around (in_steps label e ws) in
    let r = home (behind s (proved label e (normal ws))) around in
    words_lead p q r ws (codes "$." ∷ [])
    (each_leads (λ front. there s around (in_steps label e front)) (step_tests s) (step_leads s labelled around label e) [] ws parts.1)
    (one_word q r (codes "$.") (λ t is. steps_end s around label e ws t parts.0 both.1 is))
proof_leads s labelled around label e (compressed ws ls) h =
    let both = and_parts (has_lawful_words s e (compressed ws ls)) (is_whole s e (compressed ws ls)) h in
    let parts = three_parts (list_all (λ w. passes (cited_tests s e w)) ws) (nat_le 1 (length ls)) (all_pass (letter_tests s e ws) [] ls)
    both.0 in
    let p = there s around (in_steps label e []) in
    let m = there s around (in_labels label e []) in
    let n = there s around (in_labels label e ws) in
    let o = there s around (in_letters label e ws []) in
    let q = there s around (in_letters label e ws ls) in
    let r = home (behind s (proved label e (compressed ws ls))) around in
    let whole : Leads p (codes "(" ∷ (ws ++ codes ")" ∷ ls)) q =
    word_leads p m q (codes "(") (ws ++ codes ")" ∷ ls) (λ t is. labels_begin s around label e t is)
    (words_lead m n q ws (codes ")" ∷ ls)
    (each_leads (λ front. there s around (in_labels label e front)) (λ front w. cited_tests s e w)
    (λ front t. cited_leads s labelled around label e front t) [] ws (sym (each_alone (cited_tests s e) [] ws) ∙ parts.0))
    (word_leads n o q (codes ")") ls (λ t is. labels_end s around label e ws t is)
    (each_leads (λ front. there s around (in_letters label e ws front)) (letter_tests s e ws) (letters_lead s around label e ws) [] ls
    parts.2))) in
    words_lead p q r (codes "(" ∷ (ws ++ codes ")" ∷ ls)) (codes "$." ∷ []) whole
    (one_word q r (codes "$.") (λ t is. letters_end s around label e ws ls t parts.1 both.1 is))

-- ---- statements

constants_lead : (s : Scope) (around : List Scope) (ws : List Word) → is_lawful s (constants ws) ≡ true
    → Leads (home s around) (spelling (constants ws)) (home (behind s (constants ws)) around)
constants_lead s around ws h =
    let parts = three_parts s.outermost (nat_le 1 (length ws)) (each_declared a_constant constant_tests s ws) h in
    let p = constant_place s around [] in
    let q = constant_place s around ws in
    let r = home (behind s (constants ws)) around in
    word_leads (home s around) p r (codes "$c") (ws ++ codes "$." ∷ [])
    (λ t is. constants_begin s around t parts.0 is ∙ ap (λ x. Ok (there x around (in_constants false))) (sym (no_constants s)))
    (words_lead p q r ws (codes "$." ∷ [])
    (each_leads (constant_place s around) (constant_tests_at s) (constant_leads s around) [] ws (sym (constants_pass s ws) ∙ parts.2))
    (one_word q r (codes "$.") (λ t is. constants_end s around ws t parts.1 is)))

variables_lead : (s : Scope) (around : List Scope) (ws : List Word) → is_lawful s (variables ws) ≡ true
    → Leads (home s around) (spelling (variables ws)) (home (behind s (variables ws)) around)
variables_lead s around ws h =
    let parts = and_parts (nat_le 1 (length ws)) (each_declared a_variable variable_tests s ws) h in
    let p = variable_place s around [] in
    let q = variable_place s around ws in
    let r = home (behind s (variables ws)) around in
    word_leads (home s around) p r (codes "$v") (ws ++ codes "$." ∷ [])
    (λ t is. variables_begin s around t is ∙ ap (λ x. Ok (there x around (in_variables false))) (sym (no_variables s)))
    (words_lead p q r ws (codes "$." ∷ [])
    (each_leads (variable_place s around) (variable_tests_at s) (variable_leads s around) [] ws (sym (variables_pass s ws) ∙ parts.1))
    (one_word q r (codes "$.") (λ t is. variables_end s around ws t parts.0 is)))

distinct_lead : (s : Scope) (around : List Scope) (vs : List Word) → is_lawful s (distinct vs) ≡ true
    → Leads (home s around) (spelling (distinct vs)) (home (behind s (distinct vs)) around)
distinct_lead s around vs h =
    let parts = and_parts (nat_le 2 (length vs)) (all_pass (distinct_tests s) [] vs) h in
    let p = there s around (in_distinct []) in
    let q = there s around (in_distinct vs) in
    let r = home (behind s (distinct vs)) around in
    word_leads (home s around) p r (codes "$d") (vs ++ codes "$." ∷ []) (λ t is. distinct_begin s around t is)
    (words_lead p q r vs (codes "$." ∷ [])
    (each_leads (λ front. there s around (in_distinct front)) (distinct_tests s) (distinct_leads s around) [] vs parts.1)
    (one_word q r (codes "$.") (λ t is. distinct_end s around vs t parts.0 is)))

float_leads : (s : Scope) (around : List Scope) (label c v : Word) → is_lawful s (float label c v) ≡ true
    → Leads (home s around) (spelling (float label c v)) (home (behind s (float label c v)) around)
float_leads s around label c v h =
    let parts = three_parts (is_new_label s label) (passes (type_tests s c)) (passes (float_tests s v)) h in
    let p = there s around (float_type label) in
    let m = there s around (float_variable label c) in
    let q = there s around (float_end label c v) in
    let r = home (behind s (float label c v)) around in
    labelled (codes "$f") (λ w. float_type w) float_keyword s around label (c ∷ v ∷ codes "$." ∷ []) r parts.0
    (word_leads p m r c (v ∷ codes "$." ∷ []) (λ t is. type_leads s around label c t parts.1 is)
    (word_leads m q r v (codes "$." ∷ []) (λ t is. float_variable_leads s around label c v t parts.2 is)
    (one_word q r (codes "$.") (λ t is. float_ends s around label c v t is))))

hypothesis_leads : (s : Scope) (around : List Scope) (label : Word) (ws : List Word) → is_lawful s (hypothesis label ws) ≡ true
    → Leads (home s around) (spelling (hypothesis label ws)) (home (behind s (hypothesis label ws)) around)
hypothesis_leads s around label ws h =
    let parts = and_parts (is_new_label s label) (is_expression s ws) h in
    let p = there s around (in_hypothesis label []) in
    let q = there s around (in_hypothesis label ws) in
    let r = home (behind s (hypothesis label ws)) around in
    labelled (codes "$e") (λ w. in_hypothesis w []) hypothesis_keyword s around label (ws ++ codes "$." ∷ []) r parts.0
    (words_lead p q r ws (codes "$." ∷ [])
    (expression_leads (λ x. in_hypothesis label x) (hypothesis_symbols label) s around ws parts.1)
    (one_word q r (codes "$.") (λ t is. hypothesis_end s around label ws t (some_symbols s ws parts.1) is)))

axiom_leads : (s : Scope) (around : List Scope) (label : Word) (ws : List Word) → is_lawful s (asserted label ws) ≡ true
    → Leads (home s around) (spelling (asserted label ws)) (home (behind s (asserted label ws)) around)
axiom_leads s around label ws h =
    let parts = and_parts (is_new_label s label) (is_expression s ws) h in
    let p = there s around (in_axiom label []) in
    let q = there s around (in_axiom label ws) in
    let r = home (behind s (asserted label ws)) around in
    labelled (codes "$a") (λ w. in_axiom w []) axiom_keyword s around label (ws ++ codes "$." ∷ []) r parts.0
    (words_lead p q r ws (codes "$." ∷ [])
    (expression_leads (λ x. in_axiom label x) (axiom_symbols label) s around ws parts.1)
    (one_word q r (codes "$.") (λ t is. axiom_end s around label ws t (some_symbols s ws parts.1) is)))

theorem_leads : (s : Scope) → HasLabels s → (around : List Scope) (label : Word) (ws : List Word) (proof : Proof)
    → is_lawful s (proved label ws proof) ≡ true
    → Leads (home s around) (spelling (proved label ws proof)) (home (behind s (proved label ws proof)) around)
theorem_leads s labels around label ws proof h =
    let parts = three_parts (is_new_label s label) (is_expression s ws) (is_lawful_proof s ws proof) h in
    let p = there s around (in_theorem label []) in
    let m = there s around (in_theorem label ws) in
    let q = there s around (in_steps label ws []) in
    let r = home (behind s (proved label ws proof)) around in
    let others = proof_spelling proof ++ codes "$." ∷ [] in
    labelled (codes "$p") (λ w. in_theorem w []) theorem_keyword s around label (ws ++ codes "$=" ∷ others) r parts.0
    (words_lead p m r ws (codes "$=" ∷ others)
    (expression_leads (λ x. in_theorem label x) (theorem_symbols label) s around ws parts.1)
    (word_leads m q r (codes "$=") others (λ t is. theorem_end s around label ws t (some_symbols s ws parts.1) is)
    (proof_leads s labels around label ws proof parts.2)))

mutual
  pub statement_leads : (s : Scope) → HasLabels s → (around : List Scope) (x : Statement) → is_lawful s x ≡ true
      → Leads (home s around) (spelling x) (home (behind s x) around)
  statement_leads s labels around (constants ws) h = constants_lead s around ws h
  statement_leads s labels around (variables ws) h = variables_lead s around ws h
  statement_leads s labels around (float label c v) h = float_leads s around label c v h
  statement_leads s labels around (hypothesis label ws) h = hypothesis_leads s around label ws h
  statement_leads s labels around (distinct vs) h = distinct_lead s around vs h
  statement_leads s labels around (asserted label ws) h = axiom_leads s around label ws h
  statement_leads s labels around (proved label ws proof) h = theorem_leads s labels around label ws proof h
  statement_leads s labels around (block ss) h =
      let p = home (enter s) (s ∷ around) in
      let inner = behind_all (enter s) ss in
      let q = home inner (s ∷ around) in
      let r = home (leave s inner) around in
      word_leads (home s around) p r (codes "${") (spellings ss ++ codes "$}" ∷ []) (λ t is. opens s around t is)
      (words_lead p q r (spellings ss) (codes "$}" ∷ []) (statements_lead (enter s) labels (s ∷ around) ss h)
      (one_word q r (codes "$}") (λ t is. closes inner s around t is)))

  pub statements_lead : (s : Scope) → HasLabels s → (around : List Scope) (ss : Statements) → are_lawful s ss ≡ true
      → Leads (home s around) (spellings ss) (home (behind_all s ss) around)
  statements_lead s labels around none h = no_word (home s around)
  statements_lead s labels around (some x xs) h =
      let both = and_parts (is_lawful s x) (are_lawful (behind s x) xs) h in
      words_lead (home s around) (home (behind s x) around) (home (behind_all (behind s x) xs) around) (spelling x) (spellings xs)
      (statement_leads s labels around x both.0)
      (statements_lead (behind s x) (labels_stay s x labels both.0) around xs both.1)
