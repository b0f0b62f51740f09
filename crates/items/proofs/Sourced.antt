-- What declares something is items, one behind the other.
use Rattle.std.proofs.Common.{◌≡◌, ◌∙◌, Bool, true, false, cond, List, [], ◌∷◌, ◌++◌, All, codes, refl, sym, ap, inl, inr, append_assoc, append-nil, length}
use Rattle.std.specs.Prelude.{nat_le, ℕ}
use Rattle.std.specs.List.{list_all}
use Rattle.std.specs.Str.{bytes_eq}
use Rattle.std.proofs.lemmas.Bool.{cases_Bool, and_parts, or_from}
use Rattle.std.proofs.lemmas.List.Elements.{All-cons, All-append, All-head, All-tail}
use Rattle.mmtext.specs.Words.{Word, has_dollar}
use Rattle.mmtext.proofs.Marks.{same_word, label_plain}
use Rattle.mmtext.specs.declared.fault.FaultKind.{FaultKind}
use Rattle.source.specs.Statements.{Proof, normal, compressed, Statement, constants, variables, float, hypothesis, distinct, asserted}
use Rattle.source.specs.Statements.{proved, block, Statements, none, some, proof_spelling, spelling, spellings}
use Rattle.source.specs.Scopes.{Scope, nothing, enter, behind}
use Rattle.source.specs.Sources.{DeclaresText}
use Rattle.source.specs.Tests.{passes, type_tests, float_tests, distinct_tests, symbol_tests, step_tests, cited_tests, letter_tests}
use Rattle.source.specs.Tests.{all_pass, is_new_label, is_expression, has_lawful_words, is_whole, is_lawful_proof, each_declared}
use Rattle.source.specs.Tests.{a_constant, a_variable, constant_tests, variable_tests, is_lawful, are_lawful}
use Rattle.source.proofs.Passing.{three_parts, constant_plain, variable_plain, type_plain, float_plain, distinct_plain, symbol_plain}
use Rattle.source.proofs.Passing.{step_plain, cited_plain, letter_plain}
use Rattle.source.proofs.InOrder.{constants_at, constant_tests_at, variables_at, variable_tests_at, constants_pass, variables_pass}
use Rattle.source.proofs.InOrder.{each_alone, all_passed, Plain}
use Rattle.source.proofs.Labels.{new_label}
use Rattle.items.specs.Divided.{is_mark, begins_none, divides, IsDivided}

-- ---- words within a statement

abbrev Goes : Word → Type 0
Goes w = (bytes_eq w (codes "$.") ≡ false) × (is_mark w ≡ false)

-- a word without a $ is none that has one
apart : (w v : Word) → has_dollar w ≡ false → has_dollar v ≡ true → bytes_eq w v ≡ false
apart w v plain has = elim (cases_Bool (bytes_eq w v)) [
  | inl y ↦ absurd (let e : false ≡ true = sym plain ∙ (ap has_dollar (same_word w v y) ∙ has) in cc)
  | inr n ↦ n
]

no_mark : (w : Word) → has_dollar w ≡ false → is_mark w ≡ false
no_mark w plain =
    or_from (bytes_eq w (codes "${")) (bytes_eq w (codes "$}")) (apart w (codes "${") plain refl) (apart w (codes "$}") plain refl)

plain_goes : (w : Word) → has_dollar w ≡ false → Goes w
plain_goes w plain = (apart w (codes "$.") plain refl, no_mark w plain)

all_go : (tests : List Word → Word → List (Bool × FaultKind)) → Plain tests → (ws : List Word) → all_pass tests [] ws ≡ true → All Goes ws
all_go tests plain ws h = all_passed tests Goes (λ front w p. plain_goes w (plain front w p)) [] ws h

one_goes : (w : Word) (ws : List Word) → Goes w → divides true (w ∷ ws) ≡ divides true ws
one_goes w ws g =
    ap (λ b. cond b (divides false ws) (cond (is_mark w) false (divides true ws))) g.0 ∙ ap (λ b. cond b false (divides true ws)) g.1

go : (vs ws : List Word) → All Goes vs → divides true (vs ++ ws) ≡ divides true ws
go [] ws all = refl
go (v ∷ vs) ws all = one_goes v (vs ++ ws) (All-head Goes v vs all) ∙ go vs ws (All-tail Goes v vs all)

-- up to a $.
ended : (vs ws : List Word) → All Goes vs → divides true ((vs ++ codes "$." ∷ []) ++ ws) ≡ divides false ws
ended vs ws all = ap (divides true) (append_assoc vs (codes "$." ∷ []) ws) ∙ go vs (codes "$." ∷ ws) all

-- a label begins a statement
begun : (label : Word) (ws : List Word) → has_dollar label ≡ false → divides false (label ∷ ws) ≡ divides true ws
begun label ws plain =
    ap (λ b. cond b (divides false ws) (cond (begins_none label) false (divides true ws))) (no_mark label plain)
    ∙ ap (λ b. cond b false (divides true ws))
    (or_from (bytes_eq label (codes "$.")) (bytes_eq label (codes "$=")) (apart label (codes "$.") plain refl)
    (apart label (codes "$=") plain refl))

-- ---- the words of a proof

proof_goes : (s : Scope) (e : List Word) (proof : Proof) → has_lawful_words s e proof ≡ true → All Goes (proof_spelling proof)
proof_goes s e (normal steps) h =
    all_go (step_tests s) (step_plain s) steps (and_parts (nat_le 1 (length steps)) (all_pass (step_tests s) [] steps) h).1
proof_goes s e (compressed labels letters) h =
    let parts = three_parts (list_all (λ w. passes (cited_tests s e w)) labels) (nat_le 1 (length letters))
    (all_pass (letter_tests s e labels) [] letters) h in
    let named = all_go (λ earlier w. cited_tests s e w) (λ earlier w p. cited_plain s e w p) labels
    (sym (each_alone (cited_tests s e) [] labels) ∙ parts.0) in
    let lettered = all_go (letter_tests s e labels) (letter_plain s e labels) letters parts.2 in
    All-cons Goes (codes "(") (labels ++ codes ")" ∷ letters) (refl, refl)
    (All-append Goes labels (codes ")" ∷ letters) named (All-cons Goes (codes ")") letters (refl, refl) lettered))

-- ---- statements

expression_goes : (s : Scope) (ws : List Word) → is_expression s ws ≡ true → All Goes ws
expression_goes s ws h =
    all_go (symbol_tests s) (symbol_plain s) ws (and_parts (nat_le 1 (length ws)) (all_pass (symbol_tests s) [] ws) h).1

label_begins : (s : Scope) (label : Word) (ws : List Word) → is_new_label s label ≡ true → divides false (label ∷ ws) ≡ divides true ws
label_begins s label ws h = begun label ws (label_plain label (new_label s label h))

mutual
  pub statement_divides : (s : Scope) (x : Statement) (ws : List Word) → is_lawful s x ≡ true
      → divides false (spelling x ++ ws) ≡ divides false ws
  statement_divides s (constants vs) ws h =
      let parts = three_parts s.outermost (nat_le 1 (length vs)) (each_declared a_constant constant_tests s vs) h in
      ended vs ws
      (all_go (constant_tests_at s) (λ front w. constant_plain (constants_at s front) w) vs (sym (constants_pass s vs) ∙ parts.2))
  statement_divides s (variables vs) ws h =
      let parts = and_parts (nat_le 1 (length vs)) (each_declared a_variable variable_tests s vs) h in
      ended vs ws
      (all_go (variable_tests_at s) (λ front w. variable_plain (variables_at s front) w) vs (sym (variables_pass s vs) ∙ parts.1))
  statement_divides s (float label c v) ws h =
      let parts = three_parts (is_new_label s label) (passes (type_tests s c)) (passes (float_tests s v)) h in
      label_begins s label (codes "$f" ∷ c ∷ v ∷ codes "$." ∷ ws) parts.0
      ∙ (one_goes c (v ∷ codes "$." ∷ ws) (plain_goes c (type_plain s c parts.1))
      ∙ one_goes v (codes "$." ∷ ws) (plain_goes v (float_plain s v parts.2)))
  statement_divides s (hypothesis label vs) ws h =
      let parts = and_parts (is_new_label s label) (is_expression s vs) h in
      label_begins s label (codes "$e" ∷ ((vs ++ codes "$." ∷ []) ++ ws)) parts.0 ∙ ended vs ws (expression_goes s vs parts.1)
  statement_divides s (distinct vs) ws h =
      let parts = and_parts (nat_le 2 (length vs)) (all_pass (distinct_tests s) [] vs) h in
      ended vs ws (all_go (distinct_tests s) (distinct_plain s) vs parts.1)
  statement_divides s (asserted label vs) ws h =
      let parts = and_parts (is_new_label s label) (is_expression s vs) h in
      label_begins s label (codes "$a" ∷ ((vs ++ codes "$." ∷ []) ++ ws)) parts.0 ∙ ended vs ws (expression_goes s vs parts.1)
  statement_divides s (proved label vs proof) ws h =
      let parts = three_parts (is_new_label s label) (is_expression s vs) (is_lawful_proof s vs proof) h in
      let words = proof_goes s vs proof (and_parts (has_lawful_words s vs proof) (is_whole s vs proof) parts.2).0 in
      let behind_words = codes "$=" ∷ (proof_spelling proof ++ codes "$." ∷ []) in
      label_begins s label (codes "$p" ∷ ((vs ++ behind_words) ++ ws)) parts.0
      ∙ (ap (divides true) (append_assoc vs behind_words ws)
      ∙ (go vs (behind_words ++ ws) (expression_goes s vs parts.1) ∙ ended (proof_spelling proof) ws words))
  statement_divides s (block ss) ws h =
      ap (divides false) (append_assoc (spellings ss) (codes "$}" ∷ []) ws) ∙ statements_divide (enter s) ss (codes "$}" ∷ ws) h

  pub statements_divide : (s : Scope) (ss : Statements) (ws : List Word) → are_lawful s ss ≡ true
      → divides false (spellings ss ++ ws) ≡ divides false ws
  statements_divide s none ws h = refl
  statements_divide s (some x xs) ws h =
      let both = and_parts (is_lawful s x) (are_lawful (behind s x) xs) h in
      ap (divides false) (append_assoc (spelling x) (spellings xs) ws)
      ∙ (statement_divides s x (spellings xs ++ ws) both.0 ∙ statements_divide (behind s x) xs ws both.1)

-- a text that declares something
pub declares_divided : (text : List ℕ) (s : Scope) → DeclaresText text s → IsDivided text
declares_divided text s d = record {
  outside = spellings d.statements;
  outside_are = d.words_are;
  divided = sym (ap (divides false) (append-nil (spellings d.statements))) ∙ statements_divide nothing d.statements [] d.declared.lawful;
}
