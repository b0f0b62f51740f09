-- The names of what stands behind lawful statements are tokens of these, statement by statement.
use Rattle.std.proofs.Common.{◌≡◌, true, false, List, [], ◌∷◌, ◌++◌, sym, ap, subst, ◌∙◌, append-nil}
use Rattle.std.specs.Prelude.{All, Option, Some, None, codes, nat_le, length}
use Rattle.std.specs.List.{AllByRecursion, list_any}
use Rattle.std.specs.Str.{bytes_eq}
use Rattle.std.proofs.lemmas.Bool.{and_parts}
use Rattle.std.proofs.lemmas.List.Elements.{All-nil, All-append, All-push, All-from_recursion}
use Rattle.mmtext.specs.Words.{Word, has_dollar}
use Rattle.mmsyntax.specs.Preludes.{IsWord}
use Rattle.mmsyntax.specs.Assertions.{Distinct}
use Rattle.mmsyntax.proofs.Names.{bytes_eq-sym}
use Rattle.mmsyntax.proofs.Distinct.{distinct_insert, all_left, all_right}
use Rattle.mmsyntax.proofs.Lines.{clean_words}
use Rattle.source.specs.Statements.{Proof, Statement, constants, variables, float, hypothesis, distinct, asserted, proved, block}
use Rattle.source.specs.Statements.{Statements, none, some, proof_spelling, spelling, spellings}
use Rattle.source.specs.Scopes.{Hypothesis, typing, premise, label_of, Scope, nothing, is_in, with_hypothesis, with_assertion}
use Rattle.source.specs.Scopes.{enter, behind, behind_all}
use Rattle.source.specs.Tests.{passes, type_tests, float_tests, symbol_tests, all_pass, is_new_label, is_expression, is_lawful_proof}
use Rattle.source.specs.Tests.{each_declared, a_constant, a_variable, constant_tests, variable_tests, is_lawful, are_lawful}
use Rattle.source.proofs.Passing.{three_parts, constant_plain, variable_plain, type_plain, float_plain, symbol_plain}
use Rattle.source.proofs.InOrder.{constants_at, constant_tests_at, variables_at, variable_tests_at, constants_pass, variables_pass}
use Rattle.source.proofs.InOrder.{all_passed}
use Rattle.source.proofs.Labels.{new_label}
use Rattle.source.proofs.Asserted.{new_label_apart}
use Rattle.source.proofs.Everywhere.{all_both, asserting}
use Rattle.taketext.specs.Names.{IsMathSymbol, IsLabelToken, IsHypothesisWorded, IsAssertionWorded, IsWorded, SourcesAreWorded}

-- ---- words

abbrev IsPlain : Word → Type 0
IsPlain w = has_dollar w ≡ false

symbols_of : (ws : List Word) → AllByRecursion IsWord ws → All IsPlain ws → All IsMathSymbol ws
symbols_of ws words plain =
    all_both IsWord IsPlain IsMathSymbol (λ w h p. record { word = h; no_dollar = p }) ws (All-from_recursion IsWord ws words) plain

expression_symbols : (s : Scope) (ws : List Word) → AllByRecursion IsWord ws → is_expression s ws ≡ true → All IsMathSymbol ws
expression_symbols s ws words h =
    symbols_of ws words
    (all_passed (symbol_tests s) IsPlain (symbol_plain s) [] ws (and_parts (nat_le 1 (length ws)) (all_pass (symbol_tests s) [] ws) h).1)

label_token : (s : Scope) (label : Word) → IsWord label → is_new_label s label ≡ true → IsLabelToken label
label_token s label word h = record { word = word; label = new_label s label h }

-- ---- what stands at a place

-- what the law says, and the same of what is active
record StandsWorded (s : Scope) : Type 0 where
  constants : All IsMathSymbol s.constants
  symbols : All IsMathSymbol s.symbols
  labels : All IsLabelToken s.labels
  distinct : Distinct bytes_eq s.labels
  hypotheses : All IsHypothesisWorded s.hypotheses
  assertions : All IsAssertionWorded s.assertions

nothing_stands : StandsWorded nothing
nothing_stands = record {
  constants = All-nil IsMathSymbol;
  symbols = All-nil IsMathSymbol;
  labels = All-nil IsLabelToken;
  distinct = tt;
  hypotheses = All-nil IsHypothesisWorded;
  assertions = All-nil IsAssertionWorded;
}

module _ (s : Scope) (w : StandsWorded s) where
  distinct_more : (label : Word) → is_in s.labels label ≡ false → Distinct bytes_eq (s.labels ++ label ∷ [])
  distinct_more label new =
      distinct_insert bytes_eq bytes_eq-sym s.labels [] label (subst (Distinct bytes_eq) (sym (append-nil s.labels)) w.distinct)
      (ap (list_any (bytes_eq label)) (append-nil s.labels) ∙ new)

  with_one_hypothesis : (h : Hypothesis) → is_new_label s (label_of h) ≡ true → IsLabelToken (label_of h) → IsHypothesisWorded h
      → StandsWorded (with_hypothesis s h)
  with_one_hypothesis h new label worded = record {
    constants = w.constants;
    symbols = w.symbols;
    labels = All-push IsLabelToken s.labels (label_of h) w.labels label;
    distinct = distinct_more (label_of h) (new_label_apart s (label_of h) new);
    hypotheses = All-push IsHypothesisWorded s.hypotheses h w.hypotheses worded;
    assertions = w.assertions;
  }

  with_one_assertion : (label : Word) (ws : List Word) (proof : Option Proof) → is_new_label s label ≡ true → IsWord label
      → AllByRecursion IsWord ws → is_expression s ws ≡ true → StandsWorded (with_assertion s label ws proof)
  with_one_assertion label ws proof new word words h =
      let token = label_token s label word new in
      let one : IsAssertionWorded (asserting s label ws proof) =
      record { label = token; statement = expression_symbols s ws words h; active = w.hypotheses } in
      record {
        constants = w.constants;
        symbols = w.symbols;
        labels = All-push IsLabelToken s.labels label w.labels token;
        distinct = distinct_more label (new_label_apart s label new);
        hypotheses = w.hypotheses;
        assertions = All-push IsAssertionWorded s.assertions (asserting s label ws proof) w.assertions one;
      }

-- ---- statements

mutual
  stays : (s : Scope) (x : Statement) → StandsWorded s → AllByRecursion IsWord (spelling x) → is_lawful s x ≡ true
      → StandsWorded (behind s x)
  stays s (constants ws) w words h =
      let parts = three_parts s.outermost (nat_le 1 (length ws)) (each_declared a_constant constant_tests s ws) h in
      let plain =
      all_passed (constant_tests_at s) IsPlain (λ front v. constant_plain (constants_at s front) v) [] ws
      (sym (constants_pass s ws) ∙ parts.2) in
      let all = symbols_of ws (all_left IsWord ws (codes "$." ∷ []) words.1) plain in
      record {
        constants = All-append IsMathSymbol s.constants ws w.constants all;
        symbols = All-append IsMathSymbol s.symbols ws w.symbols all;
        labels = w.labels;
        distinct = w.distinct;
        hypotheses = w.hypotheses;
        assertions = w.assertions;
      }
  stays s (variables ws) w words h =
      let parts = and_parts (nat_le 1 (length ws)) (each_declared a_variable variable_tests s ws) h in
      let plain =
      all_passed (variable_tests_at s) IsPlain (λ front v. variable_plain (variables_at s front) v) [] ws
      (sym (variables_pass s ws) ∙ parts.1) in
      let all = symbols_of ws (all_left IsWord ws (codes "$." ∷ []) words.1) plain in
      record {
        constants = w.constants;
        symbols = All-append IsMathSymbol s.symbols ws w.symbols all;
        labels = w.labels;
        distinct = w.distinct;
        hypotheses = w.hypotheses;
        assertions = w.assertions;
      }
  stays s (float label c v) w words h =
      let parts = three_parts (is_new_label s label) (passes (type_tests s c)) (passes (float_tests s v)) h in
      let token = label_token s label words.0 parts.0 in
      with_one_hypothesis s w (typing label c v) parts.0 token (
        token,
        record { word = words.1.1.0; no_dollar = type_plain s c parts.1 },
        record { word = words.1.1.1.0; no_dollar = float_plain s v parts.2 },
      )
  stays s (hypothesis label ws) w words h =
      let both = and_parts (is_new_label s label) (is_expression s ws) h in
      let token = label_token s label words.0 both.0 in
      with_one_hypothesis s w (premise label ws) both.0 token
      (token, expression_symbols s ws (all_left IsWord ws (codes "$." ∷ []) words.1.1) both.1)
  stays s (distinct vs) w words h = record {
    constants = w.constants;
    symbols = w.symbols;
    labels = w.labels;
    distinct = w.distinct;
    hypotheses = w.hypotheses;
    assertions = w.assertions;
  }
  stays s (asserted label ws) w words h =
      let both = and_parts (is_new_label s label) (is_expression s ws) h in
      with_one_assertion s w label ws None both.0 words.0 (all_left IsWord ws (codes "$." ∷ []) words.1.1) both.1
  stays s (proved label ws proof) w words h =
      let parts = three_parts (is_new_label s label) (is_expression s ws) (is_lawful_proof s ws proof) h in
      with_one_assertion s w label ws (Some proof) parts.0 words.0
      (all_left IsWord ws (codes "$=" ∷ (proof_spelling proof ++ codes "$." ∷ [])) words.1.1) parts.1
  stays s (block ss) w words h =
      let entered : StandsWorded (enter s) = record {
        constants = w.constants;
        symbols = w.symbols;
        labels = w.labels;
        distinct = w.distinct;
        hypotheses = w.hypotheses;
        assertions = w.assertions;
      } in
      let inner = all_stay (enter s) ss entered (all_left IsWord (spellings ss) (codes "$}" ∷ []) words.1) h in
      record {
        constants = inner.constants;
        symbols = inner.symbols;
        labels = inner.labels;
        distinct = inner.distinct;
        hypotheses = w.hypotheses;
        assertions = inner.assertions;
      }

  all_stay : (s : Scope) (ss : Statements) → StandsWorded s → AllByRecursion IsWord (spellings ss) → are_lawful s ss ≡ true
      → StandsWorded (behind_all s ss)
  all_stay s none w words h = w
  all_stay s (some x xs) w words h =
      let both = and_parts (is_lawful s x) (are_lawful (behind s x) xs) h in
      let first = stays s x w (all_left IsWord (spelling x) (spellings xs) words) both.0 in
      all_stay (behind s x) xs first (all_right IsWord (spelling x) (spellings xs) words) both.1

-- ---- the law

worded_of : (s : Scope) → StandsWorded s → IsWorded s
worded_of s w = record {
  constants = w.constants;
  symbols = w.symbols;
  labels = w.labels;
  distinct = w.distinct;
  assertions = w.assertions;
}

pub sources_worded : SourcesAreWorded
sources_worded bytes s d =
    let ss = d.statements in
    let words = clean_words bytes (spellings ss) d.clean d.words_are in
    subst IsWorded d.declared.declared (worded_of (behind_all nothing ss) (all_stay nothing ss nothing_stands words d.declared.lawful))
