-- What stands behind lawful statements is whole: what is so at each place of a source, statement by statement.
use Rattle.std.proofs.Common.{◌≡◌, Bool, true, false, List, [], ◌∷◌, ◌++◌, IsTrue, IfSome, map, refl, sym, ap, subst, ◌∙◌, inl, inr}
use Rattle.std.proofs.Common.{append_assoc, append-nil}
use Rattle.std.specs.Prelude.{All, Option, Some, None, ◌||◌}
use Rattle.std.specs.List.{list_any}
use Rattle.std.specs.Str.{bytes_eq}
use Rattle.std.proofs.lemmas.Bool.{cases_Bool, or_from, and_parts}
use Rattle.std.proofs.lemmas.List.{map-append}
use Rattle.std.proofs.lemmas.List.Elements.{All-nil, All-push, All-weaker}
use Rattle.std.proofs.lemmas.List.Folds.{list_any-append, list_any_none}
use Rattle.mmtext.specs.Words.{Word}
use Rattle.mmtext.proofs.Marks.{same_word}
use Rattle.mmsyntax.specs.Assertions.{Distinct}
use Rattle.mmsyntax.proofs.Names.{bytes_eq-same, bytes_eq-sym}
use Rattle.mmsyntax.proofs.Distinct.{distinct_insert, any-map}
use Rattle.source.specs.Statements.{Proof, Statement, constants, variables, float, hypothesis, distinct, asserted, proved, block}
use Rattle.source.specs.Statements.{Statements, none, some}
use Rattle.source.specs.Scopes.{Hypothesis, typing, premise, label_of, Pair, Assertion, Scope, nothing, is_in, is_float_of, pairs_of}
use Rattle.source.specs.Scopes.{with_hypothesis, with_assertion, enter, leave, behind, behind_all}
use Rattle.source.specs.Tests.{passes, type_tests, float_tests, is_new_label, is_expression, is_lawful_proof, is_lawful, are_lawful}
use Rattle.source.specs.Whole.{is_typed_at, IsHypothesisWhole, IsProofWhole, IsAssertionWhole, AreAssertionsWhole, IsWhole, SourcesAreWhole}
use Rattle.source.proofs.Passing.{three_parts}
use Rattle.source.proofs.Growing.{any_in_front, any_behind, Grows, one_label, all_grow, Extends, all_extend}
use Rattle.source.proofs.Everywhere.{Everywhere, asserting, bare, everywhere_both, everywhere_weaker, everywhere_more, everywhere_asserted}
use Rattle.source.proofs.Everywhere.{everywhere_left}
use Rattle.source.proofs.Asserted.{new_label_apart, type_declared, expression_typed, proof_whole, typed_stays, hypothesis_stays}
use Rattle.source.proofs.Asserted.{assertion_stays}

-- ---- labels

-- a label among others isn't one that isn't there
other_label : (ls : List Word) (a b : Word) → is_in ls a ≡ true → is_in ls b ≡ false → bytes_eq a b ≡ false
other_label ls a b there absent = elim (cases_Bool (bytes_eq a b)) [
  | inl y ↦ absurd (let e : is_in ls a ≡ false = ap (is_in ls) (same_word a b y) ∙ absent in cc)
  | inr n ↦ n
]

apart_labels : (ls : List Word) (a b : Word) → is_in ls a ≡ true → is_in ls b ≡ false → a ≡ b → ⊥
apart_labels ls a b there absent same = let e : is_in ls a ≡ false = ap (is_in ls) same ∙ absent in cc

last_label : (ls : List Word) (l : Word) → is_in (ls ++ l ∷ []) l ≡ true
last_label ls l = any_behind (bytes_eq l) ls (l ∷ []) (ap (λ b. b || false) (bytes_eq-same l))

-- ---- what stands at a place

abbrev IsLabelled : Scope → Hypothesis → Type 0
IsLabelled s h = IsTrue (is_in s.labels (label_of h))

abbrev IsApart : Scope → Hypothesis → Type 0
IsApart s h = list_any (λ y. bytes_eq (label_of h) y.label) s.assertions ≡ false

abbrev AreSame : Hypothesis → Hypothesis → Type 0
AreSame h k = label_of h ≡ label_of k → h ≡ k

abbrev AgreesWithAll : Scope → Hypothesis → Type 0
AgreesWithAll s h = Everywhere (AreSame h) s

-- what the law asks of assertions, and the same of what is active
record StandsWhole (s : Scope) : Type 0 where
  assertions : AreAssertionsWhole s [] s.assertions
  distinct : Distinct bytes_eq (map (λ x. x.label) s.assertions)
  labels : All (λ x. IsTrue (is_in s.labels x.label)) s.assertions
  hypotheses : All (IsHypothesisWhole s (bare s)) s.hypotheses
  labelled : Everywhere (IsLabelled s) s
  agree : Everywhere (AgreesWithAll s) s
  apart : Everywhere (IsApart s) s

-- no assertion has a new label
none_labelled : (s : Scope) (l : Word) → StandsWhole s → is_in s.labels l ≡ false
    → list_any (λ y. bytes_eq l y.label) s.assertions ≡ false
none_labelled s l w new =
    list_any_none (λ (y : Assertion). bytes_eq l y.label) s.assertions
    (All-weaker (λ (y : Assertion). IsTrue (is_in s.labels y.label)) (λ (y : Assertion). bytes_eq l y.label ≡ false)
    (λ y there. bytes_eq-sym l y.label ∙ other_label s.labels y.label l there new) s.assertions w.labels)

-- ---- assertions

assertions_stay : (s t : Scope) (earlier xs : List Assertion) → Grows s t → AreAssertionsWhole s earlier xs
    → AreAssertionsWhole t earlier xs
assertions_stay s t earlier [] g h = tt
assertions_stay s t earlier (x ∷ xs) g h = (assertion_stays s t earlier x g h.0, assertions_stay s t (earlier ++ x ∷ []) xs g h.1)

one_more : (s : Scope) (earlier xs : List Assertion) (x : Assertion) → AreAssertionsWhole s earlier xs
    → IsAssertionWhole s (earlier ++ xs) x → AreAssertionsWhole s earlier (xs ++ x ∷ [])
one_more s earlier [] x h a = (subst (λ e. IsAssertionWhole s e x) (append-nil earlier) a, tt)
one_more s earlier (y ∷ xs) x h a = (
  h.0,
  one_more s (earlier ++ y ∷ []) xs x h.1 (subst (λ e. IsAssertionWhole s e x) (sym (append_assoc earlier (y ∷ []) xs)) a),
)

module _ (s : Scope) (w : StandsWhole s) where
  -- ---- what is so where constants and labels grew

  active_stay : (t : Scope) (y : Assertion) → Grows s t
      → ((v : Word) → list_any (is_float_of v) s.hypotheses ≡ true → list_any (is_float_of v) y.active ≡ true)
      → All (IsHypothesisWhole t y) s.hypotheses
  active_stay t y g floats =
      All-weaker (IsHypothesisWhole s (bare s)) (IsHypothesisWhole t y) (hypothesis_stays s t (bare s) y g floats) s.hypotheses w.hypotheses

  labels_stay : (t : Scope) → Grows s t → All (λ x. IsTrue (is_in t.labels x.label)) s.assertions
  labels_stay t g =
      All-weaker (λ (x : Assertion). IsTrue (is_in s.labels x.label)) (λ (x : Assertion). IsTrue (is_in t.labels x.label))
      (λ x l. g.labels x.label l) s.assertions w.labels

  labelled_stay : (t : Scope) → Grows s t → Everywhere (IsLabelled t) s
  labelled_stay t g = everywhere_weaker (IsLabelled s) s (IsLabelled t) (λ h l. g.labels (label_of h) l) w.labelled

  -- ---- statements without a label, and the start of a block

  -- labels, hypotheses and assertions stay
  reshaped : (o : Bool) (cs vs : List Word) (ps : List Pair) (sy : List Word)
      → ((v : Word) → IsTrue (is_in s.constants v) → IsTrue (is_in cs v))
      → StandsWhole (record s { outermost = o; constants = cs; variables = vs; pairs = ps; symbols = sy })
  reshaped o cs vs ps sy more =
      let t : Scope = record s { outermost = o; constants = cs; variables = vs; pairs = ps; symbols = sy } in
      let g : Grows s t = record { constants = more; labels = λ v h. h } in
      record {
        assertions = assertions_stay s t [] s.assertions g w.assertions;
        distinct = w.distinct;
        labels = w.labels;
        hypotheses = active_stay t (bare t) g (λ v h. h);
        labelled = w.labelled;
        agree = w.agree;
        apart = w.apart;
      }

  -- ---- hypotheses

  agree_more : (h : Hypothesis) → is_in s.labels (label_of h) ≡ false
      → Everywhere (AgreesWithAll (with_hypothesis s h)) (with_hypothesis s h)
  agree_more h new =
      let t = with_hypothesis s h in
      everywhere_more (AgreesWithAll t) s h
      (everywhere_both (AgreesWithAll s) s (IsLabelled s) (AgreesWithAll t)
      (λ g a l. everywhere_more (AreSame g) s h a (λ e. absurd (apart_labels s.labels (label_of g) (label_of h) l new e)))
      w.agree w.labelled)
      (everywhere_more (AreSame h) s h
      (everywhere_weaker (IsLabelled s) s (AreSame h)
      (λ k l e. absurd (apart_labels s.labels (label_of k) (label_of h) l new (sym e))) w.labelled) (λ e. refl))

  with_one_hypothesis : (h : Hypothesis) → is_in s.labels (label_of h) ≡ false
      → IsHypothesisWhole (with_hypothesis s h) (bare (with_hypothesis s h)) h → StandsWhole (with_hypothesis s h)
  with_one_hypothesis h new whole =
      let t = with_hypothesis s h in
      let g : Grows s t = one_label s t (label_of h) refl refl in
      record {
        assertions = assertions_stay s t [] s.assertions g w.assertions;
        distinct = w.distinct;
        labels = labels_stay t g;
        hypotheses = All-push (IsHypothesisWhole t (bare t)) s.hypotheses h
            (active_stay t (bare t) g (λ v f. any_in_front (is_float_of v) s.hypotheses (h ∷ []) f)) whole;
        labelled = everywhere_more (IsLabelled t) s h (labelled_stay t g) (last_label s.labels (label_of h));
        agree = agree_more h new;
        apart = everywhere_more (IsApart s) s h w.apart (none_labelled s (label_of h) w new);
      }

  -- ---- assertions

  module _ (label : Word) (ws : List Word) (proof : Option Proof) (new : is_in s.labels label ≡ false) where
    distinct_more : Distinct bytes_eq (map (λ x. x.label) (with_assertion s label ws proof).assertions)
    distinct_more =
        let f = λ (x : Assertion). x.label in
        let ls = map f s.assertions in
        subst (Distinct bytes_eq) (sym (map-append f s.assertions (asserting s label ws proof ∷ [])))
        (distinct_insert bytes_eq bytes_eq-sym ls [] label (subst (Distinct bytes_eq) (sym (append-nil ls)) w.distinct)
        (ap (list_any (bytes_eq label)) (append-nil ls) ∙ any-map (bytes_eq label) f s.assertions ∙ none_labelled s label w new))

    apart_more : Everywhere (IsApart (with_assertion s label ws proof)) (with_assertion s label ws proof)
    apart_more =
        let t = with_assertion s label ws proof in
        everywhere_asserted (IsApart t) s label ws proof
        (everywhere_both (IsApart s) s (IsLabelled s) (IsApart t)
        (λ h a l. list_any-append (λ (y : Assertion). bytes_eq (label_of h) y.label) s.assertions (asserting s label ws proof ∷ [])
        ∙ or_from (list_any (λ (y : Assertion). bytes_eq (label_of h) y.label) s.assertions) (bytes_eq (label_of h) label || false) a
        (or_from (bytes_eq (label_of h) label) false (other_label s.labels (label_of h) label l new) refl)) w.apart w.labelled)

    -- the assertion itself, before it stands
    asserted_whole : All (λ v. IsTrue (is_typed_at s (bare s) v)) ws
        → IfSome proof (IsProofWhole s.assertions (asserting s label ws proof))
        → IsAssertionWhole (with_assertion s label ws proof) s.assertions (asserting s label ws proof)
    asserted_whole typed whole =
        let t = with_assertion s label ws proof in
        let x = asserting s label ws proof in
        let g : Grows s t = one_label s t label refl refl in
        record {
          hypotheses = active_stay t x g (λ v h. h);
          statement = typed;
          mandatory = refl;
          proof = whole;
        }

    with_one_assertion : All (λ v. IsTrue (is_typed_at s (bare s) v)) ws
        → IfSome proof (IsProofWhole s.assertions (asserting s label ws proof)) → StandsWhole (with_assertion s label ws proof)
    with_one_assertion typed whole =
        let t = with_assertion s label ws proof in
        let x = asserting s label ws proof in
        let g : Grows s t = one_label s t label refl refl in
        record {
          assertions = one_more t [] s.assertions x (assertions_stay s t [] s.assertions g w.assertions) (asserted_whole typed whole);
          distinct = distinct_more;
          labels = All-push (λ (y : Assertion). IsTrue (is_in t.labels y.label)) s.assertions x
              (labels_stay t g) (last_label s.labels label);
          hypotheses = active_stay t (bare t) g (λ v h. h);
          labelled = everywhere_asserted (IsLabelled t) s label ws proof (labelled_stay t g);
          agree = everywhere_asserted (AgreesWithAll t) s label ws proof
              (everywhere_weaker (AgreesWithAll s) s (AgreesWithAll t) (λ h a. everywhere_asserted (AreSame h) s label ws proof a) w.agree);
          apart = apart_more;
        }

  -- ---- the end of a block

  left : (inner : Scope) → StandsWhole inner → Grows s inner → Extends s.hypotheses inner.hypotheses → StandsWhole (leave s inner)
  left inner v g e =
      let t = leave s inner in
      let from_inner : Grows inner t = record { constants = λ u h. h; labels = λ u h. h } in
      let from_front : Grows s t = record { constants = g.constants; labels = g.labels } in
      record {
        assertions = assertions_stay inner t [] inner.assertions from_inner v.assertions;
        distinct = v.distinct;
        labels = v.labels;
        hypotheses = active_stay t (bare t) from_front (λ u h. h);
        labelled = everywhere_left (IsLabelled inner) inner s e v.labelled;
        agree = everywhere_left (AgreesWithAll t) inner s e
            (everywhere_weaker (AgreesWithAll inner) inner (AgreesWithAll t) (λ h a. everywhere_left (AreSame h) inner s e a) v.agree);
        apart = everywhere_left (IsApart inner) inner s e v.apart;
      }

-- ---- statements

nothing_stands : StandsWhole nothing
nothing_stands = record {
  assertions = tt;
  distinct = tt;
  labels = All-nil (λ (x : Assertion). IsTrue (is_in [] x.label));
  hypotheses = All-nil (IsHypothesisWhole nothing (bare nothing));
  labelled = (All-nil (IsLabelled nothing), All-nil (λ (x : Assertion). All (IsLabelled nothing) x.active));
  agree = (All-nil (AgreesWithAll nothing), All-nil (λ (x : Assertion). All (AgreesWithAll nothing) x.active));
  apart = (All-nil (IsApart nothing), All-nil (λ (x : Assertion). All (IsApart nothing) x.active));
}

-- a $f, and a $e, whose type or symbols are declared
typing_whole : (s : Scope) (label c v : Word) → is_in s.constants c ≡ true
    → IsHypothesisWhole (with_hypothesis s (typing label c v)) (bare (with_hypothesis s (typing label c v))) (typing label c v)
typing_whole s label c v known = (last_label s.labels label, known)

premise_whole : (s : Scope) (label : Word) (ws : List Word) → All (λ v. IsTrue (is_typed_at s (bare s) v)) ws
    → IsHypothesisWhole (with_hypothesis s (premise label ws)) (bare (with_hypothesis s (premise label ws))) (premise label ws)
premise_whole s label ws typed =
    let t = with_hypothesis s (premise label ws) in
    let g : Grows s t = one_label s t label refl refl in (
      last_label s.labels label,
      All-weaker (λ v. IsTrue (is_typed_at s (bare s) v)) (λ v. IsTrue (is_typed_at t (bare t) v))
          (typed_stays s t (bare s) (bare t) g (λ v f. any_in_front (is_float_of v) s.hypotheses (premise label ws ∷ []) f)) ws typed,
    )

mutual
  stays : (s : Scope) (x : Statement) → StandsWhole s → is_lawful s x ≡ true → StandsWhole (behind s x)
  stays s (constants ws) w h =
      reshaped s w s.outermost (s.constants ++ ws) s.variables s.pairs (s.symbols ++ ws)
      (λ v is. any_in_front (bytes_eq v) s.constants ws is)
  stays s (variables ws) w h = reshaped s w s.outermost s.constants (s.variables ++ ws) s.pairs (s.symbols ++ ws) (λ v is. is)
  stays s (float label c v) w h =
      let parts = three_parts (is_new_label s label) (passes (type_tests s c)) (passes (float_tests s v)) h in
      with_one_hypothesis s w (typing label c v) (new_label_apart s label parts.0) (typing_whole s label c v (type_declared s c parts.1))
  stays s (hypothesis label ws) w h =
      let both = and_parts (is_new_label s label) (is_expression s ws) h in
      with_one_hypothesis s w (premise label ws) (new_label_apart s label both.0) (premise_whole s label ws (expression_typed s ws both.1))
  stays s (distinct vs) w h = reshaped s w s.outermost s.constants s.variables (s.pairs ++ pairs_of vs) s.symbols (λ v is. is)
  stays s (asserted label ws) w h =
      let both = and_parts (is_new_label s label) (is_expression s ws) h in
      with_one_assertion s w label ws None (new_label_apart s label both.0) (expression_typed s ws both.1) tt
  stays s (proved label ws proof) w h =
      let parts = three_parts (is_new_label s label) (is_expression s ws) (is_lawful_proof s ws proof) h in
      with_one_assertion s w label ws (Some proof) (new_label_apart s label parts.0) (expression_typed s ws parts.1)
      (proof_whole s label ws proof parts.2)
  stays s (block ss) w h =
      let inner = enter s in
      let entered : StandsWhole inner = reshaped s w false s.constants s.variables s.pairs s.symbols (λ v is. is) in
      let g : Grows inner (behind_all inner ss) = all_grow inner ss in
      left s w (behind_all inner ss) (all_stay inner ss entered h) (record { constants = g.constants; labels = g.labels })
      (all_extend inner ss)

  all_stay : (s : Scope) (ss : Statements) → StandsWhole s → are_lawful s ss ≡ true → StandsWhole (behind_all s ss)
  all_stay s none w h = w
  all_stay s (some x xs) w h =
      let both = and_parts (is_lawful s x) (are_lawful (behind s x) xs) h in
      all_stay (behind s x) xs (stays s x w both.0) both.1

-- ---- the law

whole_of : (s : Scope) → StandsWhole s → IsWhole s
whole_of s w = record {
  assertions = w.assertions;
  distinct = w.distinct;
  agree = λ i x lt j y lt' k h lt''. (w.agree.1 i x lt k h lt'').1 j y lt';
  apart = w.apart.1;
}

pub sources_whole : SourcesAreWhole
sources_whole ss s d = subst IsWhole d.declared (whole_of (behind_all nothing ss) (all_stay nothing ss nothing_stands d.lawful))
