-- The active hypotheses at each assertion of a source: they stand in the order of their labels, each variable has one $f, and no variable
-- of a $f is a constant (Metamath book, section 4.1.3).
use Rattle.std.proofs.Common.{◌≡◌, true, false, List, [], ◌∷◌, ◌++◌, refl, sym, ap, subst, ◌∙◌, inl, inr, append-nil}
use Rattle.std.specs.Prelude.{All, Option, Some, None, ◌||◌, nat_le, length}
use Rattle.std.specs.List.{list_any}
use Rattle.std.specs.Str.{bytes_eq}
use mathlib.Core.Bool.{not}
use Rattle.std.proofs.lemmas.Bool.{cases_Bool, or_from, or_parts, and_parts, not-false}
use Rattle.std.proofs.lemmas.List.Elements.{All-nil, All-push, All-weaker}
use Rattle.std.proofs.lemmas.List.Folds.{list_any-append}
use Rattle.mmtext.specs.declared.fault.FaultKind.TheVariants.{UnknownSymbol, RepeatedLabel, NotActive}
use Rattle.mmtext.specs.Words.{Word}
use Rattle.mmsyntax.specs.Assertions.{Distinct}
use Rattle.mmsyntax.proofs.Names.{bytes_eq-sym, same_bytes}
use Rattle.mmsyntax.proofs.Distinct.{distinct_insert, distinct_left}
use Rattle.source.specs.Statements.{Proof, Statement, constants, variables, float, hypothesis, distinct, asserted, proved, block}
use Rattle.source.specs.Statements.{Statements, none, some}
use Rattle.source.specs.Scopes.{Hypothesis, typing, premise, Assertion, Scope, nothing, is_in, is_float_of, has_float}
use Rattle.source.specs.Scopes.{with_hypothesis, with_assertion, enter, leave, behind, behind_all}
use Rattle.source.specs.Sources.{Declares}
use Rattle.source.specs.Tests.{passes, constant_tests, type_tests, float_tests, is_new_label, is_expression, is_lawful_proof}
use Rattle.source.specs.Tests.{a_constant, each_declared, is_lawful, are_lawful}
use Rattle.source.proofs.Passing.{three_parts, each_clear}
use Rattle.source.proofs.Asserted.{new_label_apart}
use Rattle.source.proofs.Growing.{any_in_front, all_extend}
use Rattle.source.proofs.Everywhere.{Everywhere, asserting, everywhere_weaker, everywhere_more, everywhere_asserted, everywhere_left}
use Rattle.agreement.proofs.Within.{IsWithin, front_within, within_within, pushed_within}

-- ---- the $f among hypotheses

abbrev pub labels_of_floats : List Hypothesis → List Word
labels_of_floats [] = []
labels_of_floats (typing label c v ∷ hs) = label ∷ labels_of_floats hs
labels_of_floats (premise label ws ∷ hs) = labels_of_floats hs

abbrev pub variables_of_floats : List Hypothesis → List Word
variables_of_floats [] = []
variables_of_floats (typing label c v ∷ hs) = v ∷ variables_of_floats hs
variables_of_floats (premise label ws ∷ hs) = variables_of_floats hs

labels_append : (hs gs : List Hypothesis) → labels_of_floats (hs ++ gs) ≡ labels_of_floats hs ++ labels_of_floats gs
labels_append [] gs = refl
labels_append (typing label c v ∷ hs) gs = ap (λ ls. label ∷ ls) (labels_append hs gs)
labels_append (premise label ws ∷ hs) gs = labels_append hs gs

variables_append : (hs gs : List Hypothesis) → variables_of_floats (hs ++ gs) ≡ variables_of_floats hs ++ variables_of_floats gs
variables_append [] gs = refl
variables_append (typing label c v ∷ hs) gs = ap (λ ls. v ∷ ls) (variables_append hs gs)
variables_append (premise label ws ∷ hs) gs = variables_append hs gs

-- a variable is that of a $f among them
pub any_variable : (w : Word) (hs : List Hypothesis) → list_any (bytes_eq w) (variables_of_floats hs) ≡ list_any (is_float_of w) hs
any_variable w [] = refl
any_variable w (typing label c v ∷ hs) = ap (λ b. bytes_eq w v || b) (any_variable w hs)
any_variable w (premise label ws ∷ hs) = any_variable w hs

-- ---- what is so at each place

pub record AreOrdered (labels : List Word) (hs : List Hypothesis) : Type 0 where
  pub within : IsWithin (labels_of_floats hs) labels
  pub alone : Distinct bytes_eq (variables_of_floats hs)

-- a symbol that isn't a constant
abbrev pub IsVariable : Scope → Word → Type 0
IsVariable s v = (is_in s.symbols v ≡ true) × (is_in s.constants v ≡ false)

abbrev pub IsTyped : Scope → Hypothesis → Type 0
IsTyped s (typing label c v) = IsVariable s v
IsTyped s (premise label ws) = Unit {0}

pub record AreOrderly (s : Scope) : Type 0 where
  pub labels : Distinct bytes_eq s.labels
  pub active : AreOrdered s.labels s.hypotheses
  pub asserted : All (λ x. AreOrdered s.labels x.active) s.assertions
  pub typed : Everywhere (IsTyped s) s

-- ---- lists

distinct_more : (ls : List Word) (l : Word) → Distinct bytes_eq ls → is_in ls l ≡ false → Distinct bytes_eq (ls ++ l ∷ [])
distinct_more ls l d new =
    distinct_insert bytes_eq bytes_eq-sym ls [] l (subst (Distinct bytes_eq) (sym (append-nil ls)) d)
    (ap (list_any (bytes_eq l)) (append-nil ls) ∙ new)

ordered_on : (ls : List Word) (l : Word) (hs : List Hypothesis) → AreOrdered ls hs → AreOrdered (ls ++ l ∷ []) hs
ordered_on ls l hs o = record {
  within = within_within (labels_of_floats hs) ls (ls ++ l ∷ []) o.within (front_within ls (l ∷ []));
  alone = o.alone;
}

ordered_front : (ls : List Word) (hs gs : List Hypothesis) → AreOrdered ls (hs ++ gs) → AreOrdered ls hs
ordered_front ls hs gs o = record {
  within =
      within_within (labels_of_floats hs) (labels_of_floats hs ++ labels_of_floats gs) ls
      (front_within (labels_of_floats hs) (labels_of_floats gs))
      (subst (λ ws. IsWithin ws ls) (labels_append hs gs) o.within);
  alone =
      distinct_left bytes_eq (variables_of_floats hs) (variables_of_floats gs)
      (subst (Distinct bytes_eq) (variables_append hs gs) o.alone);
}

ordered_float : (ls : List Word) (label c v : Word) (hs : List Hypothesis) → list_any (is_float_of v) hs ≡ false → AreOrdered ls hs
    → AreOrdered (ls ++ label ∷ []) (hs ++ typing label c v ∷ [])
ordered_float ls label c v hs new o = record {
  within =
      subst (λ ws. IsWithin ws (ls ++ label ∷ [])) (sym (labels_append hs (typing label c v ∷ [])))
      (pushed_within label (labels_of_floats hs) ls o.within);
  alone =
      subst (Distinct bytes_eq) (sym (variables_append hs (typing label c v ∷ [])))
      (distinct_more (variables_of_floats hs) v o.alone (any_variable v hs ∙ new));
}

ordered_premise : (ls : List Word) (label : Word) (ws : List Word) (hs : List Hypothesis) → AreOrdered ls hs
    → AreOrdered (ls ++ label ∷ []) (hs ++ premise label ws ∷ [])
ordered_premise ls label ws hs o = record {
  within =
      subst (λ us. IsWithin us (ls ++ label ∷ [])) (sym (labels_append hs (premise label ws ∷ []) ∙ append-nil (labels_of_floats hs)))
      (ordered_on ls label hs o).within;
  alone = subst (Distinct bytes_eq) (sym (variables_append hs (premise label ws ∷ []) ∙ append-nil (variables_of_floats hs))) o.alone;
}

all_on : (ls : List Word) (l : Word) (xs : List Assertion) → All (λ x. AreOrdered ls x.active) xs
    → All (λ x. AreOrdered (ls ++ l ∷ []) x.active) xs
all_on ls l xs a =
    All-weaker (λ (x : Assertion). AreOrdered ls x.active) (λ (x : Assertion). AreOrdered (ls ++ l ∷ []) x.active)
    (λ x o. ordered_on ls l x.active o) xs a

-- ---- symbols

variable_stays : (s t : Scope) (h : Hypothesis) → ((v : Word) → IsVariable s v → IsVariable t v) → IsTyped s h → IsTyped t h
variable_stays s t (typing label c v) f h = f v h
variable_stays s t (premise label ws) f h = tt

all_typed : (s t : Scope) → ((v : Word) → IsVariable s v → IsVariable t v) → Everywhere (IsTyped s) s → Everywhere (IsTyped t) s
all_typed s t f h = everywhere_weaker (IsTyped s) s (IsTyped t) (λ g k. variable_stays s t g f k) h

-- a symbol so far is none of the constants that may be declared
other_constants : (s : Scope) (ws : List Word) (v : Word) → each_declared a_constant constant_tests s ws ≡ true → is_in s.symbols v ≡ true
    → is_in ws v ≡ false
other_constants s [] v h there = refl
other_constants s (w ∷ ws) v h there =
    let both = and_parts (passes (constant_tests s w)) (each_declared a_constant constant_tests (behind s (a_constant w)) ws) h in
    let more = (each_clear (constant_tests s w) both.0).1 in
    let new = (or_parts (is_in s.labels w) (is_in s.symbols w)
    (each_clear ((is_in s.labels w || is_in s.symbols w, RepeatedLabel) ∷ []) more).0).1 in
    let later = other_constants (behind s (a_constant w)) ws v both.1 (any_in_front (bytes_eq v) s.symbols (w ∷ []) there) in
    elim (cases_Bool (bytes_eq v w)) [
      | inl e ↦ absurd (let no : is_in s.symbols v ≡ false = ap (is_in s.symbols) (same_bytes v w e) ∙ new in cc)
      | inr n ↦ or_from (bytes_eq v w) (is_in ws v) n later
    ]

constants_stay : (s : Scope) (ws : List Word) (v : Word) → each_declared a_constant constant_tests s ws ≡ true → IsVariable s v
    → IsVariable (behind s (constants ws)) v
constants_stay s ws v h k = (
  any_in_front (bytes_eq v) s.symbols ws k.0,
  list_any-append (bytes_eq v) s.constants ws ∙ or_from (is_in s.constants v) (is_in ws v) k.1 (other_constants s ws v h k.0),
)

-- the variable of a $f
float_passed : (s : Scope) (v : Word) → passes (float_tests s v) ≡ true → IsVariable s v × (has_float s v ≡ false)
float_passed s v h =
    let repeated = (has_float s v, RepeatedLabel) ∷ [] in
    let inactive = (not (is_in s.variables v), NotActive) ∷ repeated in
    let unknown = (not (is_in s.symbols v) || is_in s.constants v, UnknownSymbol) ∷ inactive in
    let h1 : passes unknown ≡ true = (each_clear (float_tests s v) h).1 in
    let c1 = each_clear unknown h1 in
    let h2 : passes inactive ≡ true = c1.1 in
    let h3 : passes repeated ≡ true = (each_clear inactive h2).1 in
    let both = or_parts (not (is_in s.symbols v)) (is_in s.constants v) c1.0 in
    ((not-false (is_in s.symbols v) both.0, both.1), (each_clear repeated h3).0)

-- ---- statements

module _ (s : Scope) (o : AreOrderly s) where
  one_asserted : (label : Word) (ws : List Word) (proof : Option Proof) → is_in s.labels label ≡ false
      → AreOrderly (with_assertion s label ws proof)
  one_asserted label ws proof new = record {
    labels = distinct_more s.labels label o.labels new;
    active = ordered_on s.labels label s.hypotheses o.active;
    asserted =
        All-push (λ (x : Assertion). AreOrdered (s.labels ++ label ∷ []) x.active) s.assertions (asserting s label ws proof)
        (all_on s.labels label s.assertions o.asserted) (ordered_on s.labels label s.hypotheses o.active);
    typed =
        everywhere_asserted (IsTyped (with_assertion s label ws proof)) s label ws proof
        (all_typed s (with_assertion s label ws proof) (λ v k. k) o.typed);
  }

  one_float : (label c v : Word) → is_in s.labels label ≡ false → IsVariable s v → has_float s v ≡ false
      → AreOrderly (with_hypothesis s (typing label c v))
  one_float label c v new is_variable alone =
      let t = with_hypothesis s (typing label c v) in
      record {
        labels = distinct_more s.labels label o.labels new;
        active = ordered_float s.labels label c v s.hypotheses alone o.active;
        asserted = all_on s.labels label s.assertions o.asserted;
        typed = everywhere_more (IsTyped t) s (typing label c v) (all_typed s t (λ v k. k) o.typed) is_variable;
      }

  one_premise : (label : Word) (ws : List Word) → is_in s.labels label ≡ false → AreOrderly (with_hypothesis s (premise label ws))
  one_premise label ws new =
      let t = with_hypothesis s (premise label ws) in
      record {
        labels = distinct_more s.labels label o.labels new;
        active = ordered_premise s.labels label ws s.hypotheses o.active;
        asserted = all_on s.labels label s.assertions o.asserted;
        typed = everywhere_more (IsTyped t) s (premise label ws) (all_typed s t (λ v k. k) o.typed) tt;
      }

nothing_orderly : AreOrderly nothing
nothing_orderly = record {
  labels = tt;
  active = record { within = tt; alone = tt };
  asserted = All-nil (λ (x : Assertion). AreOrdered [] x.active);
  typed = (All-nil (IsTyped nothing), All-nil (λ (x : Assertion). All (IsTyped nothing) x.active));
}

mutual
  stays : (s : Scope) (x : Statement) → AreOrderly s → is_lawful s x ≡ true → AreOrderly (behind s x)
  stays s (constants ws) o h =
      let parts = three_parts s.outermost (nat_le 1 (length ws)) (each_declared a_constant constant_tests s ws) h in
      record {
        labels = o.labels;
        active = o.active;
        asserted = o.asserted;
        typed = all_typed s (behind s (constants ws)) (λ v k. constants_stay s ws v parts.2 k) o.typed;
      }
  stays s (variables ws) o h = record {
    labels = o.labels;
    active = o.active;
    asserted = o.asserted;
    typed = all_typed s (behind s (variables ws)) (λ v k. (any_in_front (bytes_eq v) s.symbols ws k.0, k.1)) o.typed;
  }
  stays s (float label c v) o h =
      let parts = three_parts (is_new_label s label) (passes (type_tests s c)) (passes (float_tests s v)) h in
      let p = float_passed s v parts.2 in
      one_float s o label c v (new_label_apart s label parts.0) p.0 p.1
  stays s (hypothesis label ws) o h =
      one_premise s o label ws (new_label_apart s label (and_parts (is_new_label s label) (is_expression s ws) h).0)
  stays s (distinct vs) o h = record {
    labels = o.labels;
    active = o.active;
    asserted = o.asserted;
    typed = all_typed s (behind s (distinct vs)) (λ v k. k) o.typed;
  }
  stays s (asserted label ws) o h =
      one_asserted s o label ws None (new_label_apart s label (and_parts (is_new_label s label) (is_expression s ws) h).0)
  stays s (proved label ws proof) o h =
      let parts = three_parts (is_new_label s label) (is_expression s ws) (is_lawful_proof s ws proof) h in
      one_asserted s o label ws (Some proof) (new_label_apart s label parts.0)
  stays s (block ss) o h =
      let inner = behind_all (enter s) ss in
      let entered : AreOrderly (enter s) = record {
        labels = o.labels;
        active = o.active;
        asserted = o.asserted;
        typed = all_typed s (enter s) (λ v k. k) o.typed;
      } in
      let p = all_stay (enter s) ss entered h in
      let more = all_extend (enter s) ss in
      record {
        labels = p.labels;
        active =
            ordered_front inner.labels s.hypotheses more.0 (subst (λ hs. AreOrdered inner.labels hs) more.1 p.active);
        asserted = p.asserted;
        typed =
            everywhere_left (IsTyped (leave s inner)) inner s more (all_typed inner (leave s inner) (λ v k. k) p.typed);
      }

  all_stay : (s : Scope) (ss : Statements) → AreOrderly s → are_lawful s ss ≡ true → AreOrderly (behind_all s ss)
  all_stay s none o h = o
  all_stay s (some x xs) o h =
      let both = and_parts (is_lawful s x) (are_lawful (behind s x) xs) h in
      all_stay (behind s x) xs (stays s x o both.0) both.1

-- so it is of each source
pub sources_orderly : (ss : Statements) (s : Scope) → Declares ss s → AreOrderly s
sources_orderly ss s d = subst AreOrderly d.declared (all_stay nothing ss nothing_orderly d.lawful)
