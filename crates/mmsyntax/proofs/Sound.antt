-- What is true of all that statements of a prelude declare.
use Rattle.std.proofs.Common.{◌≡◌, ℕ, ◌+◌, ◌<◌, ◌≤◌, Bool, true, false, cond, eqb, List, [], ◌∷◌, ◌++◌, length, Option, Some, None}
use Rattle.std.proofs.Common.{Result, Ok, Err, refl, sym, ap, subst, ◌∙◌, arith, append_assoc, length-append, leb-false}
use Rattle.std.specs.Prelude.{◌||◌, is_some, IsTrue, nat_lt}
use Rattle.std.specs.List.{list_any, AllByRecursion}
use Rattle.std.specs.Str.{bytes_eq}
use Rattle.std.proofs.lemmas.List.{append-nil, map-append}
use Rattle.mmsyntax.specs.declared.statement.Float.{Float}
use Rattle.mmsyntax.specs.declared.statement.Assertion.{Assertion}
use Rattle.mmsyntax.specs.declared.symbols.Name.{Name}
use Rattle.mmsyntax.specs.declared.symbols.Name.TheVariants.{Constant, Variable, Label}
use Rattle.mmtext.specs.declared.fault.FaultKind.{FaultKind}
use Rattle.mmtext.specs.Words.{Word, has_dollar, has_dot, is_label, has_hypothesis_form}
use Rattle.mmsyntax.specs.Tables.{Tables, place_of, float_of, named, meaning}
use Rattle.mmsyntax.specs.Rows.{Known, no_units, nothing, in_prelude, clashes, Pass, symbol_tests, float_label_tests, assertion_label_tests}
use Rattle.mmsyntax.specs.Rows.{type_named, type_of, variable_named, variable_of, with_constant, with_variable, with_float}
use Rattle.mmsyntax.specs.Rows.{with_hypothesis_label, with_assertion}
use Rattle.mmsyntax.specs.Grammar.{DeclaresConstants, DeclaresVariables}
pub use Rattle.mmsyntax.specs.Preludes.{IsSymbolWord, IsLabelWord, IsFloatSound, AreSound, variables_used}
use Rattle.mmsyntax.specs.Assertions.{Distinct, IsUnit, is_lawful_label}
use Rattle.mmsyntax.specs.Dotted.{clash, ClashNowhere}
use Rattle.mmsyntax.proofs.Names.{place_of-at, variable_from_named, bytes_eq-sym}
use Rattle.mmsyntax.proofs.Distinct.{distinct_insert, float_labels, labels_of, prelude_names, is_some-meaning, is_some-place_of, IsNew}
use Rattle.mmsyntax.proofs.Distinct.{new_word, any-map, all_push, all_weaker}
use Rattle.mmsyntax.proofs.Apart.{apart_nil, apart_behind}
use Rattle.mmsyntax.proofs.Lines.{IsWord}

-- the tables alone
abbrev pub bare : Tables → Known
bare t = record { tables = t; units = no_units false }

-- sound tables and the assertions: what stands in the middle of a text is known of them, whatever the labels of $e are
pub record IsSound (k : Known) : Type 0 where
  pub tables : AreSound k.tables
  pub units : AllByRecursion (IsUnit k.tables) k.units.assertions
  pub lawful : AllByRecursion (λ a. IsTrue (is_lawful_label k.tables a.label)) k.units.assertions
  pub distinct : Distinct bytes_eq (labels_of k.units.assertions)
  pub apart : ClashNowhere (labels_of k.units.assertions)
  pub few : length k.units.assertions ≤ 4096
  pub unclosed : IsTrue (in_prelude k) → k.units.assertions ≡ []

pub nothing_sound : IsSound nothing
nothing_sound = record {
  tables = record {
    distinct = tt;
    constants_sound = tt;
    variables_sound = tt;
    floats_sound = tt;
    apart = tt;
    constants_fit =
        omega arith;
    variables_fit = omega arith;
    floats_fit = omega arith;
  };
  units = tt;
  lawful = tt;
  distinct = tt;
  apart = apart_nil;
  few = omega arith;
  unclosed = λ _. refl;
}

-- sound tables with no assertion
pub alone_sound : (t : Tables) (closed : Bool) → AreSound t → IsSound (record { tables = t; units = no_units closed })
alone_sound t closed s =
    record { tables = s; units = tt; lawful = tt; distinct = tt; apart = apart_nil; few = omega arith; unclosed = λ _. refl }

-- ---- what passing tests say

pub cond_none : (b : Bool) (kind : FaultKind) (o : Option FaultKind) → cond b (Some kind) o ≡ None → (b ≡ false) × (o ≡ None)
cond_none true kind o h = absurd cc
cond_none false kind o h = (refl, h)

pub record SymbolPasses (k : Known) (n : ℕ) (w : Word) : Type 0 where
  pub no_dollar : has_dollar w ≡ false
  pub short : nat_lt 255 (length w) ≡ false
  pub form : has_hypothesis_form w ≡ false
  pub new : IsNew k w
  pub room : n < 65535

pub symbol_passes : (k : Known) (n : ℕ) (w : Word) → Pass (symbol_tests k n w) → SymbolPasses k n w
symbol_passes k n w h =
    let a = cond_none _ _ _ h in
    let b = cond_none _ _ _ a.1 in
    let c = cond_none _ _ _ b.1 in
    let d = cond_none _ _ _ c.1 in
    let e = cond_none _ _ _ d.1 in
    record { no_dollar = a.0; short = b.0; form = c.0; new = new_word k w d.0; room = leb-false 65535 n e.0 }

record FloatLabelPasses (k : Known) (w : Word) : Type 0 where
  plain : (has_dot w || nat_lt 255 (length w)) ≡ false
  new : IsNew k w
  room : length k.tables.floats < 65535

float_label_passes : (k : Known) (w : Word) → Pass (float_label_tests k w) → FloatLabelPasses k w
float_label_passes k w h =
    let a = cond_none _ _ _ h in
    let b = cond_none _ _ _ a.1 in
    let c = cond_none _ _ _ b.1 in
    record { plain = a.0; new = new_word k w b.0; room = leb-false 65535 (length k.tables.floats) c.0 }

pub record AssertionLabelPasses (k : Known) (w : Word) : Type 0 where
  pub short : nat_lt 255 (length w) ≡ false
  pub new : IsNew k w
  pub clear : clashes k.units.assertions w ≡ false
  pub room : length k.units.assertions < 4096

pub assertion_label_passes : (k : Known) (w : Word) → Pass (assertion_label_tests k w) → AssertionLabelPasses k w
assertion_label_passes k w h =
    let a = cond_none _ _ _ h in
    let b = cond_none _ _ _ a.1 in
    let c = cond_none _ _ _ b.1 in
    let d = cond_none _ _ _ c.1 in
    record { short = a.0; new = new_word k w b.0; clear = c.0; room = leb-false 4096 (length k.units.assertions) d.0 }

-- ---- names stay different

new_name : (t : Tables) (a b : List Word) (w : Word) → Distinct bytes_eq (prelude_names t) → is_some (meaning t w) ≡ false
    → prelude_names t ≡ a ++ b → Distinct bytes_eq (a ++ w ∷ b)
new_name t a b w d new e = distinct_insert bytes_eq bytes_eq-sym a b w (subst (Distinct bytes_eq) e d)
    (subst (λ ns. list_any (bytes_eq w) ns ≡ false) e (sym (is_some-meaning t w) ∙ new))

grow_float : (t u : Tables) (fs : List Float) → length t.constants ≤ length u.constants → length t.variables ≤ length u.variables
    → AllByRecursion (IsFloatSound t) fs → AllByRecursion (IsFloatSound u) fs
grow_float t u fs c v h = all_weaker (IsFloatSound t) (IsFloatSound u) fs
    (λ f s. record {
      label = s.label;
      type_within = let lt : f.type_code < length t.constants = s.type_within in
          omega arith;
      variable_within = let lt : f.variable < length t.variables = s.variable_within in omega arith;
    }) h

more : (ws : List Word) (w : Word) → length (ws ++ w ∷ []) ≡ length ws + 1
more ws w = length-append ws (w ∷ [])

-- other tables, where no assertion stands yet
with_tables : (k : Known) (t : Tables) → IsTrue (in_prelude k) → IsSound k → AreSound t → IsSound (record k { tables = t })
with_tables k t opens s now =
    let none = s.unclosed opens in
    record {
      tables = now;
      units = subst (AllByRecursion (IsUnit t)) (sym none) tt;
      lawful = subst (AllByRecursion (λ a. IsTrue (is_lawful_label t a.label))) (sym none) tt;
      distinct = s.distinct;
      apart = s.apart;
      few = s.few;
      unclosed = s.unclosed;
    }

constant_sound : (k : Known) (w : Word) → IsTrue (in_prelude k) → IsSound k → IsWord w → Pass (symbol_tests k (length k.tables.constants) w)
    → IsSound (with_constant k w)
constant_sound k w opens sound is_word pass =
    let s = sound.tables in
    let t = k.tables in
    let p = symbol_passes k (length t.constants) w pass in
    let after = record t { constants = t.constants ++ w ∷ [] } in
    let later = t.variables ++ float_labels t.floats in
    with_tables k after opens sound (record {
      distinct = subst (Distinct bytes_eq) (sym (append_assoc t.constants (w ∷ []) later))
          (new_name t t.constants later w s.distinct p.new.not_named refl);
      constants_sound = all_push IsSymbolWord t.constants w s.constants_sound
          (record { no_dollar = p.no_dollar; short = p.short; form = p.form; word = is_word });
      variables_sound = s.variables_sound;
      floats_sound = grow_float t after t.floats (omega (arith, more t.constants w)) (omega arith) s.floats_sound;
      apart = s.apart;
      constants_fit = let r : length t.constants < 65535 = p.room in omega (arith, more t.constants w);
      variables_fit = s.variables_fit;
      floats_fit = s.floats_fit;
    })

variable_sound : (k : Known) (w : Word) → IsTrue (in_prelude k) → IsSound k → IsWord w → Pass (symbol_tests k (length k.tables.variables) w)
    → IsSound (with_variable k w)
variable_sound k w opens sound is_word pass =
    let s = sound.tables in
    let t = k.tables in
    let p = symbol_passes k (length t.variables) w pass in
    let after = record t { variables = t.variables ++ w ∷ [] } in
    let cs = t.constants in
    let vs = t.variables in
    let later = float_labels t.floats in
    with_tables k after opens sound (record {
      distinct = subst (Distinct bytes_eq) (append_assoc cs vs (w ∷ later) ∙ ap (λ x. cs ++ x) (sym (append_assoc vs (w ∷ []) later)))
          (new_name t (cs ++ vs) later w s.distinct p.new.not_named (sym (append_assoc cs vs later)));
      constants_sound = s.constants_sound;
      variables_sound = all_push IsSymbolWord vs w s.variables_sound
          (record { no_dollar = p.no_dollar; short = p.short; form = p.form; word = is_word });
      floats_sound = grow_float t after t.floats (omega arith) (omega (arith, more vs w)) s.floats_sound;
      apart = s.apart;
      constants_fit = s.constants_fit;
      variables_fit = let r : length vs < 65535 = p.room in omega (arith, more vs w);
      floats_fit = s.floats_fit;
    })

pub constants_all : (k : Known) (ws : List Word) (after : Known) → IsTrue (in_prelude k) → IsSound k → AllByRecursion IsWord ws
    → DeclaresConstants k ws after → IsSound after
constants_all k [] after opens s h d = subst IsSound d s
constants_all k (w ∷ ws) after opens s h d = constants_all (with_constant k w) ws after opens (constant_sound k w opens s h.0 d.0) h.1 d.1

pub variables_all : (k : Known) (ws : List Word) (after : Known) → IsTrue (in_prelude k) → IsSound k → AllByRecursion IsWord ws
    → DeclaresVariables k ws after → IsSound after
variables_all k [] after opens s h d = subst IsSound d s
variables_all k (w ∷ ws) after opens s h d = variables_all (with_variable k w) ws after opens (variable_sound k w opens s h.0 d.0) h.1 d.1

-- ---- $f

constant_from_type : (fs : List Float) (c v l : Option ℕ) (i : ℕ) → type_named (named fs c v l) ≡ Ok i → c ≡ Some i
constant_from_type fs (Some j) v l i h = ap (λ k. Some k) (let e : j ≡ i = cc in e)
constant_from_type fs None (Some j) l i h = absurd cc
constant_from_type fs None None (Some j) i h = absurd cc
constant_from_type fs None None None i h = absurd cc

pub if_ok : {A : Type 0} (b : Bool) (d : FaultKind) (r : Result A FaultKind) (x : A) → cond b (Err d) r ≡ Ok x → (b ≡ false) × (r ≡ Ok x)
if_ok true d r x h = absurd cc
if_ok false d r x h = (refl, h)

type_place : (t : Tables) (w : Word) (i : ℕ) → type_of t w ≡ Ok i → place_of (bytes_eq w) t.constants ≡ Some i
unfolding type_of meaning
type_place t w i h = constant_from_type t.floats _ _ _ i (if_ok (has_dollar w) _ _ i h).1

pub free_variable : (o : Option Name) (i : ℕ) → variable_named o ≡ Ok i → o ≡ Some (Variable i None)
free_variable None i h = absurd cc
free_variable (Some (Constant j)) i h = absurd cc
free_variable (Some (Variable j None)) i h = ap (λ k. Some (Variable k None)) (let e : j ≡ i = cc in e)
free_variable (Some (Variable j (Some k))) i h = absurd cc
free_variable (Some (Label j)) i h = absurd cc

variable_place : (t : Tables) (w : Word) (v : ℕ) → variable_of t w ≡ Ok v
    → (place_of (bytes_eq w) t.constants ≡ None) × (place_of (bytes_eq w) t.variables ≡ Some v) × (float_of t.floats v ≡ None)
unfolding variable_of meaning
variable_place t w v h = variable_from_named t.floats _ _ _ v None (free_variable _ v (if_ok (has_dollar w) _ _ v h).1)

not_some : (o : Option ℕ) → o ≡ None → is_some o ≡ false
not_some o h = ap is_some h

pub eqb-sym : (a b : ℕ) → eqb a b ≡ eqb b a
eqb-sym a b = grind arith

pub any_swap : (fs : List Float) (v : ℕ) → list_any (λ f. eqb f.variable v) fs ≡ list_any (eqb v) (variables_used fs)
any_swap [] v = refl
any_swap (f ∷ fs) v = ap (λ b. b || list_any (λ f. eqb f.variable v) fs) (eqb-sym f.variable v)
    ∙ ap (λ b. eqb v f.variable || b) (any_swap fs v)

float_absent : (fs : List Float) (v : ℕ) → float_of fs v ≡ None → list_any (eqb v) (variables_used fs) ≡ false
float_absent fs v h = sym (any_swap fs v) ∙ sym (is_some-place_of (λ f. eqb f.variable v) fs) ∙ not_some (float_of fs v) h

pub float_sound : (k after : Known) (label c v : Word) (i j : ℕ) → IsTrue (in_prelude k) → IsSound k → IsWord label
    → IsTrue (is_label label) → Pass (float_label_tests k label) → type_of k.tables c ≡ Ok i → variable_of k.tables v ≡ Ok j
    → with_float k label i j ≡ after → IsSound after
float_sound k after label c v i j opens sound is_word is_l pass ty va whole =
    let s = sound.tables in
    let t = k.tables in
    let p = float_label_passes k label pass in
    let f : Float = record { label = label; type_code = i; variable = j } in
    let fs = t.floats in
    let cs = t.constants in
    let vs = t.variables in
    let now = record t { floats = fs ++ f ∷ [] } in
    let place = variable_place t v j va in
    let it = place_of-at (bytes_eq c) cs i [] (type_place t c i ty) in
    let iv = place_of-at (bytes_eq v) vs j [] place.1 in
    let same : AllByRecursion (IsFloatSound now) fs = grow_float t now fs (omega arith) (omega arith) s.floats_sound in
    let spelled : prelude_names now ≡ (cs ++ (vs ++ float_labels fs)) ++ label ∷ [] =
    ap (λ l. cs ++ (vs ++ l)) (map-append (λ g. g.label) fs (f ∷ []))
    ∙ ap (λ l. cs ++ l) (sym (append_assoc vs (float_labels fs) (label ∷ [])))
    ∙ sym (append_assoc cs (vs ++ float_labels fs) (label ∷ [])) in
    subst IsSound whole (with_tables k now opens sound (record {
      distinct = subst (Distinct bytes_eq) (sym spelled)
          (new_name t (prelude_names t) [] label s.distinct p.new.not_named (sym (append-nil (prelude_names t))));
      constants_sound = s.constants_sound;
      variables_sound = s.variables_sound;
      floats_sound = all_push (IsFloatSound now) fs f same
          (record { label = record { label = is_l; plain = p.plain; word = is_word }; type_within = it.0; variable_within = iv.0 });
      apart = subst (Distinct eqb) (sym (map-append (λ g. g.variable) fs (f ∷ [])))
          (distinct_insert eqb eqb-sym (variables_used fs) [] j (subst (Distinct eqb) (sym (append-nil (variables_used fs))) s.apart)
          (ap (list_any (eqb j)) (append-nil (variables_used fs)) ∙ float_absent fs j place.2));
      constants_fit = s.constants_fit;
      variables_fit = s.variables_fit;
      floats_fit = let r : length fs < 65535 = p.room in omega (arith, length-append fs (f ∷ []));
    }))

-- ---- $e, $a and $p

pub hypothesis_sound : (k : Known) (w : Word) → IsSound k → IsSound (with_hypothesis_label k w)
hypothesis_sound k w s = record {
  tables = s.tables;
  units = s.units;
  lawful = s.lawful;
  distinct = s.distinct;
  apart = s.apart;
  few = s.few;
  unclosed = s.unclosed;
}

pub assertion_sound : (k : Known) (a : Assertion) → IsSound k → IsUnit k.tables a → IsTrue (is_lawful_label k.tables a.label)
    → AssertionLabelPasses k a.label → IsSound (with_assertion k a)
assertion_sound k a s unit lawful p =
    let xs = k.units.assertions in
    let ls = labels_of xs in
    let behind : labels_of (xs ++ a ∷ []) ≡ ls ++ a.label ∷ [] = map-append (λ x. x.label) xs (a ∷ []) in
    record {
      tables = s.tables;
      units = all_push (IsUnit k.tables) xs a s.units unit;
      lawful = all_push (λ x. IsTrue (is_lawful_label k.tables x.label)) xs a s.lawful lawful;
      distinct = subst (Distinct bytes_eq) (sym behind)
          (distinct_insert bytes_eq bytes_eq-sym ls [] a.label (subst (Distinct bytes_eq) (sym (append-nil ls)) s.distinct)
          (ap (list_any (bytes_eq a.label)) (append-nil ls) ∙ p.new.not_label));
      apart = subst ClashNowhere (sym behind)
          (apart_behind ls a.label (any-map (λ l. clash l a.label) (λ x. x.label) xs ∙ p.clear) s.apart);
      few = let room : length xs < 4096 = p.room in omega (arith, length-append xs (a ∷ []));
      unclosed = λ h. absurd cc;
    }
