-- What passes a limit of the profile, and that nothing spells it.
use Rattle.std.proofs.Common.{◌≡◌, ℕ, zero, suc, ◌<◌, ◌≤◌, Bool, true, false, ltb, List, [], ◌∷◌, length, get_or, map, Option}
use Rattle.std.proofs.Common.{Some, None, refl, sym, subst, inl, inr, arith}
use Rattle.std.specs.Prelude.{position, IfNone}
use Rattle.std.specs.List.{list_any, position_or_len, AllByRecursion}
use Rattle.std.proofs.lemmas.Bool.{ltb-true, ltb-false, le-ltb, or_from, cases_lt}
use Rattle.std.proofs.lemmas.Grind.{common_steps}
use Rattle.std.proofs.lemmas.List.{get_or-map, get_or_past, length-map}
use Rattle.std.proofs.lemmas.List.Sums.{fails_before_first}
use Rattle.std.proofs.lemmas.List.Elements.{recursion_from_All}
use Rattle.std.proofs.lemmas.List.Quantifiers.{position-Some}
use Rattle.mmsyntax.specs.declared.statement.Symbol.{Symbol}
use Rattle.mmsyntax.specs.declared.statement.Kind.TheVariants.{Axiom}
use Rattle.mmsyntax.specs.declared.statement.Float.{Float}
use Rattle.mmsyntax.specs.declared.statement.Assertion.{Assertion}
use Rattle.mmtext.specs.Words.{Word, has_dot}
use Rattle.mmsyntax.specs.Tables.{Tables, Contents, meaning}
use Rattle.mmsyntax.specs.Layout.{HasSpelling, no_float}
use Rattle.mmsyntax.specs.Assertions.{IsExpression, IsUnit, is_lawful_label}
use Rattle.mmsyntax.specs.Preludes.{IsSymbolWord, IsFloatSound}
use Rattle.mmsyntax.proofs.Distinct.{or_false, all_weaker, all_map}
use Rattle.mmsyntax.proofs.Again.{plain_label}
use Rattle.mmsyntax.proofs.Canonical.{sound_of}
use Rattle.std.specs.Option.{is_some}
use Rattle.drafts.specs.declared.limits.Limit.{Limit}
use Rattle.drafts.specs.declared.limits.Limit.TheVariants.{ManyConstants, ManyVariables, ManyFloats, ManyAssertions}
use Rattle.drafts.specs.declared.limits.Limit.TheVariants.{LongConstant, LongVariable, LongFloat, LongLabel}
use Rattle.drafts.specs.declared.limits.Limit.TheVariants.{ManyHypotheses, ManySymbols, ManyPairs, ManySteps}
use Rattle.drafts.specs.declared.refusal.Refusal.{Refusal}
use Rattle.drafts.specs.declared.refusal.Refusal.TheVariants.{Unlawful as RefusedAsUnlawful, NoMemory as RefusedForMemory}
use Rattle.drafts.specs.Limits.{IsPassed, PassesNone, IsTold, is_long, expressions}
use Rattle.drafts.specs.Refusals.{told_of}

-- ---- the first item that passes a test

-- an assertion, for the place past the end
abbrev pub no_assertion : Assertion
no_assertion = record { label = []; kind = Axiom; pairs = []; hyps = []; statement = []; proof = [] }

pub first_name : (limit : ℕ) (ws : List Word) (i : ℕ) → position (λ w. ltb limit (length w)) ws ≡ Some i → limit < length (get_or ws i [])
first_name limit ws i h =
    let p = position-Some (λ w. ltb limit (length w)) ws i [] h in
    ltb-true limit (length (get_or ws i [])) p.1

module _ {A : Type 0} (d : A) where
  pub first_passes : (test : A → Bool) (xs : List A) (i : ℕ) → position test xs ≡ Some i → get_or (map test xs) i false ≡ true
  first_passes test xs i h =
      let p = position-Some test xs i d h in
      subst (λ (b : Bool). b ≡ true) (sym (get_or-map test xs i d false p.0)) p.1

  pub first_measures : (measure : A → ℕ) (limit : ℕ) (xs : List A) (i : ℕ) → position (λ x. ltb limit (measure x)) xs ≡ Some i
      → limit < get_or (map measure xs) i 0
  first_measures measure limit xs i h =
      let p = position-Some (λ x. ltb limit (measure x)) xs i d h in
      let over : limit < measure (get_or xs i d) = ltb-true limit (measure (get_or xs i d)) p.1 in
      subst (λ (n : ℕ). limit < n) (sym (get_or-map measure xs i d 0 p.0)) over

  pub first_named : (name : A → Word) (limit : ℕ) (xs : List A) (i : ℕ) → position (λ x. ltb limit (length (name x))) xs ≡ Some i
      → limit < length (get_or (map name xs) i [])
  first_named name limit xs i h =
      let p = position-Some (λ x. ltb limit (length (name x))) xs i d h in
      let over : limit < length (name (get_or xs i d)) = ltb-true limit (length (name (get_or xs i d))) p.1 in
      subst (λ (w : Word). limit < length w) (sym (get_or-map name xs i d [] p.0)) over

-- ---- what is spelled passes no limit

-- what holds of each item, and of what is read past the end, holds at each place
at_or : {A : Type 0} (P : A → Type 0) (xs : List A) (i : ℕ) (d : A) → P d → AllByRecursion P xs → P (get_or xs i d)
at_or P [] i d p h = p
at_or P (x ∷ xs) zero d p h = h.0
at_or P (x ∷ xs) (suc i) d p h = at_or P xs i d p h.1

none_passes : {A : Type 0} (P : A → Type 0) (test : A → Bool) (xs : List A) → ((x : A) → P x → test x ≡ false) → AllByRecursion P xs
    → list_any test xs ≡ false
none_passes P test [] f h = refl
none_passes P test (x ∷ xs) f h = or_from (test x) (list_any test xs) (f x h.0) (none_passes P test xs f h.1)

abbrev IsShort : Word → Type 0
IsShort w = length w ≤ 255

short : (w : Word) → ltb 255 (length w) ≡ false → IsShort w
short w h = ltb-false 255 (length w) h

short_label : (t : Tables) (f : Float) → IsFloatSound t f → IsShort f.label
short_label t f s = short f.label (or_false (has_dot f.label) (ltb 255 (length f.label)) s.label.plain).1

not_long : (t : Tables) (e : List Symbol) → IsExpression t e → is_long e ≡ false
not_long t e x = le-ltb 65535 (length e) x.short

short_expressions : (t : Tables) (a : Assertion) → IsUnit t a → list_any is_long (expressions a) ≡ false
short_expressions t a u =
    none_passes (IsExpression t) is_long (expressions a) (not_long t)
    (u.fits.statement, recursion_from_All (IsExpression t) a.hyps u.fits.hyps)

few : (n limit : ℕ) → limit < n → n ≤ limit → ⊥
few n limit over fits = omega arith

pub unspelled : (c : Contents) (limit : Limit) → IsPassed c limit → HasSpelling c → ⊥
unspelled c (ManyConstants n) p h = omega (arith, p.0, p.1, (sound_of c h).tables.constants_fit)
unspelled c (ManyVariables n) p h = omega (arith, p.0, p.1, (sound_of c h).tables.variables_fit)
unspelled c (ManyFloats n) p h = omega (arith, p.0, p.1, (sound_of c h).tables.floats_fit)
unspelled c (ManyAssertions n) p h = omega (arith, p.0, p.1, (sound_of c h).few)
unspelled c (LongConstant i) p h =
    let ws = c.prelude.constants in
    let all = all_weaker IsSymbolWord IsShort ws (λ w s. short w s.short) (sound_of c h).tables.constants_sound in
    few (length (get_or ws i [])) 255 p (at_or IsShort ws i [] (omega arith) all)
unspelled c (LongVariable i) p h =
    let ws = c.prelude.variables in
    let all = all_weaker IsSymbolWord IsShort ws (λ w s. short w s.short) (sound_of c h).tables.variables_sound in
    few (length (get_or ws i [])) 255 p (at_or IsShort ws i [] (omega arith) all)
unspelled c (LongFloat i) p h =
    let t = c.prelude in
    let ws = map (λ (f : Float). f.label) t.floats in
    let all = all_map (IsFloatSound t) IsShort (λ f. f.label) t.floats (short_label t) (sound_of c h).tables.floats_sound in
    few (length (get_or ws i [])) 255 p (at_or IsShort ws i [] (omega arith) all)
unspelled c (LongLabel i) p h =
    let t = c.prelude in
    let measure : Assertion → ℕ = λ a. length a.label in
    let lawful = λ (a : Assertion). is_lawful_label t a.label ≡ true in
    let all = all_map lawful (λ n. n ≤ 255) measure c.assertions
    (λ a l. (plain_label a.label (is_some (meaning t a.label)) l).short) (sound_of c h).lawful in
    few (get_or (map measure c.assertions) i 0) 255 p (at_or (λ n. n ≤ 255) (map measure c.assertions) i 0 (omega arith) all)
unspelled c (ManyHypotheses i) p h =
    let t = c.prelude in
    let measure : Assertion → ℕ = λ a. length a.hyps in
    let all = all_map (IsUnit t) (λ n. n ≤ 1000) measure c.assertions (λ a u. u.fits.few_hyps) (sound_of c h).units in
    few (get_or (map measure c.assertions) i 0) 1000 p (at_or (λ n. n ≤ 1000) (map measure c.assertions) i 0 (omega arith) all)
unspelled c (ManySymbols i) p h =
    let t = c.prelude in
    let test : Assertion → Bool = λ a. list_any is_long (expressions a) in
    let all = all_map (IsUnit t) (λ b. b ≡ false) test c.assertions (short_expressions t) (sound_of c h).units in
    let no : get_or (map test c.assertions) i false ≡ false = at_or (λ b. b ≡ false) (map test c.assertions) i false refl all in
    cc
unspelled c (ManyPairs i) p h =
    let t = c.prelude in
    let measure : Assertion → ℕ = λ a. length a.pairs in
    let all = all_map (IsUnit t) (λ n. n ≤ 65535) measure c.assertions (λ a u. u.fits.few_pairs) (sound_of c h).units in
    few (get_or (map measure c.assertions) i 0) 65535 p (at_or (λ n. n ≤ 65535) (map measure c.assertions) i 0 (omega arith) all)
unspelled c (ManySteps i) p h =
    let t = c.prelude in
    let measure : Assertion → ℕ = λ a. length a.proof in
    let all = all_map (IsUnit t) (λ n. n ≤ 16384) measure c.assertions (λ a u. u.fits.few_steps) (sound_of c h).units in
    few (get_or (map measure c.assertions) i 0) 16384 p (at_or (λ n. n ≤ 16384) (map measure c.assertions) i 0 (omega arith) all)

-- ---- where no first item passes, no limit is passed

none_read : {A : Type 0} (test : A → Bool) (xs : List A) (i : ℕ) (d : A) → test d ≡ false → position test xs ≡ None
    → test (get_or xs i d) ≡ false
none_read {A} test xs i d h none =
    let past : length xs ≤ position_or_len test xs = grind (arith, common_steps) in
    elim (cases_lt i (length xs)) [
      | inl lt ↦ fails_before_first test xs i d (omega arith)
      | inr ge ↦ subst (λ (x : A). test x ≡ false) (sym (get_or_past xs i d ge)) h
    ]

none_mapped : {A B : Type 0} (f : A → B) (test : B → Bool) (xs : List A) (i : ℕ) (d : A) (e : B) → test e ≡ false → test (f d) ≡ false
    → position (λ x. test (f x)) xs ≡ None → test (get_or (map f xs) i e) ≡ false
none_mapped {A} {B} f test xs i d e h g none =
    elim (cases_lt i (length xs)) [
      | inl lt ↦ subst (λ (x : B). test x ≡ false) (sym (get_or-map f xs i d e lt)) (none_read (λ x. test (f x)) xs i d g none)
      | inr ge ↦ subst (λ (x : B). test x ≡ false) (sym (get_or_past (map f xs) i e (omega (arith, length-map xs f)))) h
    ]

not_over : (limit n : ℕ) → ltb limit n ≡ false → limit < n → ⊥
not_over limit n h over = few n limit over (ltb-false limit n h)

pub record PassNone (c : Contents) : Type 0 where
  pub constants : length c.prelude.constants ≤ 65535
  pub variables : length c.prelude.variables ≤ 65535
  pub floats : length c.prelude.floats ≤ 65535
  pub assertions : length c.assertions ≤ 4096
  pub constant_names : position (λ w. ltb 255 (length w)) c.prelude.constants ≡ None
  pub variable_names : position (λ w. ltb 255 (length w)) c.prelude.variables ≡ None
  pub float_labels : position (λ f. ltb 255 (length f.label)) c.prelude.floats ≡ None
  pub labels : position (λ a. ltb 255 (length a.label)) c.assertions ≡ None
  pub hyps : position (λ a. ltb 1000 (length a.hyps)) c.assertions ≡ None
  pub symbols : position (λ a. list_any is_long (expressions a)) c.assertions ≡ None
  pub pairs : position (λ a. ltb 65535 (length a.pairs)) c.assertions ≡ None
  pub steps : position (λ a. ltb 16384 (length a.proof)) c.assertions ≡ None

module _ (c : Contents) where
  measured_none : (measure : Assertion → ℕ) (limit i : ℕ) → ltb limit 0 ≡ false → ltb limit (measure no_assertion) ≡ false
      → position (λ a. ltb limit (measure a)) c.assertions ≡ None → limit < get_or (map measure c.assertions) i 0 → ⊥
  measured_none measure limit i h g none =
      not_over limit (get_or (map measure c.assertions) i 0) (none_mapped measure (ltb limit) c.assertions i no_assertion 0 h g none)

  named_none : (ws : List Word) (i : ℕ) → position (λ w. ltb 255 (length w)) ws ≡ None → 255 < length (get_or ws i []) → ⊥
  named_none ws i none = not_over 255 (length (get_or ws i [])) (none_read (λ w. ltb 255 (length w)) ws i [] refl none)

  pub none_passed : PassNone c → PassesNone c
  none_passed n (ManyConstants m) p = omega (arith, p.0, p.1, n.constants)
  none_passed n (ManyVariables m) p = omega (arith, p.0, p.1, n.variables)
  none_passed n (ManyFloats m) p = omega (arith, p.0, p.1, n.floats)
  none_passed n (ManyAssertions m) p = omega (arith, p.0, p.1, n.assertions)
  none_passed n (LongConstant i) p = named_none c.prelude.constants i n.constant_names p
  none_passed n (LongVariable i) p = named_none c.prelude.variables i n.variable_names p
  none_passed n (LongFloat i) p =
      let fs = c.prelude.floats in
      let label : Float → Word = λ f. f.label in
      not_over 255 (length (get_or (map label fs) i []))
      (none_mapped label (λ w. ltb 255 (length w)) fs i no_float [] refl refl n.float_labels) p
  none_passed n (LongLabel i) p = measured_none (λ a. length a.label) 255 i refl refl n.labels p
  none_passed n (ManyHypotheses i) p = measured_none (λ a. length a.hyps) 1000 i refl refl n.hyps p
  none_passed n (ManySymbols i) p =
      let test : Assertion → Bool = λ a. list_any is_long (expressions a) in
      let no : get_or (map test c.assertions) i false ≡ false =
      none_mapped test (λ b. b) c.assertions i no_assertion false refl refl n.symbols in
      cc
  none_passed n (ManyPairs i) p = measured_none (λ a. length a.pairs) 65535 i refl refl n.pairs p
  none_passed n (ManySteps i) p = measured_none (λ a. length a.proof) 16384 i refl refl n.steps p

-- what four clauses on no value say together
pub if_all_none : {X P Q R S T : Type 0} (r : Option X) → (P → Q → R → S → T)
    → IfNone r P → IfNone r Q → IfNone r R → IfNone r S → IfNone r T
if_all_none None f p q r s = f p q r s
if_all_none (Some x) f p q r s = tt

-- of a refusal no limit is told, where none is passed
pub refusal_told : (c : Contents) (r : Refusal) → PassesNone c → IsTold c (told_of r)
refusal_told c RefusedAsUnlawful none = none
refusal_told c RefusedForMemory none = tt
