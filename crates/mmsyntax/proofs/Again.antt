-- The words of symbols, of pairs and of steps are read as these again.
use Rattle.std.proofs.Common.{◌≡◌, ◌≢◌, ℕ, zero, suc, ◌^◌, ◌<◌, ◌≤◌, Bool, true, false, cond, eqb, leb, ltb, List, [], ◌∷◌, ◌++◌, length}
use Rattle.std.proofs.Common.{get_or, drop, map, Option, Some, None, Ok, Err, refl, sym, ap, subst, ◌∙◌, inl, inr, arith, append_assoc}
use Rattle.std.proofs.Common.{Result, length-append}
use Rattle.std.specs.Prelude.{◌||◌, ◌&&◌, is_some, codes}
use mathlib.Core.Bool.{not}
use Rattle.std.specs.List.{list_any, AllByRecursion}
use Rattle.std.specs.Option.{option_map}
use Rattle.std.specs.Str.{bytes_eq}
use Rattle.std.proofs.lemmas.Bool.{cases_Bool, cond-true, cond-false, eqb-true, lt-leb, le-ltb, or_parts, not-true, or_from}
use Rattle.std.proofs.lemmas.Bool.Decides.{nat_tests}
use Rattle.std.proofs.lemmas.List.{append-nil, get_or-map, length-map}
use Rattle.std.proofs.lemmas.List.Elements.{All-from_recursion, recursion_from_All}
use Rattle.std.proofs.lemmas.List.Folds.{list_any-append}
use Rattle.mmsyntax.specs.declared.statement.Symbol.{Symbol}
use Rattle.mmsyntax.specs.declared.statement.Symbol.TheVariants.{Const, Var}
use Rattle.mmsyntax.specs.declared.statement.Step.{Step}
use Rattle.mmsyntax.specs.declared.statement.Step.TheVariants.{Float as FloatStep, Hyp, Cite}
use Rattle.mmsyntax.specs.declared.statement.Float.{Float}
use Rattle.mmsyntax.specs.declared.symbols.Name.TheVariants.{Constant, Variable, Label}
use Rattle.mmtext.specs.declared.fault.FaultKind.{FaultKind}
use Rattle.mmtext.specs.declared.fault.FaultKind.TheVariants.{BadToken, BadLabel, LabelClashes, OutOfProfile, TooLong}
use Rattle.mmtext.specs.Words.{Word, has_dollar, has_dot, is_label, has_hypothesis_form}
use Rattle.mmsyntax.specs.Tables.{Tables, place_of, float_of, named, meaning}
use Rattle.mmsyntax.specs.Rows.{symbol_named, unless_full, symbol_of, first_fault}
use Rattle.mmsyntax.specs.Blocks.{Hypothesis, with_pair, in_order, typed_named, unless_repeated, distinct_of}
use Rattle.mmsyntax.specs.Steps.{step_tests, float_named, hypothesis_named, step_named, unless_faulty, step_of}
use Rattle.mmsyntax.specs.Grammar.{ReadsAfter, Restricts, StepsAfter}
use Rattle.mmsyntax.specs.Layout.{word_at, no_float, float_at, symbol_word, hypothesis_label, step_word}
use Rattle.mmsyntax.specs.Assertions.{IsSymbolOf, BeginsWithConstant, IsExpression, IsPairOf, AreAscending, IsNameable, Distinct}
use Rattle.mmsyntax.specs.Assertions.{CitesApart}
use Rattle.mmsyntax.specs.Preludes.{IsWord, IsSymbolWord, IsFloatSound, AreSound, variables_used}
use Rattle.mmsyntax.specs.Dotted.{is_dotted}
use Rattle.mmtext.proofs.Marks.{label_plain}
use Rattle.mmsyntax.proofs.Distinct.{any_at, any-map, cross, place_of-item, place_of-absent, distinct_left, distinct_right, float_labels}
use Rattle.mmsyntax.proofs.Distinct.{is_some-meaning, none_of, all_map}
use Rattle.mmsyntax.proofs.Pairs.{next_pair}
use Rattle.mmsyntax.proofs.Numbered.{differ, label_bytes, number_label, number_dot, number_form}
use Rattle.mmsyntax.proofs.Options.{none_is}

-- ---- in general

pub none_cond : (b : Bool) (kind : FaultKind) (o : Option FaultKind) → b ≡ false → o ≡ None → cond b (Some kind) o ≡ None
none_cond b kind o h g = cond-false b (Some kind) o h ∙ g

pub plain_at : (ws : List Word) (i : ℕ) → AllByRecursion IsSymbolWord ws → i < length ws → IsSymbolWord (get_or ws i [])
plain_at [] i h lt = absurd (omega arith)
plain_at (w ∷ ws) zero h lt = h.0
plain_at (w ∷ ws) (suc i) h lt = plain_at ws i h.1 (omega arith)

place_of-map : {A : Type 0} (p : Word → Bool) (f : A → Word) (xs : List A) → place_of p (map f xs) ≡ place_of (λ x. p (f x)) xs
place_of-map p f [] = refl
place_of-map p f (x ∷ xs) = ap (λ o. cond (p (f x)) (Some 0) (option_map (λ n. suc n) o)) (place_of-map p f xs)

-- the $f of a variable is found at its place
float_of-item : (fs : List Float) (j : ℕ) → Distinct eqb (variables_used fs) → j < length fs → float_of fs (float_at fs j).variable ≡ Some j
float_of-item [] j d lt = absurd (omega arith)
float_of-item (f ∷ fs) zero d lt = cond-true (eqb f.variable f.variable) (Some 0) _ (same f.variable)
  where
    same : (n : ℕ) → eqb n n ≡ true
    same n = grind (arith, nat_tests)
float_of-item (f ∷ fs) (suc j) d lt =
    let v = (float_at fs j).variable in
    let other = sym (any-map (eqb f.variable) (λ g. g.variable) fs) ∙ d.0 in
    cond-false (eqb f.variable v) (Some 0) (option_map (λ n. suc n) (float_of fs v))
    (any_at (λ g. eqb f.variable g.variable) fs j no_float other (omega arith))
    ∙ ap (λ o. option_map (λ n. suc n) o) (float_of-item fs j d.1 (omega arith))

-- what four tests of a label say
pub record IsPlainLabel (w : Word) (is_named : Bool) : Type 0 where
  pub some : w ≢ []
  pub short : length w ≤ 255
  pub label : is_label w ≡ true
  pub new : is_named ≡ false

four_true : (a b c d : Bool) → (a && b && c && d) ≡ true → (a ≡ true) × (b ≡ true) × (c ≡ true) × (d ≡ true)
four_true true true true true h = (refl, refl, refl, refl)
four_true true true true false h = absurd cc
four_true true true false d h = absurd cc
four_true true false c d h = absurd cc
four_true false b c d h = absurd cc

not_empty : (w : Word) → leb 1 (length w) ≡ true → w ≢ []
not_empty [] h = absurd cc
not_empty (b ∷ bs) h = λ e. absurd cc

pub plain_label : (w : Word) (is_named : Bool) → (leb 1 (length w) && leb (length w) 255 && is_label w && not is_named) ≡ true
    → IsPlainLabel w is_named
plain_label w is_named h =
    let p = four_true (leb 1 (length w)) (leb (length w) 255) (is_label w) (not is_named) h in
    record { some = not_empty w p.0; short = le (length w) 255 p.1; label = p.2; new = not-true is_named p.3 }
  where
    le : (a b : ℕ) → leb a b ≡ true → a ≤ b
    le a b h = grind (arith, nat_tests)

pub label_word : (w : Word) (is_named : Bool) → IsPlainLabel w is_named → IsWord w
label_word w is_named p = (p.some, label_bytes w p.label)

-- what the word of a step finds among the hypotheses: its number, or nothing
abbrev pub Finds : Step → Option ℕ → Type 0
Finds (FloatStep j) hyp = Unit {0}
Finds (Hyp m) hyp = hyp ≡ Some m
Finds (Cite w) hyp = hyp ≡ None

-- ---- the names of sound tables

module _ (t : Tables) (s : AreSound t) where
  symbols_distinct : Distinct bytes_eq (t.constants ++ t.variables)
  symbols_distinct = distinct_left bytes_eq (t.constants ++ t.variables) (float_labels t.floats)
      (subst (Distinct bytes_eq) (sym (append_assoc t.constants t.variables (float_labels t.floats))) s.distinct)

  pub float_sound : (j : ℕ) → j < length t.floats → IsFloatSound t (float_at t.floats j)
  float_sound j lt = All-from_recursion (IsFloatSound t) t.floats s.floats_sound j no_float lt

  pub symbol_is_word : (x : Symbol) → IsSymbolOf t x → IsSymbolWord (symbol_word t x)
  symbol_is_word (Const i) lt = plain_at t.constants i s.constants_sound lt
  symbol_is_word (Var j) lt = plain_at t.variables (float_at t.floats j).variable s.variables_sound (float_sound j lt).variable_within

  constant_meaning : (i : ℕ) → i < length t.constants → meaning t (word_at t.constants i) ≡ Some (Constant i)
  unfolding meaning
  constant_meaning i lt =
      let w = word_at t.constants i in
      ap (λ c. named t.floats c (place_of (bytes_eq w) t.variables) (place_of (λ f. bytes_eq w f.label) t.floats))
      (place_of-item t.constants i (distinct_left bytes_eq t.constants t.variables symbols_distinct) lt)

  variable_meaning : (j : ℕ) → j < length t.floats
      → meaning t (symbol_word t (Var j)) ≡ Some (Variable (float_at t.floats j).variable (Some j))
  unfolding meaning
  variable_meaning j lt =
      let i = (float_at t.floats j).variable in
      let w = word_at t.variables i in
      let f = float_sound j lt in
      let l = place_of (λ f. bytes_eq w f.label) t.floats in
      ap (λ c. named t.floats c (place_of (bytes_eq w) t.variables) l)
      (place_of-absent (bytes_eq w) t.constants (cross t.constants t.variables i symbols_distinct f.variable_within))
      ∙ ap (λ p. named t.floats None p l) (place_of-item t.variables i
      (distinct_right bytes_eq t.constants t.variables symbols_distinct) f.variable_within)
      ∙ ap (λ o. Some (Variable i o)) (float_of-item t.floats j s.apart lt)

  label_meaning : (j : ℕ) → j < length t.floats → meaning t (float_at t.floats j).label ≡ Some (Label j)
  unfolding meaning
  label_meaning j lt =
      let ls = float_labels t.floats in
      let w = (float_at t.floats j).label in
      let symbols = t.constants ++ t.variables in
      let within : j < length ls = omega (arith, length-map t.floats (λ (f : Float). f.label)) in
      let it : get_or ls j [] ≡ w = get_or-map (λ f. f.label) t.floats j no_float [] lt in
      let d : Distinct bytes_eq (symbols ++ ls) = subst (Distinct bytes_eq) (sym (append_assoc t.constants t.variables ls)) s.distinct in
      let absent = subst (λ (x : Word). list_any (bytes_eq x) symbols ≡ false) it (cross symbols ls j d within) in
      let both = or_parts (list_any (bytes_eq w) t.constants) (list_any (bytes_eq w) t.variables)
      (sym (list_any-append (bytes_eq w) t.constants t.variables) ∙ absent) in
      let found = subst (λ (x : Word). place_of (bytes_eq x) ls ≡ Some j) it
      (place_of-item ls j (distinct_right bytes_eq symbols ls d) within) in
      let l = place_of (λ f. bytes_eq w f.label) t.floats in
      ap (λ c. named t.floats c (place_of (bytes_eq w) t.variables) l) (place_of-absent (bytes_eq w) t.constants both.0)
      ∙ ap (λ v. named t.floats None v l) (place_of-absent (bytes_eq w) t.variables both.1)
      ∙ ap (λ o. option_map (λ k. Label k) o) (sym (place_of-map (bytes_eq w) (λ f. f.label) t.floats) ∙ found)

  -- the label of a hypothesis names nothing of the prelude
  pub number_not_named : (label : Word) (n : ℕ) → label ≢ [] → is_label label ≡ true → n < 2 ^ 64 → 0 < n
      → is_some (meaning t (hypothesis_label label n)) ≡ false
  number_not_named label n some is_l small pos =
      let w = hypothesis_label label n in
      let has_form = number_form label n some is_l small pos in
      let symbol : (v : Word) → IsSymbolWord v → bytes_eq w v ≡ false = λ v h. differ has_hypothesis_form w v has_form h.form in
      let labels = all_map (IsFloatSound t) (λ v. has_dot v ≡ false) (λ f. f.label) t.floats
      (λ f h. (or_parts (has_dot f.label) (ltb 255 (length f.label)) h.label.plain).0) s.floats_sound in
      is_some-meaning t w
      ∙ list_any-append (bytes_eq w) t.constants _
      ∙ or_from (list_any (bytes_eq w) t.constants) _ (none_of IsSymbolWord w t.constants symbol s.constants_sound)
      (list_any-append (bytes_eq w) t.variables (float_labels t.floats)
      ∙ or_from (list_any (bytes_eq w) t.variables) _ (none_of IsSymbolWord w t.variables symbol s.variables_sound)
      (none_of (λ v. has_dot v ≡ false) w (float_labels t.floats) (λ v h. differ has_dot w v (number_dot label _) h) labels))

  -- ---- expressions

  constant_again : (n i : ℕ) → i < length t.constants → n < 65535 → symbol_of t n (word_at t.constants i) ≡ Ok (Const i)
  unfolding symbol_of
  constant_again n i lt room =
      cond-false (has_dollar (word_at t.constants i)) (Err BadToken) _ (plain_at t.constants i s.constants_sound lt).no_dollar
      ∙ ap (λ o. unless_full n (symbol_named (eqb n 0) o)) (constant_meaning i lt)
      ∙ ap (unless_full n) (named_constant (eqb n 0))
      ∙ cond-false (leb 65535 n) (Err TooLong) (Ok (Const i)) (lt-leb 65535 n room)
    where
      named_constant : (first : Bool) → symbol_named first (Some (Constant i)) ≡ Ok (Const i)
      named_constant true = refl
      named_constant false = refl

  variable_again : (n j : ℕ) → j < length t.floats → n < 65535 → eqb n 0 ≡ false → symbol_of t n (symbol_word t (Var j)) ≡ Ok (Var j)
  unfolding symbol_of
  variable_again n j lt room later =
      cond-false (has_dollar (symbol_word t (Var j))) (Err BadToken) _ (symbol_is_word (Var j) lt).no_dollar
      ∙ ap (λ o. unless_full n (symbol_named (eqb n 0) o)) (variable_meaning j lt)
      ∙ ap (λ b. unless_full n (symbol_named b (Some (Variable (float_at t.floats j).variable (Some j))))) later
      ∙ cond-false (leb 65535 n) (Err TooLong) (Ok (Var j)) (lt-leb 65535 n room)

  symbol_again : (n : ℕ) (x : Symbol) → IsSymbolOf t x → n < 65535 → (eqb n 0 ≡ true → BeginsWithConstant (x ∷ []))
      → symbol_of t n (symbol_word t x) ≡ Ok x
  symbol_again n (Const i) lt room h = constant_again n i lt room
  symbol_again n (Var j) lt room h = variable_again n j lt room (elim (cases_Bool (eqb n 0)) [ inl y ↦ absurd (h y) | inr f ↦ f ])

  begins_here : (front : List Symbol) (x : Symbol) (e : List Symbol) → BeginsWithConstant (front ++ x ∷ e) → eqb (length front) 0 ≡ true
      → BeginsWithConstant (x ∷ [])
  begins_here [] (Const i) e h none = tt
  begins_here [] (Var j) e h none = h
  begins_here (y ∷ front) x e h none = absurd (let z : length (y ∷ front) ≡ 0 = eqb-true _ _ none in omega arith)

  reads_from : (front e : List Symbol) → AllByRecursion (IsSymbolOf t) e → length (front ++ e) ≤ 65535 → BeginsWithConstant (front ++ e)
      → ReadsAfter t front (map (symbol_word t) e) (front ++ e)
  reads_from front [] h short begins = sym (append-nil front)
  reads_from front (x ∷ e) h short begins =
      let more : (front ++ x ∷ []) ++ e ≡ front ++ x ∷ e = append_assoc front (x ∷ []) e in (
        x,
        symbol_again (length front) x h.0 (omega (arith, length-append front (x ∷ e))) (begins_here front x e begins),
        subst (ReadsAfter t (front ++ x ∷ []) (map (symbol_word t) e)) more
            (reads_from (front ++ x ∷ []) e h.1 (subst (λ (y : List Symbol). length y ≤ 65535) (sym more) short)
            (subst BeginsWithConstant (sym more) begins)),
      )

  pub reads_again : (e : List Symbol) → IsExpression t e → ReadsAfter t [] (map (symbol_word t) e) e
  reads_again e h = reads_from [] e (recursion_from_All (IsSymbolOf t) e h.symbols) h.short h.begins

  pub some_words : (e : List Symbol) → IsExpression t e → map (symbol_word t) e ≢ []
  some_words [] h = absurd h.begins
  some_words (x ∷ e) h = λ n. absurd cc

  -- ---- pairs

  distinct_again : (vs : List ℕ) (ps : List (ℕ × ℕ)) (j : ℕ) → j < length t.floats → unless_repeated vs ps (Ok j) ≡ Ok j
      → distinct_of t vs ps (symbol_word t (Var j)) ≡ Ok j
  unfolding distinct_of
  distinct_again vs ps j lt h =
      cond-false (has_dollar (symbol_word t (Var j))) (Err BadToken) _ (symbol_is_word (Var j) lt).no_dollar
      ∙ ap (λ o. unless_repeated vs ps (typed_named o)) (variable_meaning j lt) ∙ h

  not_full : (n : ℕ) → n ≤ 65535 → ltb 65535 n ≡ false
  not_full n h = le-ltb 65535 n h

  apart_of : (i j : ℕ) → i < j → (eqb i j || false) ≡ false
  apart_of i j h = ap (λ b. b || false) (other i j h)
    where
      other : (a b : ℕ) → a < b → eqb a b ≡ false
      other a b h = grind arith

  pub restricts_again : (front : List (ℕ × ℕ)) (p : ℕ × ℕ) (rest : List (ℕ × ℕ)) (hyps : List Hypothesis) → IsPairOf (length t.floats) p
      → AreAscending (front ++ p ∷ rest) → length (front ++ p ∷ rest) ≤ 65535
      → Restricts t (record { pairs = front; hyps = hyps }) [] (symbol_word t (Var p.0) ∷ symbol_word t (Var p.1) ∷ []) (record {
        pairs =
            front ++ p ∷ [];
        hyps = hyps;
      })
  restricts_again front p rest hyps is_pair a fit =
      let i = p.0 in
      let j = p.1 in
      let lt : i < j = is_pair.0 in
      let within : j < length t.floats = is_pair.1 in
      let placed : with_pair (in_order i j) front ≡ front ++ p ∷ [] = next_pair front i j rest lt a in
      let short : length (front ++ p ∷ []) ≤ 65535 = omega (arith, length-append front (p ∷ rest), length-append front (p ∷ [])) in
      let first : unless_repeated [] front (Ok i) ≡ Ok i =
      cond-false (ltb 65535 (length front)) (Err TooLong) (Ok i)
      (not_full (length front) (omega (arith, length-append front (p ∷ rest)))) in
      let second : unless_repeated (i ∷ []) front (Ok j) ≡ Ok j =
      cond-false (eqb i j || false) (Err BadToken) _ (apart_of i j lt)
      ∙ cond-false (ltb 65535 (length (with_pair (in_order i j) front))) (Err TooLong) (Ok j)
      (ap (λ (x : List (ℕ × ℕ)). ltb 65535 (length x)) placed ∙ not_full (length (front ++ p ∷ [])) short) in (
        i,
        distinct_again [] front i (omega arith) first,
        (j, distinct_again (i ∷ []) front j within second, (omega arith, ap (λ x. record { pairs = x; hyps = hyps }) placed)),
      )

  -- ---- steps

  step_ok : (named : Result Step FaultKind) (count : ℕ) (w : Word) (x : Step) → has_dollar w ≡ false → is_label w ≡ true → count < 16384
      → named ≡ Ok x → unless_faulty (first_fault (step_tests count w)) named ≡ Ok x
  step_ok named count w x plain label room h =
      let tests = step_tests count w in
      let odd : (bytes_eq w (codes "?") || bytes_eq w (codes "(")) ≡ false =
      or_from (bytes_eq w (codes "?")) (bytes_eq w (codes "(")) (differ is_label w (codes "?") label refl)
      (differ is_label w (codes "(") label refl) in
      let pass : first_fault tests ≡ None =
      none_cond (bytes_eq w (codes "?") || bytes_eq w (codes "(")) OutOfProfile (first_fault (drop 1 tests)) odd
      (none_cond (has_dollar w) BadToken (first_fault (drop 2 tests)) plain
      (none_cond (not (is_label w)) BadToken (first_fault (drop 3 tests)) (ap not label)
      (none_cond (leb 16384 count) TooLong None (lt-leb 16384 count room) refl))) in
      ap (λ o. unless_faulty o named) pass ∙ h

  module _ (label : Word) (some : label ≢ []) (is_l : is_label label ≡ true) (count : ℕ) (few : count ≤ 1000) where
    -- the word of a step is read as the step, however hypotheses are found
    pub named_again : (n : ℕ) (x : Step) (hyp : Option ℕ) → n < 16384 → IsNameable t count x → CitesApart label x → Finds x hyp
        → let w = step_word t label x in
        unless_faulty (first_fault (step_tests n w)) (step_named label w (float_named (meaning t w)) hyp) ≡ Ok x
    named_again n (FloatStep j) hyp room lt apart finds =
        let w = (float_at t.floats j).label in
        let f = (float_sound j lt).label in
        step_ok (step_named label w (float_named (meaning t w)) hyp) n w (FloatStep j) (label_plain w f.label) f.label room
        (ap (λ o. step_named label w (float_named o) hyp) (label_meaning j lt))
    named_again n (Hyp m) hyp room lt apart finds =
        let w = hypothesis_label label (suc m) in
        let small : m < count = lt in
        let is_l' = number_label label (suc m) is_l (omega arith) in
        let none : meaning t w ≡ None = none_is (meaning t w) (number_not_named label (suc m) some is_l (omega arith) (omega arith)) in
        step_ok (step_named label w (float_named (meaning t w)) hyp) n w (Hyp m) (label_plain w is_l') is_l' room
        (ap (λ o. step_named label w (float_named o) hyp) none ∙ ap (step_named label w None) finds)
    named_again n (Cite w) hyp room h apart finds =
        let p = plain_label w (is_some (float_named (meaning t w))) h in
        let none : float_named (meaning t w) ≡ None = none_is (float_named (meaning t w)) p.new in
        step_ok (step_named label w (float_named (meaning t w)) hyp) n w (Cite w) (label_plain w p.label) p.label room
        (ap (λ o. step_named label w o hyp) none ∙ ap (step_named label w None) finds
        ∙ cond-false (ltb 255 (length w)) (Err BadLabel) _ (le-ltb 255 (length w) p.short)
        ∙ cond-false (is_dotted label w) (Err LabelClashes) (Ok (Cite w)) apart)

  module _ (label : Word) (some : label ≢ []) (is_l : is_label label ≡ true) (hyps : List Hypothesis) (count : ℕ) (few : count ≤ 1000)
      (dotted : AllByRecursion (λ h. is_dotted label h.label ≡ true) hyps)
      (found : (n : ℕ) → n < count → hypothesis_named hyps (hypothesis_label label (suc n)) ≡ Some n) where
    -- a word that is no L.k is the label of no hypothesis of L
    not_among : (w : Word) (hs : List Hypothesis) → is_dotted label w ≡ false → AllByRecursion (λ h. is_dotted label h.label ≡ true) hs
        → list_any (λ h. bytes_eq w h.label) hs ≡ false
    not_among w [] h all = refl
    not_among w (x ∷ hs) h all =
        or_from (bytes_eq w x.label) (list_any (λ h. bytes_eq w h.label) hs)
        (differ (λ v. not (is_dotted label v)) w x.label (ap not h) (ap not all.0)) (not_among w hs h all.1)

    finds_here : (x : Step) → IsNameable t count x → CitesApart label x → Finds x (hypothesis_named hyps (step_word t label x))
    finds_here (FloatStep j) lt apart = tt
    finds_here (Hyp m) lt apart = found m lt
    finds_here (Cite w) h apart = place_of-absent (λ h. bytes_eq w h.label) hyps (not_among w hyps apart dotted)

    step_again : (n : ℕ) (x : Step) → n < 16384 → IsNameable t count x → CitesApart label x
        → step_of t label hyps n (step_word t label x) ≡ Ok x
    unfolding step_of
    step_again n x room h apart =
        named_again label some is_l count few n x (hypothesis_named hyps (step_word t label x)) room h apart (finds_here x h apart)

    pub steps_again : (front rest : List Step) → AllByRecursion (IsNameable t count) rest → AllByRecursion (CitesApart label) rest
        → length (front ++ rest) ≤ 16384 → StepsAfter t label hyps front (map (step_word t label) rest) (front ++ rest)
    steps_again front [] h apart fit = sym (append-nil front)
    steps_again front (x ∷ rest) h apart fit =
        let more : (front ++ x ∷ []) ++ rest ≡ front ++ x ∷ rest = append_assoc front (x ∷ []) rest in (
          x,
          step_again (length front) x (omega (arith, length-append front (x ∷ rest))) h.0 apart.0,
          subst (StepsAfter t label hyps (front ++ x ∷ []) (map (step_word t label) rest)) more
              (steps_again (front ++ x ∷ []) rest h.1 apart.1 (subst (λ (y : List Step). length y ≤ 16384) (sym more) fit)),
        )
