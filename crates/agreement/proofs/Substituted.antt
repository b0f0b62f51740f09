-- Substitution: what a citation puts in the source is what it puts in the library.
use Rattle.std.proofs.Common.{◌≡◌, ℕ, Bool, true, false, List, [], ◌∷◌, ◌++◌, map, length, drop, refl, sym, ap, ◌∙◌, inl, inr}
use Rattle.std.proofs.Common.{arith}
use Rattle.std.specs.Prelude.{Option, Some, None, find, filter, zip, eqb, ◌||◌, slice_get, if◌then◌else◌}
use Rattle.std.specs.Option.{option_map_or}
use Rattle.std.specs.List.{list_any, filter_map, AllByRecursion}
use Rattle.std.specs.Str.{bytes_eq}
use Rattle.std.proofs.lemmas.Bool.{cases_Bool, cond-true, cond-false, or_cases, or_left, or_right, or_parts, eqb-true}
use Rattle.std.proofs.lemmas.Option.{same_Some}
use Rattle.mmtext.specs.Words.{Word}
use Rattle.mmsyntax.specs.declared.statement.Symbol.{Symbol}
use Rattle.mmsyntax.specs.declared.statement.Symbol.TheVariants.{Const, Var}
use Rattle.mmsyntax.specs.declared.statement.Assertion.{Assertion as Unit'}
use Rattle.mmsyntax.specs.Tables.{Tables}
use Rattle.mmsyntax.proofs.Names.{bytes_eq-same, same_bytes}
use Rattle.mmframes.specs.Substitution as by_place
use Rattle.source.specs.Scopes.{Hypothesis, typing, premise, Assertion, is_in, is_float_of, stands_in, is_mandatory_variable, is_mandatory}
use Rattle.taking.specs.Names.{Map, constant_in, float_in, variable_in}
use Rattle.taking.specs.Says.{both, each, symbol_in, expression_in, IsFloatTaken}
use Rattle.taking.specs.Listings.{at_floats}
use Rattle.verifying.specs.Citations.{Expression, Substitution, substitute, replacement, subst as subst_words}
use Rattle.agreement.proofs.Within.{both_parts}
use Rattle.agreement.proofs.Actives.{labels_of_floats}
use Rattle.agreement.proofs.Symbols.{each_append, each_drop, of_constant, at_place, place_of_found, variable_active}
use Rattle.agreement.proofs.Symbols as symbols
use Rattle.agreement.proofs.Frames as frames
use Rattle.agreement.proofs.Said.{IsOwn, IsSaid, none_kept}

-- ---- values one after the other

pub each_cons : {A B : Type 0} (f : A → Option B) (x : A) (xs : List A) (z : B) (zs : List B) → each f (x ∷ xs) ≡ Some (z ∷ zs)
    → (f x ≡ Some z) × (each f xs ≡ Some zs)
each_cons f x xs z zs h =
    let parts = both_parts (f x) (each f xs) (z ∷ zs) h in
    let same : z ∷ zs ≡ parts.0 ∷ parts.1 = parts.4 in
    let head : parts.0 ≡ z = cc in
    let tail : parts.1 ≡ zs = cc in
    (parts.2 ∙ ap (λ y. Some y) head, parts.3 ∙ ap (λ y. Some y) tail)

pub each_short : {A B : Type 0} (f : A → Option B) (x : A) (xs : List A) → each f (x ∷ xs) ≡ Some [] → ⊥
each_short f x xs h =
    let parts = both_parts (f x) (each f xs) [] h in
    let no : [] ≡ parts.0 ∷ parts.1 = parts.4 in
    cc

pub each_long : {A B : Type 0} (f : A → Option B) (z : B) (zs : List B) → each f [] ≡ Some (z ∷ zs) → ⊥
each_long f z zs h = let no : [] ≡ z ∷ zs = same_Some [] (z ∷ zs) h in cc

-- ---- mandatory variables

-- what passes one test passes the other too
any_kept : {A : Type 0} (p test : A → Bool) (xs : List A) → ((x : A) → p x ≡ true → test x ≡ true) → list_any p xs ≡ true
    → list_any p (filter test xs) ≡ true
any_kept p test [] f h = absurd cc
any_kept p test (x ∷ xs) f h =
    elim (or_cases (p x) (list_any p xs) h) [
      | inl here ↦
          ap (list_any p) (cond-true (test x) (x ∷ filter test xs) (filter test xs) (f x here)) ∙ or_left (p x) _ here
      | inr later ↦ elim (cases_Bool (test x)) [
        | inl y ↦
            ap (list_any p) (cond-true (test x) (x ∷ filter test xs) (filter test xs) y)
            ∙ or_right (p x) (list_any p (filter test xs)) (any_kept p test xs f later)
        | inr n ↦ ap (list_any p) (cond-false (test x) (x ∷ filter test xs) (filter test xs) n) ∙ any_kept p test xs f later
      ]
    ]

pub mandatory_kept : (c : Assertion) (w : Word) → filter (is_mandatory c.active c.statement) c.active ≡ c.hypotheses
    → is_mandatory_variable c.active c.statement w ≡ true → list_any (is_float_of w) c.active ≡ true
    → list_any (is_float_of w) c.hypotheses ≡ true
mandatory_kept c w same h is =
    ap (list_any (is_float_of w)) (sym same)
    ∙ any_kept (is_float_of w) (is_mandatory c.active c.statement) c.active is_so is
  where
    is_so : (k : Hypothesis) → is_float_of w k ≡ true → is_mandatory c.active c.statement k ≡ true
    is_so (typing label d v) e = ap (is_mandatory_variable c.active c.statement) (sym (same_bytes w v e)) ∙ h
    is_so (premise label ws) e = refl

-- words of an expression stand in it
pub all_in : (ws : List Word) → AllByRecursion (λ w. is_in ws w ≡ true) ws
all_in ws = among ws ws (λ w h. h)
  where
    among : (all ws : List Word) → ((w : Word) → is_in ws w ≡ true → is_in all w ≡ true) → AllByRecursion (λ w. is_in all w ≡ true) ws
    among all [] f = tt
    among all (w ∷ ws) f = (
      f w (or_left (bytes_eq w w) (is_in ws w) (bytes_eq-same w)),
      among all ws (λ u h. f u (or_right (bytes_eq u w) (is_in ws u) h)),
    )

-- ---- substitution

-- what stands for the variables of the $f among hypotheses
abbrev pub put_for : List Hypothesis → List Expression → Substitution
put_for hs es = filter_map (λ p. substitute p.0 p.1) (zip hs es)

none_put : (hs : List Hypothesis) (es : List Expression) (w : Word) → list_any (is_float_of w) hs ≡ false
    → find (λ p. bytes_eq w p.0) (put_for hs es) ≡ None
none_put [] es w h = refl
none_put (typing label c v ∷ hs) [] w h = refl
none_put (premise label ws ∷ hs) [] w h = refl
none_put (typing label c v ∷ hs) (e ∷ es) w h =
    let both = or_parts (bytes_eq w v) (list_any (is_float_of w) hs) h in
    cond-false (bytes_eq w v) (Some (v, drop 1 e)) (find (λ p. bytes_eq w p.0) (put_for hs es)) both.0 ∙ none_put hs es w both.1
none_put (premise label ws ∷ hs) (e ∷ es) w h = none_put hs es w h

-- the $f of cited hypotheses are of the cited assertion, and taken
abbrev pub IsSound : Map → Tables → List Hypothesis → Hypothesis → Type 0
IsSound m t active h = IsOwn active h × IsFloatTaken m t h

module _ (m : Map) (t : Tables) (x c : Assertion) (a b : Unit') (sx : IsSaid m t x a) (sc : IsSaid m t c b) where
  -- what each of the expressions is in the library
  abbrev pub AreIn : List Expression → List (List Symbol) → Type 0
  AreIn es zs = each (expression_in m x.active) es ≡ Some zs

  -- ---- one variable

  first_put : (v w : Word) (e : Expression) (s : Substitution) → bytes_eq w v ≡ true → replacement ((v, e) ∷ s) w ≡ e
  first_put v w e s y =
      ap (λ q. option_map_or (λ (p : Word × Expression). p.1) (if q then Some (v, e) else find (λ p. bytes_eq w p.0) s) (w ∷ [])) y

  other_put : (v w : Word) (e : Expression) (s : Substitution) → bytes_eq w v ≡ false → replacement ((v, e) ∷ s) w ≡ replacement s w
  other_put v w e s n =
      ap (λ q. option_map_or (λ (p : Word × Expression). p.1) (if q then Some (v, e) else find (λ p. bytes_eq w p.0) s) (w ∷ [])) n

  first_place : (k j : ℕ) (e : List Symbol) (s : List (ℕ × List Symbol)) → k ≡ j → by_place.replacement ((k, e) ∷ s) j ≡ e
  first_place k j e s same = ap (λ q. if q then e else by_place.replacement s j) (ap (λ n. eqb n j) same ∙ frames.eqb_same j)

  other_place : (k j : ℕ) (e : List Symbol) (s : List (ℕ × List Symbol)) → (k ≡ j → ⊥)
      → by_place.replacement ((k, e) ∷ s) j ≡ by_place.replacement s j
  other_place k j e s other = elim (cases_Bool (eqb k j)) [
    | inl y ↦ absurd (other (eqb-true k j y))
    | inr n ↦ ap (λ q. if q then e else by_place.replacement s j) n
  ]

  pub replaced : (hs : List Hypothesis) (es : List Expression) (zs rest : List (List Symbol)) (js : List ℕ) (w : Word) (j : ℕ)
      → length hs ≡ length es → AreIn es zs → each (float_in m) (labels_of_floats hs) ≡ Some js
      → AllByRecursion (IsSound m t c.active) hs → variable_in m c.active w ≡ Some j → list_any (is_float_of w) hs ≡ true
      → expression_in m x.active (replacement (put_for hs es) w)
      ≡ Some (by_place.replacement (zip js (map (drop 1) (at_floats hs zs ++ rest))) j)
  replaced [] es zs rest js w j n i p s v h = absurd cc
  replaced (k ∷ hs) [] zs rest js w j n i p s v h = absurd (omega arith)
  replaced (k ∷ hs) (e ∷ es) [] rest js w j n i p s v h = absurd (each_short (expression_in m x.active) e es i)
  replaced (premise label ws ∷ hs) (e ∷ es) (z ∷ zs) rest js w j n i p s v h =
      replaced hs es zs rest js w j (omega arith) (each_cons (expression_in m x.active) e es z zs i).1 p s.1 v h
  replaced (typing label d u ∷ hs) (e ∷ es) (z ∷ zs) rest [] w j n i p s v h =
      absurd (each_short (float_in m) label (labels_of_floats hs) p)
  replaced (typing label d u ∷ hs) (e ∷ es) (z ∷ zs) rest (k ∷ js) w j n i p s v h =
      let ins = each_cons (expression_in m x.active) e es z zs i in
      let at = each_cons (float_in m) label (labels_of_floats hs) k js p in
      let later = zip js (map (drop 1) (at_floats hs zs ++ rest)) in
      elim (cases_Bool (bytes_eq w u)) [
        | inl y ↦
            let is : variable_in m c.active w ≡ Some k =
            ap (variable_in m c.active) (same_bytes w u y) ∙ ap (place_of_found m) s.0.0 ∙ at.0 in
            let same : k ≡ j = same_Some k j (sym is ∙ v) in
            ap (expression_in m x.active) (first_put u w (drop 1 e) (put_for hs es) y)
            ∙ each_drop (symbol_in m x.active) e z ins.0
            ∙ ap (λ q. Some q) (sym (first_place k j (drop 1 z) later same))
        | inr o ↦
            let other : k ≡ j → ⊥ = λ same.
            let f = s.0.1 in
            let place : f.0 ≡ j = same_Some f.0 j (sym f.2 ∙ at.0 ∙ ap (λ n. Some n) same) in
            let one : u ≡ w = same_Some u w (sym f.5 ∙ ap (slice_get m.variables) place ∙ (at_place m c.active t sc.taken w j v).named) in
            let yes : bytes_eq w u ≡ true = ap (bytes_eq w) one ∙ bytes_eq-same w in
            cc in
            ap (expression_in m x.active) (other_put u w (drop 1 e) (put_for hs es) o)
            ∙ replaced hs es zs rest js w j (omega arith) ins.1 at.1 s.1 v (sym (ap (λ q. q || list_any (is_float_of w) hs) o) ∙ h)
            ∙ ap (λ q. Some q) (sym (other_place k j (drop 1 z) later other))
      ]

  -- ---- expressions

  module _ (es : List Expression) (zs rest : List (List Symbol)) (long : length c.hypotheses ≡ length es) (ins : AreIn es zs)
      (sound : AllByRecursion (IsSound m t c.active) c.hypotheses) where
    -- what stands for the variables of the citation, in the source and in the library
    abbrev pub words_put : Substitution
    words_put = put_for c.hypotheses es

    abbrev pub symbols_put : List (ℕ × List Symbol)
    symbols_put = zip sc.places.are (map (drop 1) (at_floats c.hypotheses zs ++ rest))

    -- a variable of the cited assertion is mandatory there
    abbrev pub IsReplaced : Word → Type 0
    IsReplaced w = list_any (is_float_of w) c.active ≡ true → list_any (is_float_of w) c.hypotheses ≡ true

    pub constant_stays : (w : Word) (i : ℕ) → constant_in m w ≡ Some i → replacement words_put w ≡ w ∷ []
    constant_stays w i h =
        let absent : list_any (is_float_of w) c.active ≡ false = elim (cases_Bool (list_any (is_float_of w) c.active)) [
          | inl y ↦ absurd (let no : Some i ≡ None = sym h ∙ sc.apart w y in cc)
          | inr n ↦ n
        ] in
        ap (λ (o : Option (Word × Expression)). option_map_or (λ (p : Word × Expression). p.1) o (w ∷ []))
        (none_put c.hypotheses es w
        (ap (list_any (is_float_of w)) (sym sc.mandatory)
        ∙ none_kept (is_float_of w) (is_mandatory c.active c.statement) c.active absent))

    pub variable_replaced : (w : Word) (j : ℕ) → variable_in m c.active w ≡ Some j → IsReplaced w
        → expression_in m x.active (replacement words_put w) ≡ Some (by_place.replacement symbols_put j)
    variable_replaced w j v r =
        replaced c.hypotheses es zs rest sc.places.are w j long ins sc.places.places sound v (r (variable_active m c.active w j v))

    pub all_replaced : (ws : List Word) (ys : List Symbol) → expression_in m c.active ws ≡ Some ys → AllByRecursion IsReplaced ws
        → expression_in m x.active (subst_words words_put ws) ≡ Some (by_place.subst symbols_put ys)
    all_replaced [] [] h r = refl
    all_replaced [] (y ∷ ys) h r = absurd (each_long (symbol_in m c.active) y ys h)
    all_replaced (w ∷ ws) [] h r = absurd (each_short (symbol_in m c.active) w ws h)
    all_replaced (w ∷ ws) (Const i ∷ ys) h r =
        let parts = each_cons (symbol_in m c.active) w ws (Const i) ys h in
        let is : constant_in m w ≡ Some i = symbols.is_constant m c.active w i parts.0 in
        each_append (symbol_in m x.active) (replacement words_put w) (subst_words words_put ws) (Const i ∷ [])
        (by_place.subst symbols_put ys)
        (ap (expression_in m x.active) (constant_stays w i is) ∙ ap (λ o. both o (Some [])) (of_constant m x.active w i is))
        (all_replaced ws ys parts.1 r.1)
    all_replaced (w ∷ ws) (Var j ∷ ys) h r =
        let parts = each_cons (symbol_in m c.active) w ws (Var j) ys h in
        each_append (symbol_in m x.active) (replacement words_put w) (subst_words words_put ws) (by_place.replacement symbols_put j)
        (by_place.subst symbols_put ys)
        (variable_replaced w j (symbols.is_variable m c.active w j parts.0).1 r.0) (all_replaced ws ys parts.1 r.1)

    -- ---- the statement

    mandatory_replaced : (ws : List Word)
        → ((w : Word) → is_in ws w ≡ true → is_mandatory_variable c.active c.statement w ≡ true) → AllByRecursion IsReplaced ws
    mandatory_replaced ws f = over ws (all_in ws)
      where
        over : (us : List Word) → AllByRecursion (λ w. is_in ws w ≡ true) us → AllByRecursion IsReplaced us
        over [] p = tt
        over (u ∷ us) p = ((λ is. mandatory_kept c u sc.mandatory (f u p.0) is), over us p.1)

    pub premise_replaced : (label : Word) (ws : List Word)
        → ((w : Word) → stands_in w (premise label ws) ≡ true → list_any (stands_in w) c.active ≡ true) → AllByRecursion IsReplaced ws
    premise_replaced label ws f =
        mandatory_replaced ws (λ w h. or_right (is_in c.statement w) (list_any (stands_in w) c.active) (f w h))

    pub statement_replaced : expression_in m x.active (subst_words words_put c.statement) ≡ Some (by_place.subst symbols_put b.statement)
    statement_replaced =
        all_replaced c.statement b.statement sc.says.statement
        (mandatory_replaced c.statement (λ w h. or_left (is_in c.statement w) (list_any (stands_in w) c.active) h))
