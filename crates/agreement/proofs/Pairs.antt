-- The test of pairs: a citation passes it in the source just where it passes it in the library.
use Rattle.std.proofs.Common.{◌≡◌, ℕ, Bool, true, false, List, [], ◌∷◌, ◌⊎◌, length, refl, sym, ap, ◌∙◌, subst, inl, inr}
use Rattle.std.proofs.Common.{arith}
use mathlib.Core.Path.{ap₂}
use mathlib.Core.Bool.{not}
use Rattle.std.specs.Prelude.{Option, Some, None, ◌↔◌, ◌&&◌, nat_lt, IfSome, Contains}
use Rattle.std.specs.Option.{option_map_or}
use Rattle.std.specs.List.{list_any, list_all, filter_map, AllByRecursion}
use Rattle.std.specs.Str.{bytes_eq}
use Rattle.std.proofs.lemmas.Bool.{cases_Bool, cond-true, cond-false, or_cases, or_left, or_right, and_parts, and_from, ltb-true, ltb-false}
use Rattle.std.proofs.lemmas.Bool.{not-true}
use Rattle.std.proofs.lemmas.Option.{same_Some}
use Rattle.mmtext.specs.Words.{Word}
use Rattle.mmsyntax.specs.declared.statement.Symbol.{Symbol}
use Rattle.mmsyntax.specs.declared.statement.Symbol.TheVariants.{Const, Var}
use Rattle.mmsyntax.specs.declared.statement.Assertion.{Assertion as Unit'}
use Rattle.mmsyntax.specs.Tables.{Tables}
use Rattle.mmsyntax.specs.Blocks.{in_order, is_same_pair}
use Rattle.mmsyntax.proofs.Names.{bytes_eq-same, same_bytes}
use Rattle.mmsyntax.proofs.Options.{alike}
use Rattle.mmframes.specs.Frames.{frame}
use Rattle.mmframes.specs.Frames as profile
use Rattle.mmframes.specs.Substitution as by_place
use Rattle.source.specs.Scopes.{Hypothesis, typing, premise, Pair, Assertion, is_in, is_float_of, stands_in, is_mandatory_variable}
use Rattle.source.specs.Scopes.{mandatory_pairs}
use Rattle.derivation.specs.Derivation.{IsApart, AreApart}
use Rattle.derivation.proofs.Decisions.{pairs-decide, contains-decides}
use Rattle.taking.specs.Names.{Map, variable_in}
use Rattle.taking.specs.Says.{each, symbol_in, expression_in, premises, pair_at, pair_in}
use Rattle.verifying.specs.Citations.{Expression, replacement, variables_in, is_pair_of, symbols_apart, are_apart}
use Rattle.agreement.proofs.Within.{both_parts}
use Rattle.agreement.proofs.Symbols.{of_variable, is_constant, is_variable, variable_active, one_variable}
use Rattle.agreement.proofs.Said.{IsSaid}
use Rattle.agreement.proofs.Frames.{mandatory_same}
use Rattle.agreement.proofs.Substituted.{IsSound, AreIn, mandatory_kept, constant_stays, variable_replaced}
use Rattle.agreement.proofs.Tests.{put_words, put_symbols}
use Rattle.agreement.proofs.Alike.{chain, turned, each_alike, valued_alike, each_given, each_contained, each_kept, kept_tested}
use Rattle.agreement.proofs.Alike.{each_mapped, any_mapped, each_ascending, any_ascending}

-- ---- two numbers in order

order_kind : (i j : ℕ) → (in_order i j ≡ (i, j)) ⊎ (in_order i j ≡ (j, i))
order_kind i j = elim (cases_Bool (nat_lt i j)) [
  | inl y ↦ inl (cond-true (nat_lt i j) (i, j) (j, i) y)
  | inr n ↦ inr (cond-false (nat_lt i j) (i, j) (j, i) n)
]

order_turned : (i j : ℕ) → in_order i j ≡ in_order j i
order_turned i j = elim (cases_Bool (nat_lt i j)) [
  | inl y ↦ elim (cases_Bool (nat_lt j i)) [
    | inl z ↦ absurd (let a = ltb-true i j y in let b = ltb-true j i z in omega arith)
    | inr n ↦ cond-true (nat_lt i j) (i, j) (j, i) y ∙ sym (cond-false (nat_lt j i) (j, i) (i, j) n)
  ]
  | inr m ↦ elim (cases_Bool (nat_lt j i)) [
    | inl z ↦ cond-false (nat_lt i j) (i, j) (j, i) m ∙ sym (cond-true (nat_lt j i) (j, i) (i, j) z)
    | inr n ↦
        let a = ltb-false i j m in
        let b = ltb-false j i n in
        let same : i ≡ j = omega arith in
        ap (λ k. in_order k j) same ∙ ap (λ k. in_order j k) (sym same)
  ]
]

same_ordered : (k l i j : ℕ) → in_order k l ≡ in_order i j → ((k ≡ i) × (l ≡ j)) ⊎ ((k ≡ j) × (l ≡ i))
same_ordered k l i j e = elim (order_kind k l) [
  | inl a ↦ elim (order_kind i j) [
    | inl b ↦ let s : (k, l) ≡ (i, j) = sym a ∙ e ∙ b in inl (ap (λ p. p.0) s, ap (λ p. p.1) s)
    | inr b ↦ let s : (k, l) ≡ (j, i) = sym a ∙ e ∙ b in inr (ap (λ p. p.0) s, ap (λ p. p.1) s)
  ]
  | inr a ↦ elim (order_kind i j) [
    | inl b ↦ let s : (l, k) ≡ (i, j) = sym a ∙ e ∙ b in inr (ap (λ p. p.1) s, ap (λ p. p.0) s)
    | inr b ↦ let s : (l, k) ≡ (j, i) = sym a ∙ e ∙ b in inl (ap (λ p. p.1) s, ap (λ p. p.0) s)
  ]
]

-- what is so of two numbers whichever comes first
of_order : (P : ℕ × ℕ → Type 0) (i j : ℕ) → (P (i, j) ↔ P (j, i)) → P (in_order i j) ↔ P (i, j)
of_order P i j f = elim (order_kind i j) [
  | inl e ↦ (subst P e, subst P (sym e))
  | inr e ↦ (λ h. f.1 (subst P e h), λ h. subst P (sym e) (f.0 h))
]

apart_turned : (pairs : List (ℕ × ℕ)) (d e : List Symbol) → AreApart pairs d e → AreApart pairs e d
apart_turned pairs d e h = record {
  apart = λ u v cu cv.
      let o = h.apart v u cv cu in
      record { differ = λ same. o.differ (sym same); paired = subst (Contains pairs) (order_turned v u) o.paired };
}

-- ---- the pairs of an assertion

module _ (m : Map) (t : Tables) (x : Assertion) (a : Unit') (sx : IsSaid m t x a) where
  -- a pair is one of two variables just where it is one of their places
  pair_tested : (w v : Word) (i j : ℕ) → variable_in m x.active w ≡ Some i → variable_in m x.active v ≡ Some j → (p : Pair)
      → option_map_or (λ q. is_same_pair q (in_order i j)) (pair_in m x.active p) false ≡ is_pair_of w v p
  pair_tested w v i j hw hv p =
      let test = λ (o : Option (ℕ × ℕ)). option_map_or (λ q. is_same_pair q (in_order i j)) o false in
      let to : (o r : Option ℕ) → variable_in m x.active p.0 ≡ o → variable_in m x.active p.1 ≡ r → test (pair_at o r) ≡ true
      → is_pair_of w v p ≡ true =
      of_places w v i j hw hv p in
      alike (test (pair_in m x.active p)) (is_pair_of w v p)
      (λ h. to (variable_in m x.active p.0) (variable_in m x.active p.1) refl refl h)
      (λ h. elim (or_cases (bytes_eq w p.0 && bytes_eq v p.1) (bytes_eq w p.1 && bytes_eq v p.0) h) [
        | inl y ↦
            let both = and_parts (bytes_eq w p.0) (bytes_eq v p.1) y in
            let is : pair_in m x.active p ≡ Some (in_order i j) =
            ap₂ pair_at (ap (variable_in m x.active) (sym (same_bytes w p.0 both.0)) ∙ hw)
            (ap (variable_in m x.active) (sym (same_bytes v p.1 both.1)) ∙ hv) in
            ap test is ∙ (pairs-decide (in_order i j) (in_order i j)).1 refl
        | inr y ↦
            let both = and_parts (bytes_eq w p.1) (bytes_eq v p.0) y in
            let is : pair_in m x.active p ≡ Some (in_order j i) =
            ap₂ pair_at (ap (variable_in m x.active) (sym (same_bytes v p.0 both.1)) ∙ hv)
            (ap (variable_in m x.active) (sym (same_bytes w p.1 both.0)) ∙ hw) in
            ap test is ∙ (pairs-decide (in_order j i) (in_order i j)).1 (order_turned j i)
      ])
    where
      of_places : (w v : Word) (i j : ℕ) → variable_in m x.active w ≡ Some i → variable_in m x.active v ≡ Some j → (p : Pair)
          → (o r : Option ℕ) → variable_in m x.active p.0 ≡ o → variable_in m x.active p.1 ≡ r
          → option_map_or (λ q. is_same_pair q (in_order i j)) (pair_at o r) false ≡ true → is_pair_of w v p ≡ true
      of_places w v i j hw hv p None r e f h = absurd cc
      of_places w v i j hw hv p (Some k) None e f h = absurd cc
      of_places w v i j hw hv p (Some k) (Some l) e f h =
          let word : (u s : Word) (n : ℕ) → variable_in m x.active u ≡ Some n → variable_in m x.active s ≡ Some n → bytes_eq u s ≡ true =
          λ u s n hu hs. ap (bytes_eq u) (one_variable m x.active t sx.taken s u n hs hu) ∙ bytes_eq-same u in
          elim (same_ordered k l i j ((pairs-decide (in_order k l) (in_order i j)).0 h)) [
            | inl s ↦
                or_left (bytes_eq w p.0 && bytes_eq v p.1) (bytes_eq w p.1 && bytes_eq v p.0)
                (and_from (bytes_eq w p.0) (bytes_eq v p.1) (word w p.0 i hw (e ∙ ap (λ n. Some n) s.0))
                (word v p.1 j hv (f ∙ ap (λ n. Some n) s.1)))
            | inr s ↦
                or_right (bytes_eq w p.0 && bytes_eq v p.1) (bytes_eq w p.1 && bytes_eq v p.0)
                (and_from (bytes_eq w p.1) (bytes_eq v p.0) (word w p.1 i hw (f ∙ ap (λ n. Some n) s.1))
                (word v p.0 j hv (e ∙ ap (λ n. Some n) s.0)))
          ]

  -- two variables are kept apart just where their places are
  pub paired_alike : (w v : Word) (i j : ℕ) → variable_in m x.active w ≡ Some i → variable_in m x.active v ≡ Some j
      → (list_any (is_pair_of w v) x.pairs ≡ true) ↔ Contains a.pairs (in_order i j)
  paired_alike w v i j hw hv =
      let test = λ (q : ℕ × ℕ). is_same_pair q (in_order i j) in
      let same : list_any test a.pairs ≡ list_any (is_pair_of w v) x.pairs =
      ap (list_any test) (sym sx.says.pairs) ∙ any_ascending test (filter_map (pair_in m x.active) x.pairs)
      ∙ any_mapped test (is_pair_of w v) (pair_in m x.active) x.pairs (pair_tested w v i j hw hv) in
      let d = contains-decides is_same_pair pairs-decide a.pairs (in_order i j) in
      (λ h. d.0 (same ∙ h), λ h. sym same ∙ d.1 h)

  -- ---- two symbols

  abbrev pub SymbolsApart : Symbol → Symbol → Type 0
  SymbolsApart z y = (i j : ℕ) → z ≡ Var i → y ≡ Var j → IsApart a.pairs i j

  abbrev pub is_typed : Word → Bool
  is_typed w = list_any (is_float_of w) x.active

  abbrev pub WordsApart : Word → Word → Type 0
  WordsApart w v = is_typed w ≡ true → is_typed v ≡ true → symbols_apart x w v ≡ true

  -- the symbol of a variable
  place_of_typed : (w : Word) (z : Symbol) → is_typed w ≡ true → symbol_in m x.active w ≡ Some z → (i : ℕ) × (z ≡ Var i)
  place_of_typed w (Const c) h e =
      absurd (let no : Some c ≡ None = sym (is_constant m x.active w c e) ∙ sx.apart w h in cc)
  place_of_typed w (Var i) h e = (i, refl)

  symbols_alike : (w v : Word) (z y : Symbol) → symbol_in m x.active w ≡ Some z → symbol_in m x.active v ≡ Some y
      → WordsApart w v ↔ SymbolsApart z y
  symbols_alike w v z y hw hv = (
    λ h i j ez ey.
        let iw = (is_variable m x.active w i (hw ∙ ap (λ s. Some s) ez)).1 in
        let jv = (is_variable m x.active v j (hv ∙ ap (λ s. Some s) ey)).1 in
        let both = and_parts (not (bytes_eq w v)) (list_any (is_pair_of w v) x.pairs)
        (h (variable_active m x.active w i iw) (variable_active m x.active v j jv)) in
        record {
          differ = λ same.
              let one : w ≡ v = one_variable m x.active t sx.taken w v j (iw ∙ ap (λ n. Some n) same) jv in
              let yes : bytes_eq w v ≡ true = ap (bytes_eq w) (sym one) ∙ bytes_eq-same w in
              let no : bytes_eq w v ≡ false = not-true (bytes_eq w v) both.0 in
              cc;
          paired = (paired_alike w v i j iw jv).0 both.1;
        },
    λ h tw tv.
        let pz = place_of_typed w z tw hw in
        let py = place_of_typed v y tv hv in
        let iw = (is_variable m x.active w pz.0 (hw ∙ ap (λ s. Some s) pz.1)).1 in
        let jv = (is_variable m x.active v py.0 (hv ∙ ap (λ s. Some s) py.1)).1 in
        let o = h pz.0 py.0 pz.1 py.1 in
        let other : bytes_eq w v ≡ false = elim (cases_Bool (bytes_eq w v)) [
          | inl e ↦ absurd
              (o.differ (same_Some pz.0 py.0 (sym iw ∙ ap (variable_in m x.active) (same_bytes w v e) ∙ jv)))
          | inr n ↦ n
        ] in
        and_from (not (bytes_eq w v)) (list_any (is_pair_of w v) x.pairs) (ap not other) ((paired_alike w v pz.0 py.0 iw jv).1 o.paired),
  )

  -- ---- two expressions

  apart_each : (d e : List Symbol) → AreApart a.pairs d e ↔ AllByRecursion (λ z. AllByRecursion (SymbolsApart z) e) d
  apart_each d e =
      let outer = each_contained (λ z. AllByRecursion (SymbolsApart z) e) d in (
        λ h. outer.1 (λ z cz. (each_contained (SymbolsApart z) e).1
            (λ y cy i j ez ey. h.apart i j (subst (Contains d) ez cz) (subst (Contains e) ey cy))),
        λ h. record {
          apart = λ i j ci cj. (each_contained (SymbolsApart (Var i)) e).0 (outer.0 h (Var i) ci) (Var j) cj i j refl refl;
        },
      )

  pub apart_alike : (d e : Expression) (zs ys : List Symbol) → expression_in m x.active d ≡ Some zs → expression_in m x.active e ≡ Some ys
      → (are_apart x d e ≡ true) ↔ AreApart a.pairs zs ys
  apart_alike d e zs ys hd he =
      let words = λ (w : Word). list_all (symbols_apart x w) (variables_in x e) in
      let inner : (w : Word) (z : Symbol) → symbol_in m x.active w ≡ Some z
      → (is_typed w ≡ true → words w ≡ true) ↔ AllByRecursion (SymbolsApart z) ys =
      λ w z hw.
      let tested = kept_tested (symbols_apart x w) is_typed e in
      chain (λ h tw. tested.0 (h tw), λ h tw. tested.1 (h tw))
      (chain (each_given (is_typed w ≡ true) (λ v. is_typed v ≡ true → symbols_apart x w v ≡ true) e)
      (valued_alike (symbol_in m x.active) (WordsApart w) (SymbolsApart z) e ys he (λ v y hv. symbols_alike w v z y hw hv))) in
      chain (kept_tested words is_typed d)
      (chain (valued_alike (symbol_in m x.active) (λ w. is_typed w ≡ true → words w ≡ true) (λ z. AllByRecursion (SymbolsApart z) ys) d zs
      hd inner) (turned (apart_each zs ys)))

-- ---- a citation

-- a word of an expression has a symbol
word_symbol : (m : Map) (active : List Hypothesis) (w : Word) (ws : List Word) (zs : List Symbol) → is_in ws w ≡ true
    → expression_in m active ws ≡ Some zs → (z : Symbol) × (symbol_in m active w ≡ Some z)
word_symbol m active w [] zs h e = absurd cc
word_symbol m active w (u ∷ ws) zs h e =
    let parts = both_parts (symbol_in m active u) (expression_in m active ws) zs e in
    elim (or_cases (bytes_eq w u) (is_in ws w) h) [
      | inl y ↦ (parts.0, ap (symbol_in m active) (same_bytes w u y) ∙ parts.2)
      | inr later ↦ word_symbol m active w ws parts.1 later parts.3
    ]

premise_symbol : (m : Map) (active : List Hypothesis) (w : Word) (hs : List Hypothesis) (es : List (List Symbol))
    → list_any (stands_in w) hs ≡ true → each (expression_in m active) (premises hs) ≡ Some es
    → (z : Symbol) × (symbol_in m active w ≡ Some z)
premise_symbol m active w [] es h e = absurd cc
premise_symbol m active w (typing label c v ∷ hs) es h e = premise_symbol m active w hs es h e
premise_symbol m active w (premise label ws ∷ hs) es h e =
    let parts = both_parts (expression_in m active ws) (each (expression_in m active) (premises hs)) es e in
    elim (or_cases (is_in ws w) (list_any (stands_in w) hs) h) [
      | inl y ↦ word_symbol m active w ws parts.0 y parts.2
      | inr later ↦ premise_symbol m active w hs parts.1 later parts.3
    ]

all_true : {A : Type 0} (test : A → Bool) (xs : List A) → ((x : A) → test x ≡ true) → list_all test xs ≡ true
all_true test [] f = refl
all_true test (x ∷ xs) f = and_from (test x) (list_all test xs) (f x) (all_true test xs f)

module _ (m : Map) (t : Tables) (x c : Assertion) (a b : Unit') (sx : IsSaid m t x a) (sc : IsSaid m t c b) (es : List Expression)
    (zs rest : List (List Symbol)) (long : length c.hypotheses ≡ length es) (ins : AreIn m t x c a b sx sc es zs)
    (sound : AllByRecursion (IsSound m t c.active) c.hypotheses) where
  abbrev pub words : Word → Expression
  words w = replacement (put_words m t x c a b sx sc es zs rest long ins sound) w

  abbrev pub symbols : ℕ → List Symbol
  symbols j = by_place.replacement (put_symbols m t x c a b sx sc es zs rest long ins sound) j

  abbrev is_needed : Word → Bool
  is_needed w = is_mandatory_variable c.active c.statement w

  -- what stands for a mandatory constant has no variables
  no_variables : (w : Word) (z : Symbol) → symbol_in m c.active w ≡ Some z → variable_in m c.active w ≡ None
      → variables_in x (words w) ≡ []
  no_variables w (Var j) e h = absurd (let no : Some j ≡ None = sym (is_variable m c.active w j e).1 ∙ h in cc)
  no_variables w (Const i) e h =
      let is = is_constant m c.active w i e in
      let untyped : list_any (is_float_of w) x.active ≡ false = elim (cases_Bool (list_any (is_float_of w) x.active)) [
        | inl y ↦ absurd (let no : Some i ≡ None = sym is ∙ sx.apart w y in cc)
        | inr n ↦ n
      ] in
      ap (variables_in x) (constant_stays m t x c a b sx sc es zs rest long ins sound w i is)
      ∙ cond-false (list_any (is_float_of w) x.active) (w ∷ []) [] untyped

  needed_symbol : (w : Word) → is_needed w ≡ true → (z : Symbol) × (symbol_in m c.active w ≡ Some z)
  needed_symbol w h = elim (or_cases (is_in c.statement w) (list_any (stands_in w) c.active) h) [
    | inl y ↦ word_symbol m c.active w c.statement b.statement y sc.says.statement
    | inr y ↦ premise_symbol m c.active w c.active b.hyps y sc.says.hyps
  ]

  unneeded_apart : (u v : Word) → is_needed u ≡ true → variable_in m c.active u ≡ None → are_apart x (words u) (words v) ≡ true
  unneeded_apart u v h n =
      let z = needed_symbol u h in
      ap (list_all (λ w. list_all (symbols_apart x w) (variables_in x (words v)))) (no_variables u z.0 z.1 n)

  unneeded_behind : (u v : Word) → is_needed v ≡ true → variable_in m c.active v ≡ None → are_apart x (words u) (words v) ≡ true
  unneeded_behind u v h n =
      let z = needed_symbol v h in
      all_true (λ w. list_all (symbols_apart x w) (variables_in x (words v))) (variables_in x (words u))
      (λ w. ap (list_all (symbols_apart x w)) (no_variables v z.0 z.1 n))

  -- ---- one pair

  abbrev PairApart : Word → Word → Type 0
  PairApart u v = (is_needed u && is_needed v) ≡ true → are_apart x (words u) (words v) ≡ true

  abbrev PlacesApart : ℕ × ℕ → Type 0
  PlacesApart q =
      (profile.is_mandatory t b q.0 && profile.is_mandatory t b q.1) ≡ true → AreApart a.pairs (symbols q.0) (symbols q.1)

  places_turned : (i j : ℕ) → PlacesApart (i, j) → PlacesApart (j, i)
  places_turned i j h both =
      let parts = and_parts (profile.is_mandatory t b j) (profile.is_mandatory t b i) both in
      apart_turned a.pairs (symbols i) (symbols j)
      (h (and_from (profile.is_mandatory t b i) (profile.is_mandatory t b j) parts.1 parts.0))

  variables_alike : (u v : Word) (i j : ℕ) → variable_in m c.active u ≡ Some i → variable_in m c.active v ≡ Some j
      → PairApart u v ↔ PlacesApart (i, j)
  variables_alike u v i j hu hv =
      let active-u = variable_active m c.active u i hu in
      let active-v = variable_active m c.active v j hv in
      let same-u : profile.is_mandatory t b i ≡ is_needed u =
      mandatory_same m t c b sc u i (of_variable m c.active u i (sc.apart u active-u) hu) in
      let same-v : profile.is_mandatory t b j ≡ is_needed v =
      mandatory_same m t c b sc v j (of_variable m c.active v j (sc.apart v active-v) hv) in
      let agree : is_needed u ≡ true → is_needed v ≡ true
      → (are_apart x (words u) (words v) ≡ true) ↔ AreApart a.pairs (symbols i) (symbols j) =
      λ nu nv. apart_alike m t x a sx (words u) (words v) (symbols i) (symbols j)
      (variable_replaced m t x c a b sx sc es zs rest long ins sound u i hu (λ is. mandatory_kept c u sc.mandatory nu is))
      (variable_replaced m t x c a b sx sc es zs rest long ins sound v j hv (λ is. mandatory_kept c v sc.mandatory nv is)) in (
        λ h both.
            let parts = and_parts (profile.is_mandatory t b i) (profile.is_mandatory t b j) both in
            let nu = sym same-u ∙ parts.0 in
            let nv = sym same-v ∙ parts.1 in
            (agree nu nv).0 (h (and_from (is_needed u) (is_needed v) nu nv)),
        λ h both.
            let parts = and_parts (is_needed u) (is_needed v) both in
            (agree parts.0 parts.1).1
            (h (and_from (profile.is_mandatory t b i) (profile.is_mandatory t b j) (same-u ∙ parts.0) (same-v ∙ parts.1))),
      )

  one_pair : (u v : Word) (o r : Option ℕ) → variable_in m c.active u ≡ o → variable_in m c.active v ≡ r
      → PairApart u v ↔ IfSome (pair_at o r) PlacesApart
  one_pair u v None r e f = (
    λ h. tt,
    λ h both. unneeded_apart u v (and_parts (is_needed u) (is_needed v) both).0 e,
  )
  one_pair u v (Some i) None e f = (
    λ h. tt,
    λ h both. unneeded_behind u v (and_parts (is_needed u) (is_needed v) both).1 f,
  )
  one_pair u v (Some i) (Some j) e f =
      chain (variables_alike u v i j e f) (turned (of_order PlacesApart i j (places_turned i j, places_turned j i)))

  -- ---- all pairs

  pub pairs_alike
      : (list_all (λ p. are_apart x (words p.0) (words p.1)) (mandatory_pairs c) ≡ true)
      ↔ AllByRecursion (λ q. AreApart a.pairs (symbols q.0) (symbols q.1)) (frame t b).pairs
  pairs_alike =
      let keeps = λ (q : ℕ × ℕ). profile.is_mandatory t b q.0 && profile.is_mandatory t b q.1 in
      let pairs = each_kept (λ q. AreApart a.pairs (symbols q.0) (symbols q.1)) keeps b.pairs in
      let ordered : AllByRecursion PlacesApart b.pairs ↔ AllByRecursion PlacesApart (filter_map (pair_in m c.active) c.pairs) =
      subst (λ qs. AllByRecursion PlacesApart qs ↔ AllByRecursion PlacesApart (filter_map (pair_in m c.active) c.pairs)) sc.says.pairs
      (each_ascending PlacesApart (filter_map (pair_in m c.active) c.pairs)) in
      chain (kept_tested (λ p. are_apart x (words p.0) (words p.1)) (λ p. is_needed p.0 && is_needed p.1) c.pairs)
      (chain (each_alike (λ p. PairApart p.0 p.1) (λ p. IfSome (pair_in m c.active p) PlacesApart) c.pairs
      (λ p. one_pair p.0 p.1 (variable_in m c.active p.0) (variable_in m c.active p.1) refl refl))
      (chain (turned (each_mapped PlacesApart (pair_in m c.active) c.pairs)) (chain (turned ordered) (turned pairs))))
