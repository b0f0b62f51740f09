-- Tests of the assertions at some places, among which are all that pass: they answer what tests of all assertions do.
use Rattle.std.proofs.Common.{◌≡◌, ℕ, zero, suc, ◌<◌, Bool, true, false, cond, List, [], ◌∷◌, Option, None, Some, set, refl, sym, ap}
use Rattle.std.proofs.Common.{subst, ◌∙◌, inl, inr, arith}
use Rattle.std.specs.Prelude.{◌||◌, ◌&&◌}
use Rattle.std.specs.List.{Contains, list_any, count_by}
use Rattle.std.specs.List.Sorted.{IsStrictlyIncreasing}
use Rattle.std.proofs.lemmas.Bool.{cases_Bool, cases_eq, cond-true, cond-false, both_ways}
use Rattle.std.proofs.lemmas.List.Sums.{sum_by-cons}
use Rattle.std.proofs.lemmas.List.{get_or-set_other}
use Rattle.std.proofs.lemmas.Option.{get_or_from_slice_get}
use Rattle.mmsyntax.proofs.Distinct.{both_false}
use Rattle.library.specs.declared.library.Ranked.{Ranked}
use Rattle.library.proofs.Counts.{one_if, none_counted}
use Rattle.catalog.specs.Entries.{Entries, living, StandsIn}
use Rattle.catalog.specs.Testing.{passes_there, passes_at}
use Rattle.catalog.proofs.Ascending.{rest-ascends, first-below, first-or-rest}
use Rattle.catalog.proofs.Changing.{get-set_is, get-set_other}
use Rattle.catalog.proofs.Living.{count-living, any-living}

-- each assertion that passes stands at one of the places
abbrev pub HasPassing : (Ranked → Bool) → Entries → List ℕ → Type 0
HasPassing test es places = (q : ℕ) (f : Ranked) → StandsIn es q f → test f ≡ true → Contains places q

pub and-true : (a b : Bool) → b ≡ true → (a && b) ≡ a
and-true true b h = h
and-true false b h = refl

pub and-false : (a b : Bool) → b ≡ false → (a && b) ≡ b
and-false true b h = refl
and-false false b h = sym h

module _ (test : Ranked → Bool) where
  -- an assertion that stands passes at its place
  pub passes-standing : (es : Entries) (q : ℕ) (f : Ranked) → StandsIn es q f → passes_at test es q ≡ test f
  passes-standing es q f at = ap (passes_there test) (get_or_from_slice_get es q (Some f) None at)

  pub passes-absent : (es : Entries) (q : ℕ) → ((f : Ranked) → StandsIn es q f → ⊥) → passes_at test es q ≡ false
  passes-absent [] q h = refl
  passes-absent (None ∷ es) zero h = refl
  passes-absent (Some f ∷ es) zero h = absurd (h f refl)
  passes-absent (o ∷ es) (suc q) h = passes-absent es q h

  -- ---- some pass

  none-pass : (es : Entries) → HasPassing test es [] → list_any (passes_there test) es ≡ false
  none-pass [] h = refl
  none-pass (o ∷ es) h =
      both_false (passes_there test o) (list_any (passes_there test) es) (first o refl)
      (none-pass es (λ q f at here. absurd (let lt = (h (suc q) f at here).1 in omega arith)))
    where
      first : (x : Option Ranked) → x ≡ o → passes_there test x ≡ false
      first None is = refl
      first (Some f) is = elim (cases_Bool (test f)) [
        | inl y ↦ absurd (let lt = (h zero f (ap (λ y. Some y) (sym is)) y).1 in omega arith)
        | inr n ↦ n
      ]

  any-standing : (es : Entries) (q : ℕ) → passes_at test es q ≡ true → list_any (passes_there test) es ≡ true
  any-standing [] q h = absurd cc
  any-standing (o ∷ es) zero h = ap (λ b. b || list_any (passes_there test) es) h
  any-standing (o ∷ es) (suc q) h =
      elim (passes_there test o) as (λ b. (b || list_any (passes_there test) es) ≡ true) [ true ↦ refl | false ↦ any-standing es q h ]

  any-places : (es : Entries) (places : List ℕ) → HasPassing test es places
      → list_any (passes_at test es) places ≡ list_any (passes_there test) es
  any-places es [] h = sym (none-pass es h)
  any-places es (q ∷ qs) h =
      elim (cases_Bool (passes_at test es q)) [
        | inl y ↦ ap (λ b. b || list_any (passes_at test es) qs) y ∙ sym (any-standing es q y)
        | inr n ↦
            ap (λ b. b || list_any (passes_at test es) qs) n
            ∙ any-places es qs (λ r f at here. elim (first-or-rest q qs r (h r f at here)) [
              | inl same ↦ absurd (both_ways (passes_at test es q) n (ap (passes_at test es) (sym same) ∙ passes-standing es r f at ∙ here))
              | inr rest ↦ rest
            ])
      ]

  pub any-members : (es : Entries) (places : List ℕ) → HasPassing test es places
      → list_any (passes_at test es) places ≡ list_any test (living es)
  any-members es places h = any-places es places h ∙ sym (any-living test es)

  -- ---- how many pass

  -- a place that passes is one more than the others
  count-without : (es : Entries) (q : ℕ) → passes_at test es q ≡ true
      → count_by (passes_there test) es ≡ suc (count_by (passes_there test) (set es q None))
  count-without [] q h = absurd cc
  count-without (o ∷ es) zero h =
      let one = one_if (passes_there test) in
      omega (arith, sum_by-cons one o es, sum_by-cons one None es, cond-true {A = ℕ} (passes_there test o) 1 0 h)
  count-without (o ∷ es) (suc q) h =
      let one = one_if (passes_there test) in
      omega (arith, sum_by-cons one o es, sum_by-cons one o (set es q None), count-without es q h)

  -- the places above it pass as they do without it
  count-above : (es : Entries) (x : ℕ) (places : List ℕ) → ((q : ℕ) → Contains places q → x < q)
      → count_by (passes_at test es) places ≡ count_by (passes_at test (set es x None)) places
  count-above es x [] h = refl
  count-above es x (q ∷ qs) h =
      let above = h q (0, omega arith, refl) in
      let same : passes_at test (set es x None) q ≡ passes_at test es q =
      ap (passes_there test) (get_or-set_other es x q None None (omega arith)) in
      let one : one_if (passes_at test (set es x None)) q ≡ one_if (passes_at test es) q = ap (λ b. cond b 1 0) same in
      omega (
        arith,
        sum_by-cons (one_if (passes_at test es)) q qs,
        sum_by-cons (one_if (passes_at test (set es x None))) q qs,
        count-above es x qs (λ r at. h r (suc at.0, (let lt = at.1 in omega arith), at.2)),
      )

  -- without it, those that pass stand at the others
  rest-passing : (es : Entries) (x : ℕ) (qs : List ℕ) → HasPassing test es (x ∷ qs) → HasPassing test (set es x None) qs
  rest-passing es x qs h q f at here = elim (cases_eq q x) [
    | inl same ↦
        let none : None ≡ Some f = get-set_is es x None (Some f) (subst (λ (k : ℕ). StandsIn (set es x None) k f) same at) in
        absurd cc
    | inr ne ↦ elim (first-or-rest x qs q (h q f (sym (get-set_other es x q None ne) ∙ at) here)) [
      | inl first ↦ absurd (ne first)
      | inr rest ↦ rest
    ]
  ]

  count-places : (places : List ℕ) (es : Entries) → IsStrictlyIncreasing places → HasPassing test es places
      → count_by (passes_at test es) places ≡ count_by (passes_there test) es
  count-places [] es up h = sym (none_counted (passes_there test) es (none-pass es h))
  count-places (x ∷ qs) es up h =
      let cons = sum_by-cons (one_if (passes_at test es)) x qs in
      elim (cases_Bool (passes_at test es x)) [
        | inl y ↦
            let one = count-without es x y in
            let same = count-above es x qs (λ q at. first-below x qs q up at) in
            let rest = count-places qs (set es x None) (rest-ascends x qs up) (rest-passing es x qs h) in
            omega (arith, cond-true {A = ℕ} (passes_at test es x) 1 0 y)
        | inr n ↦
            let rest = count-places qs es (rest-ascends x qs up) (λ q f at here. elim (first-or-rest x qs q (h q f at here)) [
              | inl same ↦ absurd (both_ways (passes_at test es x) n (ap (passes_at test es) (sym same) ∙ passes-standing es q f at ∙ here))
              | inr later ↦ later
            ]) in
            omega (arith, cond-false {A = ℕ} (passes_at test es x) 1 0 n)
      ]

  pub count-members : (es : Entries) (places : List ℕ) → IsStrictlyIncreasing places → HasPassing test es places
      → count_by (passes_at test es) places ≡ count_by test (living es)
  count-members es places up h = count-places places es up h ∙ sym (count-living test es)
