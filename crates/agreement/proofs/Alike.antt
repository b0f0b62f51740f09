-- What is so of each item of a list, and of each of a list made of it.
use Rattle.std.proofs.Common.{◌≡◌, ℕ, Bool, true, false, List, [], ◌∷◌, refl, sym, ap, ◌∙◌, subst, inl, inr}
use mathlib.Core.Path.{ap₂}
use Rattle.std.specs.Prelude.{Option, Some, None, ◌↔◌, ◌||◌, filter, IfSome, Contains, if◌then◌else◌}
use Rattle.std.specs.Option.{option_map_or}
use Rattle.std.specs.List.{list_any, list_all, filter_map, cons_option, AllByRecursion}
use Rattle.std.proofs.lemmas.Bool.{cases_Bool, cond-true, cond-false, and_parts, and_from}
use Rattle.std.proofs.lemmas.List.Elements.{All-contains, All-from_recursion, recursion_from_All, Contains-get_or}
use Rattle.mmsyntax.specs.Blocks.{is_same_pair, is_pair_below, with_pair}
use Rattle.mmsyntax.proofs.Names.{swap_or}
use Rattle.derivation.proofs.Decisions.{pairs-decide}
use Rattle.taking.specs.Says.{each, ascending}
use Rattle.agreement.proofs.Substituted.{each_cons, each_short, each_long}

pub chain : {A B C : Type 0} → A ↔ B → B ↔ C → A ↔ C
chain f g = (λ a. g.0 (f.0 a), λ c. f.1 (g.1 c))

pub turned : {A B : Type 0} → A ↔ B → B ↔ A
turned f = (f.1, f.0)

-- ---- each item

pub each_alike : {A : Type 0} (P Q : A → Type 0) (xs : List A) → ((x : A) → P x ↔ Q x) → AllByRecursion P xs ↔ AllByRecursion Q xs
each_alike P Q [] f = (λ h. tt, λ h. tt)
each_alike P Q (x ∷ xs) f =
    let later = each_alike P Q xs f in
    let here = f x in
    (λ h. (here.0 h.0, later.0 h.1), λ h. (here.1 h.0, later.1 h.1))

-- and its value
pub valued_alike : {A B : Type 0} (f : A → Option B) (P : A → Type 0) (Q : B → Type 0) (xs : List A) (zs : List B) → each f xs ≡ Some zs
    → ((x : A) (z : B) → f x ≡ Some z → P x ↔ Q z) → AllByRecursion P xs ↔ AllByRecursion Q zs
valued_alike f P Q [] [] e h = (λ k. tt, λ k. tt)
valued_alike f P Q [] (z ∷ zs) e h = absurd (each_long f z zs e)
valued_alike f P Q (x ∷ xs) [] e h = absurd (each_short f x xs e)
valued_alike f P Q (x ∷ xs) (z ∷ zs) e h =
    let parts = each_cons f x xs z zs e in
    let here = h x z parts.0 in
    let later = valued_alike f P Q xs zs parts.1 h in
    (λ k. (here.0 k.0, later.0 k.1), λ k. (here.1 k.0, later.1 k.1))

pub each_given : {A : Type 0} (T : Type 0) (P : A → Type 0) (xs : List A) → (T → AllByRecursion P xs) ↔ AllByRecursion (λ x. T → P x) xs
each_given T P [] = (λ h. tt, λ h t. tt)
each_given T P (x ∷ xs) =
    let later = each_given T P xs in (
      λ h. (λ t. (h t).0, later.0 (λ t. (h t).1)),
      λ h t. (h.0 t, later.1 h.1 t),
    )

pub each_contained : {A : Type 0} (P : A → Type 0) (xs : List A) → AllByRecursion P xs ↔ ((x : A) → Contains xs x → P x)
each_contained P xs = (
  λ h x c. All-contains P xs x (All-from_recursion P xs h) c,
  λ f. recursion_from_All P xs (λ k d lt. f _ (Contains-get_or xs k d lt)),
)

-- ---- tests

pub all_tested : {A : Type 0} (test : A → Bool) (xs : List A) → (list_all test xs ≡ true) ↔ AllByRecursion (λ x. test x ≡ true) xs
all_tested test [] = (λ h. tt, λ h. refl)
all_tested test (x ∷ xs) =
    let later = all_tested test xs in (
      λ h. let both = and_parts (test x) (list_all test xs) h in (both.0, later.0 both.1),
      λ h. and_from (test x) (list_all test xs) h.0 (later.1 h.1),
    )

pub each_kept : {A : Type 0} (P : A → Type 0) (test : A → Bool) (xs : List A)
    → AllByRecursion P (filter test xs) ↔ AllByRecursion (λ x. test x ≡ true → P x) xs
each_kept P test [] = (λ h. tt, λ h. tt)
each_kept P test (x ∷ xs) =
    let later = each_kept P test xs in
    elim (cases_Bool (test x)) [
      | inl y ↦
          let same : filter test (x ∷ xs) ≡ x ∷ filter test xs = cond-true (test x) (x ∷ filter test xs) (filter test xs) y in (
            λ h. let both = subst (AllByRecursion P) same h in (λ t. both.0, later.0 both.1),
            λ h. subst (AllByRecursion P) (sym same) (h.0 y, later.1 h.1),
          )
      | inr n ↦
          let same : filter test (x ∷ xs) ≡ filter test xs = cond-false (test x) (x ∷ filter test xs) (filter test xs) n in (
            λ h. ((λ t. absurd (let no : true ≡ false = sym t ∙ n in cc)), later.0 (subst (AllByRecursion P) same h)),
            λ h. subst (AllByRecursion P) (sym same) (later.1 h.1),
          )
    ]

-- all that pass one test pass another
pub kept_tested : {A : Type 0} (test keeps : A → Bool) (xs : List A)
    → (list_all test (filter keeps xs) ≡ true) ↔ AllByRecursion (λ x. keeps x ≡ true → test x ≡ true) xs
kept_tested test keeps xs = chain (all_tested test (filter keeps xs)) (each_kept (λ x. test x ≡ true) keeps xs)

-- ---- what some items become

one_option : {A : Type 0} (P : A → Type 0) (o : Option A) (xs : List A)
    → AllByRecursion P (cons_option o xs) ↔ (IfSome o P × AllByRecursion P xs)
one_option P None xs = (λ h. (tt, h), λ h. h.1)
one_option P (Some x) xs = (λ h. h, λ h. h)

pub each_mapped : {A B : Type 0} (P : B → Type 0) (f : A → Option B) (xs : List A)
    → AllByRecursion P (filter_map f xs) ↔ AllByRecursion (λ x. IfSome (f x) P) xs
each_mapped P f [] = (λ h. tt, λ h. tt)
each_mapped P f (x ∷ xs) =
    let here = one_option P (f x) (filter_map f xs) in
    let later = each_mapped P f xs in
    (λ h. let both = here.0 h in (both.0, later.0 both.1), λ h. here.1 (h.0, later.1 h.1))

some_option : {A : Type 0} (p : A → Bool) (o : Option A) (xs : List A)
    → list_any p (cons_option o xs) ≡ (option_map_or p o false || list_any p xs)
some_option p None xs = refl
some_option p (Some x) xs = refl

pub any_mapped : {A B : Type 0} (p : B → Bool) (q : A → Bool) (f : A → Option B) (xs : List A)
    → ((x : A) → option_map_or p (f x) false ≡ q x) → list_any p (filter_map f xs) ≡ list_any q xs
any_mapped p q f [] h = refl
any_mapped p q f (x ∷ xs) h = some_option p (f x) (filter_map f xs) ∙ ap₂ (λ a b. a || b) (h x) (any_mapped p q f xs h)

-- ---- pairs in order

or_twice : (a b : Bool) → (a || b) ≡ (a || (a || b))
or_twice true b = refl
or_twice false b = refl

module _ (p : ℕ × ℕ) where
  -- p in its place before others
  placed_alike : (C : List (ℕ × ℕ) → Type 0) (q : ℕ × ℕ) (qs : List (ℕ × ℕ))
      → (p ≡ q → C (q ∷ qs)) → C (p ∷ q ∷ qs) → C (q ∷ with_pair p qs) → C (with_pair p (q ∷ qs))
  placed_alike C q qs same below above = elim (cases_Bool (is_same_pair p q)) [
    | inl y ↦ subst C (sym (cond-true (is_same_pair p q) (q ∷ qs) _ y)) (same ((pairs-decide p q).0 y))
    | inr n ↦ subst C (sym (cond-false (is_same_pair p q) (q ∷ qs) (if is_pair_below p q then p ∷ q ∷ qs else q ∷ with_pair p qs) n))
        (elim (cases_Bool (is_pair_below p q)) [
          | inl y ↦ subst C (sym (cond-true (is_pair_below p q) (p ∷ q ∷ qs) _ y)) below
          | inr m ↦ subst C (sym (cond-false (is_pair_below p q) (p ∷ q ∷ qs) (q ∷ with_pair p qs) m)) above
        ])
  ]

  one_placed : (P : ℕ × ℕ → Type 0) (qs : List (ℕ × ℕ)) → AllByRecursion P (with_pair p qs) ↔ (P p × AllByRecursion P qs)
  one_placed P [] = (λ h. h, λ h. h)
  one_placed P (q ∷ qs) =
      let later = one_placed P qs in
      placed_alike (λ l. AllByRecursion P l ↔ (P p × AllByRecursion P (q ∷ qs))) q qs
      (λ e. (λ h. (subst P (sym e) h.0, h), λ h. h.1)) (λ h. h, λ h. h)
      (λ h. let both = later.0 h.1 in (both.0, (h.0, both.1)), λ h. (h.1.0, later.1 (h.0, h.1.1)))

  some_placed : (test : ℕ × ℕ → Bool) (qs : List (ℕ × ℕ)) → list_any test (with_pair p qs) ≡ (test p || list_any test qs)
  some_placed test [] = refl
  some_placed test (q ∷ qs) =
      placed_alike (λ l. list_any test l ≡ (test p || list_any test (q ∷ qs))) q qs
      (λ e. or_twice (test q) (list_any test qs) ∙ ap (λ r. test r || (test q || list_any test qs)) (sym e)) refl
      (ap (λ b. test q || b) (some_placed test qs) ∙ swap_or (test q) (test p) (list_any test qs))

pub each_ascending : (P : ℕ × ℕ → Type 0) (ps : List (ℕ × ℕ)) → AllByRecursion P (ascending ps) ↔ AllByRecursion P ps
each_ascending P [] = (λ h. h, λ h. h)
each_ascending P (p ∷ ps) =
    let here = one_placed p P (ascending ps) in
    let later = each_ascending P ps in
    (λ h. let both = here.0 h in (both.0, later.0 both.1), λ h. here.1 (h.0, later.1 h.1))

pub any_ascending : (test : ℕ × ℕ → Bool) (ps : List (ℕ × ℕ)) → list_any test (ascending ps) ≡ list_any test ps
any_ascending test [] = refl
any_ascending test (p ∷ ps) = some_placed p test (ascending ps) ∙ ap (λ b. test p || b) (any_ascending test ps)
