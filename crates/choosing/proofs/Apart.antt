-- Labels of assertions differ: which flags some of them have among all.
use Rattle.std.proofs.Common.{◌≡◌, ℕ, suc, zero, Bool, true, false, List, [], ◌∷◌, ◌++◌, length, map, refl, sym, ap, subst}
use Rattle.std.proofs.Common.{◌∙◌, arith, inl, inr}
use Rattle.std.specs.Prelude.{◌||◌, ◌&&◌, filter, replicate}
use Rattle.std.specs.List.{list_any, list_all, AllByRecursion}
use Rattle.std.specs.Str.{bytes_eq}
use Rattle.std.proofs.lemmas.Bool.{cases_Bool, cond-true, cond-false, or_parts, or_from, or_right}
use Rattle.std.proofs.lemmas.List.{map-append}
use Rattle.std.proofs.lemmas.List.Folds.{list_any-append}
use Rattle.mmtext.specs.Words.{Word}
use Rattle.mmsyntax.specs.Assertions.{Distinct}
use Rattle.mmsyntax.proofs.Names.{bytes_eq-same, bytes_eq-sym}
use Rattle.mmsyntax.proofs.Distinct.{all_right}
use Rattle.source.specs.Scopes.{Assertion, is_in}
use Rattle.taking.proofs.Values.{all_more}
use Rattle.choosing.specs.Choices.{labels_of}

-- ---- lists

pub map_same : {A B : Type 0} (f g : A → B) (xs : List A) → AllByRecursion (λ x. f x ≡ g x) xs → map f xs ≡ map g xs
map_same f g [] a = refl
map_same f g (x ∷ xs) a = ap (λ y. y ∷ map f xs) a.0 ∙ ap (λ ys. g x ∷ ys) (map_same f g xs a.1)

pub map_alike : {A B : Type 0} (f : A → B) (b : B) (xs : List A) (n : ℕ) → length xs ≡ n → AllByRecursion (λ x. f x ≡ b) xs
    → map f xs ≡ replicate n b
map_alike f b [] zero h a = refl
map_alike f b [] (suc n) h a = absurd (omega arith)
map_alike f b (x ∷ xs) zero h a = absurd (omega arith)
map_alike f b (x ∷ xs) (suc n) h a = ap (λ y. y ∷ map f xs) a.0 ∙ ap (λ ys. b ∷ ys) (map_alike f b xs n (omega arith) a.1)

pub both_of : {A : Type 0} {P Q R : A → Type 0} (f : (x : A) → P x → Q x → R x) (xs : List A) → AllByRecursion P xs → AllByRecursion Q xs
    → AllByRecursion R xs
both_of f [] a b = tt
both_of f (x ∷ xs) a b = (f x a.0 b.0, both_of f xs a.1 b.1)

-- ---- labels that differ

-- none of the assertions has the label
other : (w : Word) (xs : List Assertion) → list_any (bytes_eq w) (labels_of xs) ≡ false
    → AllByRecursion (λ x. bytes_eq x.label w ≡ false) xs
other w [] none = tt
other w (x ∷ xs) none =
    let both = or_parts (bytes_eq w x.label) (list_any (bytes_eq w) (labels_of xs)) none in
    (bytes_eq-sym x.label w ∙ both.0, other w xs both.1)

-- what isn't among the labels of all isn't among those of some
pub fewer : (p : Assertion → Bool) (w : Word) (xs : List Assertion) → is_in (labels_of xs) w ≡ false
    → is_in (labels_of (filter p xs)) w ≡ false
fewer p w [] none = refl
fewer p w (x ∷ xs) none =
    let both = or_parts (bytes_eq w x.label) (is_in (labels_of xs) w) none in
    elim (cases_Bool (p x)) [
      | inl y ↦
          ap (λ ys. is_in (labels_of ys) w) (cond-true (p x) (x ∷ filter p xs) (filter p xs) y)
          ∙ or_from (bytes_eq w x.label) (is_in (labels_of (filter p xs)) w) both.0 (fewer p w xs both.1)
      | inr n ↦
          ap (λ ys. is_in (labels_of ys) w) (cond-false (p x) (x ∷ filter p xs) (filter p xs) n) ∙ fewer p w xs both.1
    ]

-- those in front have other labels than those behind
pub front_apart : (xs ys : List Assertion) → Distinct bytes_eq (labels_of (xs ++ ys))
    → AllByRecursion (λ x. is_in (labels_of ys) x.label ≡ false) xs
front_apart [] ys d = tt
front_apart (x ∷ xs) ys d =
    let none = sym (list_any-append (bytes_eq x.label) (labels_of xs) (labels_of ys))
    ∙ ap (list_any (bytes_eq x.label)) (sym (map-append (λ (y : Assertion). y.label) xs ys)) ∙ d.0 in
    ((or_parts (is_in (labels_of xs) x.label) (is_in (labels_of ys) x.label) none).1, front_apart xs ys d.1)

all_none : (xs : List Assertion) → AllByRecursion (λ x. is_in [] x.label ≡ false) xs
all_none [] = tt
all_none (x ∷ xs) = (refl, all_none xs)

pub behind_apart : (xs ys : List Assertion) → Distinct bytes_eq (labels_of (xs ++ ys))
    → AllByRecursion (λ y. is_in (labels_of xs) y.label ≡ false) ys
behind_apart [] ys d = all_none ys
behind_apart (x ∷ xs) ys d =
    both_of (λ y e f. or_from (bytes_eq y.label x.label) (is_in (labels_of xs) y.label) e f) ys
    (all_right (λ y. bytes_eq y.label x.label ≡ false) xs ys (other x.label (xs ++ ys) d.0)) (behind_apart xs ys d.1)

-- a label is among those that pass where its assertion passes
pub own_flags : (p : Assertion → Bool) (xs : List Assertion) → Distinct bytes_eq (labels_of xs)
    → AllByRecursion (λ x. is_in (labels_of (filter p xs)) x.label ≡ p x) xs
own_flags p [] d = tt
own_flags p (x ∷ xs) d =
    let rest = own_flags p xs d.1 in
    let apart = other x.label xs d.0 in
    elim (cases_Bool (p x)) [
      | inl y ↦
          let e = cond-true (p x) (x ∷ filter p xs) (filter p xs) y in (
            ap (λ ys. is_in (labels_of ys) x.label) e
                ∙ ap (λ b. b || is_in (labels_of (filter p xs)) x.label) (bytes_eq-same x.label)
                ∙ sym y,
            both_of (λ z a f.
                ap (λ ys. is_in (labels_of ys) z.label) e ∙ ap (λ b. b || is_in (labels_of (filter p xs)) z.label) a ∙ f)
                xs apart rest,
          )
      | inr n ↦
          let e = cond-false (p x) (x ∷ filter p xs) (filter p xs) n in (
            ap (λ ys. is_in (labels_of ys) x.label) e ∙ fewer p x.label xs d.0 ∙ sym n,
            all_more (λ z f. ap (λ ys. is_in (labels_of ys) z.label) e ∙ f) xs rest,
          )
    ]

-- ---- labels that are there

there_of : (q : Word → Bool) (xs : List Assertion) → ((w : Word) → is_in (labels_of xs) w ≡ true → q w ≡ true)
    → AllByRecursion (λ x. q x.label ≡ true) xs
there_of q [] h = tt
there_of q (x ∷ xs) h = (
  h x.label (ap (λ b. b || is_in (labels_of xs) x.label) (bytes_eq-same x.label)),
  there_of q xs (λ w e. h w (or_right (bytes_eq w x.label) (is_in (labels_of xs) w) e)),
)

pub there : (xs : List Assertion) → AllByRecursion (λ x. is_in (labels_of xs) x.label ≡ true) xs
there xs = there_of (is_in (labels_of xs)) xs (λ w e. e)

pub all_pass : {A : Type 0} (p : A → Bool) (xs : List A) → AllByRecursion (λ x. p x ≡ true) xs → list_all p xs ≡ true
all_pass p [] a = refl
all_pass p (x ∷ xs) a = ap (λ b. b && list_all p xs) a.0 ∙ all_pass p xs a.1

pub labels_pass : (q : Word → Bool) (xs : List Assertion) → AllByRecursion (λ x. q x.label ≡ true) xs → list_all q (labels_of xs) ≡ true
labels_pass q [] a = refl
labels_pass q (x ∷ xs) a = ap (λ b. b && list_all q (labels_of xs)) a.0 ∙ labels_pass q xs a.1

pub filter_hold : {A : Type 0} (P : A → Type 0) (p : A → Bool) (xs : List A) → AllByRecursion P xs → AllByRecursion P (filter p xs)
filter_hold P p [] a = tt
filter_hold P p (x ∷ xs) a = elim (cases_Bool (p x)) [
  | inl y ↦ subst (AllByRecursion P) (sym (cond-true (p x) (x ∷ filter p xs) (filter p xs) y)) (a.0, filter_hold P p xs a.1)
  | inr n ↦ subst (AllByRecursion P) (sym (cond-false (p x) (x ∷ filter p xs) (filter p xs) n)) (filter_hold P p xs a.1)
]

-- ---- counting flags

pub count_flags : {A : Type 0} (p : A → Bool) (xs : List A) → length (filter (λ b. b) (map p xs)) ≡ length (filter p xs)
count_flags p [] = refl
count_flags p (x ∷ xs) = elim (cases_Bool (p x)) [
  | inl y ↦
      let e = count_flags p xs in
      let f = ap length (cond-true (p x) (p x ∷ filter (λ b. b) (map p xs)) (filter (λ b. b) (map p xs)) y) in
      let g = ap length (cond-true (p x) (x ∷ filter p xs) (filter p xs) y) in
      omega arith
  | inr n ↦
      let e = count_flags p xs in
      let f = ap length (cond-false (p x) (p x ∷ filter (λ b. b) (map p xs)) (filter (λ b. b) (map p xs)) n) in
      let g = ap length (cond-false (p x) (x ∷ filter p xs) (filter p xs) n) in
      omega arith
]

pub count_trues : (n : ℕ) → length (filter (λ b. b) (replicate n true)) ≡ n
count_trues zero = refl
count_trues (suc n) = ap suc (count_trues n)

pub count_falses : (n : ℕ) → length (filter (λ b. b) (replicate n false)) ≡ 0
count_falses zero = refl
count_falses (suc n) = count_falses n
