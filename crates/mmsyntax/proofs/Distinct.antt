-- Lists whose items differ, and the names of what is known.
use Rattle.std.proofs.Common.{◌≡◌, ℕ, zero, suc, ◌<◌, Bool, true, false, cond, List, [], ◌∷◌, ◌++◌, length, get_or, map, Option, Some}
use Rattle.std.proofs.Common.{None, refl, sym, ap, subst, ◌∙◌, arith, append_assoc}
use Rattle.std.specs.Prelude.{◌||◌, is_some}
use Rattle.std.specs.Option.{option_map}
use Rattle.std.specs.List.{list_any, AllByRecursion}
use Rattle.std.specs.Str.{bytes_eq}
use Rattle.std.proofs.lemmas.Bool.{cond-true, cond-false, or_parts, or_from}
use Rattle.std.proofs.lemmas.List.Folds.{list_any-append}
pub use Rattle.std.proofs.lemmas.Bool.{or_parts as or_false, and_parts as and_true, or_from as both_false}
use Rattle.mmsyntax.specs.declared.statement.Float.{Float}
use Rattle.mmsyntax.specs.declared.statement.Assertion.{Assertion}
use Rattle.mmsyntax.specs.Tables.{Tables, place_of, named, meaning}
use Rattle.mmsyntax.specs.Rows.{Known, is_used, is_assertion_label}
use Rattle.mmtext.specs.Words.{Word}
use Rattle.mmsyntax.specs.Assertions.{Distinct}
pub use Rattle.mmsyntax.specs.Preludes.{float_labels, prelude_names}
use Rattle.mmsyntax.proofs.Names.{bytes_eq-same, bytes_eq-sym, swap_or}
use Rattle.mmsyntax.proofs.Options.{mapped_some}

-- ---- in general

pub any_insert : {A : Type 0} (p : A → Bool) (a b : List A) (x : A) → list_any p (a ++ x ∷ b) ≡ (p x || list_any p (a ++ b))
any_insert p [] b x = refl
any_insert p (y ∷ a) b x = ap (λ c. p y || c) (any_insert p a b x) ∙ swap_or (p y) (p x) (list_any p (a ++ b))

module _ {A : Type 0} (eq : A → A → Bool) (eq-sym : (a b : A) → eq a b ≡ eq b a) where
  pub distinct_insert : (a b : List A) (w : A) → Distinct eq (a ++ b) → list_any (eq w) (a ++ b) ≡ false → Distinct eq (a ++ w ∷ b)
  distinct_insert [] b w d h = (h, d)
  distinct_insert (x ∷ a) b w d h =
      let both = or_parts (eq w x) (list_any (eq w) (a ++ b)) h in
      (any_insert (eq x) a b w ∙ or_from (eq x w) (list_any (eq x) (a ++ b)) (eq-sym x w ∙ both.0) d.0, distinct_insert a b w d.1 both.1)

  pub distinct_front : (a b : List A) (w : A) → Distinct eq (a ++ w ∷ b) → list_any (eq w) a ≡ false
  distinct_front [] b w d = refl
  distinct_front (x ∷ a) b w d =
      let both = or_parts (eq x w) (list_any (eq x) (a ++ b)) (sym (any_insert (eq x) a b w) ∙ d.0) in
      or_from (eq w x) (list_any (eq w) a) (eq-sym w x ∙ both.0) (distinct_front a b w d.1)

pub distinct_left : {A : Type 0} (eq : A → A → Bool) (a b : List A) → Distinct eq (a ++ b) → Distinct eq a
distinct_left eq [] b d = tt
distinct_left eq (x ∷ a) b d = (
  (or_parts (list_any (eq x) a) (list_any (eq x) b) (sym (list_any-append (eq x) a b) ∙ d.0)).0,
  distinct_left
      eq a b d.1,
)

pub distinct_right : {A : Type 0} (eq : A → A → Bool) (a b : List A) → Distinct eq (a ++ b) → Distinct eq b
distinct_right eq [] b d = d
distinct_right eq (x ∷ a) b d = distinct_right eq a b d.1

pub any_at : {A : Type 0} (p : A → Bool) (xs : List A) (i : ℕ) (d : A) → list_any p xs ≡ false → i < length xs → p (get_or xs i d) ≡ false
any_at p [] i d h lt = absurd (omega arith)
any_at p (x ∷ xs) zero d h lt = (or_parts (p x) (list_any p xs) h).0
any_at p (x ∷ xs) (suc i) d h lt = any_at p xs i d (or_parts (p x) (list_any p xs) h).1 (omega arith)

-- a word of the second list is none of the first
pub cross : (a b : List Word) (i : ℕ) → Distinct bytes_eq (a ++ b) → i < length b → list_any (bytes_eq (get_or b i [])) a ≡ false
cross a [] i d lt = absurd (omega arith)
cross a (x ∷ b) zero d lt = distinct_front bytes_eq bytes_eq-sym a b x d
cross a (x ∷ b) (suc i) d lt =
    let w = get_or b i [] in
    (or_parts (list_any (bytes_eq w) a) (list_any (bytes_eq w) (x ∷ []))
    (sym (list_any-append (bytes_eq w) a (x ∷ [])) ∙ cross (a ++ x ∷ []) b i
    (subst (Distinct bytes_eq) (sym (append_assoc a (x ∷ []) b)) d) (omega arith))).0

-- an item of a list of different words is found at its place
pub place_of-item : (ws : List Word) (i : ℕ) → Distinct bytes_eq ws → i < length ws → place_of (bytes_eq (get_or ws i [])) ws ≡ Some i
place_of-item [] i d lt = absurd (omega arith)
place_of-item (w ∷ ws) zero d lt = cond-true (bytes_eq w w) (Some 0) _ (bytes_eq-same w)
place_of-item (w ∷ ws) (suc i) d lt =
    let w' = get_or ws i [] in
    cond-false (bytes_eq w' w) (Some 0) (option_map (λ n. suc n) (place_of (bytes_eq w') ws))
    (bytes_eq-sym w' w ∙ any_at (bytes_eq w) ws i [] d.0 (omega arith))
    ∙ ap (λ o. option_map (λ n. suc n) o) (place_of-item ws i d.1 (omega arith))

-- what is at no place
pub place_of-absent : {A : Type 0} (p : A → Bool) (xs : List A) → list_any p xs ≡ false → place_of p xs ≡ None
place_of-absent p [] h = refl
place_of-absent p (x ∷ xs) h =
    let both = or_parts (p x) (list_any p xs) h in
    cond-false (p x) (Some 0) _ both.0 ∙ ap (λ o. option_map (λ n. suc n) o) (place_of-absent p xs both.1)

is_some-or : (b : Bool) (o : Option ℕ) → is_some (cond b (Some 0) o) ≡ (b || is_some o)
is_some-or true o = refl
is_some-or false o = refl

pub is_some-place_of : {A : Type 0} (p : A → Bool) (xs : List A) → is_some (place_of p xs) ≡ list_any p xs
is_some-place_of p [] = refl
is_some-place_of p (x ∷ xs) = is_some-or (p x) (option_map (λ n. suc n) (place_of p xs))
    ∙ ap (λ b. p x || b) (mapped_some (λ (n : ℕ). suc n) (place_of p xs) ∙ is_some-place_of p xs)

pub any-map : {A B : Type 0} (p : B → Bool) (f : A → B) (xs : List A) → list_any p (map f xs) ≡ list_any (λ x. p (f x)) xs
any-map p f [] = refl
any-map p f (x ∷ xs) = ap (λ b. p (f x) || b) (any-map p f xs)

-- ---- names

abbrev pub labels_of : List Assertion → List Word
labels_of xs = map (λ a. a.label) xs

is_some-named : (fs : List Float) (c v l : Option ℕ) → is_some (named fs c v l) ≡ (is_some c || (is_some v || is_some l))
is_some-named fs (Some i) v l = refl
is_some-named fs None (Some i) l = refl
is_some-named fs None None (Some j) = refl
is_some-named fs None None None = refl

-- a word names something of a prelude where it is one of its names
pub is_some-meaning : (t : Tables) (w : Word) → is_some (meaning t w) ≡ list_any (bytes_eq w) (prelude_names t)
unfolding meaning
is_some-meaning t w =
    let p = bytes_eq w in
    let c = list_any p t.constants in
    let v = list_any p t.variables in
    is_some-named t.floats _ _ _
    ∙ ap (λ b. b || (is_some (place_of p t.variables) || is_some (place_of (λ f. p f.label) t.floats))) (is_some-place_of p t.constants)
    ∙ ap (λ b. c || (b || is_some (place_of (λ f. p f.label) t.floats))) (is_some-place_of p t.variables)
    ∙ ap (λ b. c || (v || b)) (is_some-place_of (λ f. p f.label) t.floats ∙ sym (any-map p (λ f. f.label) t.floats))
    ∙ sym (list_any-append p t.constants _ ∙ ap (λ b. c || b) (list_any-append p t.variables (float_labels t.floats)))

-- what a word that is not used yet is not
pub record IsNew (k : Known) (w : Word) : Type 0 where
  pub not_named : is_some (meaning k.tables w) ≡ false
  pub not_label : list_any (bytes_eq w) (labels_of k.units.assertions) ≡ false
  pub not_hypothesis : list_any (bytes_eq w) k.units.hypothesis_labels ≡ false

pub new_word : (k : Known) (w : Word) → is_used k w ≡ false → IsNew k w
new_word k w h =
    let a = or_parts (is_some (meaning k.tables w)) _ h in
    let b = or_parts (is_assertion_label k.units.assertions w) _ a.1 in
    record { not_named = a.0; not_label = any-map (bytes_eq w) (λ a. a.label) k.units.assertions ∙ b.0; not_hypothesis = b.1 }

pub not_used : (k : Known) (w : Word) → IsNew k w → is_used k w ≡ false
not_used k w n =
    or_from (is_some (meaning k.tables w)) _ n.not_named
    (or_from (is_assertion_label k.units.assertions w) _
    (sym (any-map (bytes_eq w) (λ a. a.label) k.units.assertions) ∙ n.not_label) n.not_hypothesis)

-- ---- facts of each item

pub all_push : {A : Type 0} (P : A → Type 0) (xs : List A) (x : A) → AllByRecursion P xs → P x → AllByRecursion P (xs ++ x ∷ [])
all_push P [] x h p = (p, tt)
all_push P (y ∷ ys) x h p = (h.0, all_push P ys x h.1 p)

pub all_weaker : {A : Type 0} (P Q : A → Type 0) (xs : List A) → ((x : A) → P x → Q x) → AllByRecursion P xs → AllByRecursion Q xs
all_weaker P Q [] f h = tt
all_weaker P Q (x ∷ xs) f h = (f x h.0, all_weaker P Q xs f h.1)

pub all_append : {A : Type 0} (P : A → Type 0) (xs ys : List A) → AllByRecursion P xs → AllByRecursion P ys → AllByRecursion P (xs ++ ys)
all_append P [] ys h g = g
all_append P (x ∷ xs) ys h g = (h.0, all_append P xs ys h.1 g)

pub all_left : {A : Type 0} (P : A → Type 0) (xs ys : List A) → AllByRecursion P (xs ++ ys) → AllByRecursion P xs
all_left P [] ys h = tt
all_left P (x ∷ xs) ys h = (h.0, all_left P xs ys h.1)

pub all_right : {A : Type 0} (P : A → Type 0) (xs ys : List A) → AllByRecursion P (xs ++ ys) → AllByRecursion P ys
all_right P [] ys h = h
all_right P (x ∷ xs) ys h = all_right P xs ys h.1

pub all_map : {A B : Type 0} (P : A → Type 0) (Q : B → Type 0) (f : A → B) (xs : List A) → ((x : A) → P x → Q (f x)) → AllByRecursion P xs
    → AllByRecursion Q (map f xs)
all_map P Q f [] g h = tt
all_map P Q f (x ∷ xs) g h = (g x h.0, all_map P Q f xs g h.1)

-- a word that differs from each is none of them
pub none_of : (Q : Word → Type 0) (w : Word) (ws : List Word) → ((v : Word) → Q v → bytes_eq w v ≡ false) → AllByRecursion Q ws
    → list_any (bytes_eq w) ws ≡ false
none_of Q w [] f h = refl
none_of Q w (v ∷ ws) f h = or_from (bytes_eq w v) (list_any (bytes_eq w) ws) (f v h.0) (none_of Q w ws f h.1)
