-- Lists in turned order.
use Rattle.std.proofs.Common.{◌≡◌, ℕ, zero, suc, ◌<◌, ◌-◌, get_or, List, [], ◌∷◌, ◌++◌, length, map, reverse, refl, sym, ap, ◌∙◌}
use Rattle.std.proofs.Common.{arith, append-nil, subst}
use Rattle.std.specs.Prelude.{Option, Some, None, slice_get, filter_map}
use Rattle.std.specs.Prelude.{Result, Ok, Err, IfOk}
use Rattle.std.proofs.lemmas.Option.{slice_get_within, slice_get-get_or}
use Rattle.std.specs.List.{AllByRecursion, cons_option}
use Rattle.std.proofs.lemmas.List.{map_push, reverse-append}
use Rattle.std.proofs.lemmas.List.Elements.{filter_map-append}
use Rattle.mmsyntax.proofs.Distinct.{all_append}

pub turned_cons : {A : Type 0} (x : A) (xs : List A) → reverse (x ∷ xs) ≡ reverse xs ++ x ∷ []
turned_cons x xs = reverse-append (x ∷ []) xs

pub turned_back : {A : Type 0} (xs : List A) → reverse (reverse xs) ≡ xs
turned_back [] = refl
turned_back (x ∷ xs) =
    ap reverse (turned_cons x xs) ∙ reverse-append (reverse xs) (x ∷ []) ∙ ap (λ ys. x ∷ ys) (turned_back xs)

pub all_turned : {A : Type 0} (P : A → Type 0) (xs : List A) → AllByRecursion P xs → AllByRecursion P (reverse xs)
all_turned P [] a = tt
all_turned P (x ∷ xs) a =
    subst (AllByRecursion P) (sym (turned_cons x xs)) (all_append P (reverse xs) (x ∷ []) (all_turned P xs a.1) (a.0, tt))

turned_option : {A : Type 0} (o : Option A) (xs : List A) → reverse xs ++ cons_option o [] ≡ reverse (cons_option o xs)
turned_option None xs = append-nil (reverse xs)
turned_option (Some x) xs = sym (turned_cons x xs)

pub turned_filter_map : {A B : Type 0} (g : A → Option B) (xs : List A) → filter_map g (reverse xs) ≡ reverse (filter_map g xs)
turned_filter_map g [] = refl
turned_filter_map g (x ∷ xs) =
    ap (filter_map g) (turned_cons x xs)
    ∙ filter_map-append g (reverse xs) (x ∷ [])
    ∙ ap (λ ys. ys ++ cons_option (g x) []) (turned_filter_map g xs)
    ∙ turned_option (g x) (filter_map g xs)

-- the last item
pub last_split : {A : Type 0} (xs : List A) (i : ℕ) (x : A) → suc i ≡ length xs → slice_get xs i ≡ Some x
    → (front : List A) × (xs ≡ front ++ x ∷ [])
last_split [] i x e h = absurd (omega arith)
last_split (y ∷ []) zero x e h = ([], cc)
last_split (y ∷ []) (suc i) x e h = absurd (omega arith)
last_split (y ∷ z ∷ ys) zero x e h = absurd (omega arith)
last_split (y ∷ z ∷ ys) (suc i) x e h =
    let r = last_split (z ∷ ys) i x (omega arith) h in
    (y ∷ r.0, ap (λ zs. y ∷ zs) r.1)

pub last_at : (xs : List ℕ) (x : ℕ) → slice_get xs (length xs - 1) ≡ Some x → (front : List ℕ) × (xs ≡ front ++ x ∷ [])
last_at xs x h =
    let in' : length xs - 1 < length xs = slice_get_within xs (length xs - 1) x h in
    last_split xs (length xs - 1) x (omega arith) h

pub none_at_last : (xs : List ℕ) → slice_get xs (length xs - 1) ≡ None → xs ≡ []
none_at_last [] h = refl
none_at_last (x ∷ xs) h =
    let in' : length (x ∷ xs) - 1 < length (x ∷ xs) = omega arith in
    let e : Some (get_or (x ∷ xs) (length (x ∷ xs) - 1) x) ≡ None = sym (slice_get-get_or (x ∷ xs) (length (x ∷ xs) - 1) x in') ∙ h in
    absurd cc

-- a clause that follows from another
pub if_ok : {T E : Type 0} {P Q : T → Type 0} (r : Result T E) → ((x : T) → P x → Q x) → IfOk r P → IfOk r Q
if_ok (Ok x) f h = f x h
if_ok (Err e) f h = tt

pub turned_map : {A B : Type 0} (f : A → B) (xs : List A) → map f (reverse xs) ≡ reverse (map f xs)
turned_map f [] = refl
turned_map f (x ∷ xs) =
    ap (map f) (turned_cons x xs) ∙ map_push f (reverse xs) x ∙ ap (λ l. l ++ f x ∷ []) (turned_map f xs)
    ∙ sym (turned_cons (f x) (map f xs))
