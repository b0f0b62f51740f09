-- Lists of the code that are gathered one by one, as the rules see them.
use Rattle.std.proofs.Common.{◌≡◌, ◌∙◌, suc, Bool, true, false, cond, List, [], ◌∷◌, ◌++◌, length, map, Option, Some, None}
use Rattle.std.proofs.Common.{refl, sym, ap}
use Rattle.std.specs.Prelude.{filter, filter_map}
use Rattle.std.specs.List.{cons_option}
use Rattle.std.specs.Option.{option_map}
use Rattle.std.proofs.lemmas.List.{append-nil, map_push}
use Rattle.std.proofs.lemmas.List.Elements.{filter_map-append}

-- one more that is gathered, or isn't
pub gathered_some : {A B C : Type 0} (view : A → B) (f : C → Option B) (xs : List C) (x : C) (before : List A) (a : A)
    → map view before ≡ filter_map f xs → Some (view a) ≡ f x → map view (before ++ a ∷ []) ≡ filter_map f (xs ++ x ∷ [])
gathered_some view f xs x before a so_far is =
    map_push view before a
    ∙ (ap (λ bs. bs ++ view a ∷ []) so_far
    ∙ (ap (λ o. filter_map f xs ++ cons_option o []) is ∙ sym (filter_map-append f xs (x ∷ []))))

pub gathered_none : {A B C : Type 0} (view : A → B) (f : C → Option B) (xs : List C) (x : C) (before : List A)
    → map view before ≡ filter_map f xs → None ≡ f x → map view before ≡ filter_map f (xs ++ x ∷ [])
gathered_none view f xs x before so_far is =
    so_far
    ∙ (sym (append-nil (filter_map f xs))
    ∙ (ap (λ o. filter_map f xs ++ cons_option o []) is ∙ sym (filter_map-append f xs (x ∷ []))))

pub no_view : {A B : Type 0} (view : A → B) (o : Option A) → ((a : A) → o ≡ Some a → ⊥) → None ≡ option_map view o
no_view view None n = refl
no_view view (Some a) n = absurd (n a refl)

-- as many pass as of what is seen
pub passing_seen : {A B : Type 0} (view : A → B) (test : B → Bool) (xs : List A)
    → length (filter (λ x. test (view x)) xs) ≡ length (filter test (map view xs))
passing_seen view test [] = refl
passing_seen {A} view test (x ∷ xs) = at (test (view x)) (passing_seen view test xs)
  where
    at : (b : Bool) → length (filter (λ x. test (view x)) xs) ≡ length (filter test (map view xs))
        → length (cond b (x ∷ filter (λ x. test (view x)) xs) (filter (λ x. test (view x)) xs))
        ≡ length (cond b (view x ∷ filter test (map view xs)) (filter test (map view xs)))
    at true h = ap (λ n. suc n) h
    at false h = h
