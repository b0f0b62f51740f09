-- Items that have values, one after the other.
use Rattle.std.proofs.Common.{◌≡◌, ◌<◌, ◌≤◌, ℕ, ◌+◌, List, [], ◌∷◌, ◌++◌, length, drop, get_or, refl, sym, ap, ◌∙◌, append_assoc}
use Rattle.std.proofs.Common.{append-nil}
use Rattle.std.specs.Prelude.{Option, Some, None}
use Rattle.std.proofs.lemmas.List.{at_drop_more, at_drop_all}
use Rattle.taking.specs.Says.{both, each}

-- values so far, before those of the rest
abbrev pub following : {A : Type 0} → List A → Option (List A) → Option (List A)
following xs None = None
following xs (Some ys) = Some (xs ++ ys)

one_more : {A : Type 0} (xs : List A) (x : A) (r : Option (List A)) → following xs (both (Some x) r) ≡ following (xs ++ x ∷ []) r
one_more xs x None = refl
one_more xs x (Some ys) = ap (λ zs. Some zs) (sym (append_assoc xs (x ∷ []) ys))

pub none_yet : {A : Type 0} (r : Option (List A)) → r ≡ following [] r
none_yet None = refl
none_yet (Some ys) = refl

module _ {A B : Type 0} (f : A → Option B) (items : List A) (done : List B) (i : ℕ) (d : A) (h : i < length items) where
  -- an item has a value
  pub each_more : (x : B) → f (get_or items i d) ≡ Some x
      → following done (each f (drop i items)) ≡ following (done ++ x ∷ []) (each f (drop (i + 1) items))
  each_more x is =
      at_drop_more (λ xs. following done (each f xs)) items i d h
      ∙ ap (λ o. following done (both o (each f (drop (i + 1) items)))) is
      ∙ one_more done x (each f (drop (i + 1) items))

  -- an item has none
  pub each_none : f (get_or items i d) ≡ None → following done (each f (drop i items)) ≡ None
  each_none is =
      at_drop_more (λ xs. following done (each f xs)) items i d h
      ∙ ap (λ o. following done (both o (each f (drop (i + 1) items)))) is

-- each item had one
pub each_all : {A B : Type 0} (f : A → Option B) (items : List A) (done : List B) (i : ℕ) → length items ≤ i
    → following done (each f (drop i items)) ≡ Some done
each_all f items done i h =
    at_drop_all (λ xs. following done (each f xs)) items i h ∙ ap (λ xs. Some xs) (append-nil done)
