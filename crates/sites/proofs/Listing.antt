-- Lists of what is found for words, one word after the other.
use Rattle.std.proofs.Common.{◌≡◌, ◌∙◌, ℕ, ◌+◌, ◌<◌, List, [], ◌∷◌, ◌++◌, length, take, get_or, Option, Some, None, refl, sym, ap}
use Rattle.std.proofs.Common.{Bool, true, false, cond}
use Rattle.std.specs.Prelude.{filter, filter_map}
use Rattle.std.specs.List.{cons_option}
use Rattle.std.specs.Borrow.{Bor}
use Rattle.std.proofs.lemmas.List.{map_more, append-nil}
use Rattle.std.proofs.lemmas.List.Elements.{filter-append, filter_map-append}
use Rattle.mmtext.specs.Words.{Word}
use Rattle.source.specs.Views.{seen_words}

-- one more word
values_more : {A : Type 0} (f : Word → Option A) (ws : List (Bor (List ℕ))) (i : ℕ) (d : Bor (List ℕ)) → i < length ws
    → filter_map f (seen_words (take (i + 1) ws)) ≡ filter_map f (seen_words (take i ws)) ++ cons_option (f (get_or ws i d).now) []
values_more f ws i d h =
    ap (filter_map f) (map_more (λ (w : Bor (List ℕ)). w.now) ws i d h)
    ∙ filter_map-append f (seen_words (take i ws)) ((get_or ws i d).now ∷ [])

-- that has a value, or none
pub values_some : {A : Type 0} (f : Word → Option A) (ws : List (Bor (List ℕ))) (i : ℕ) (d : Bor (List ℕ)) (x : A) → i < length ws
    → f (get_or ws i d).now ≡ Some x → filter_map f (seen_words (take (i + 1) ws)) ≡ filter_map f (seen_words (take i ws)) ++ x ∷ []
values_some f ws i d x h is =
    values_more f ws i d h ∙ ap (λ o. filter_map f (seen_words (take i ws)) ++ cons_option o []) is

pub values_none : {A : Type 0} (f : Word → Option A) (ws : List (Bor (List ℕ))) (i : ℕ) (d : Bor (List ℕ)) → i < length ws
    → f (get_or ws i d).now ≡ None → filter_map f (seen_words (take (i + 1) ws)) ≡ filter_map f (seen_words (take i ws))
values_none f ws i d h is =
    values_more f ws i d h
    ∙ ap (λ o. filter_map f (seen_words (take i ws)) ++ cons_option o []) is
    ∙ append-nil (filter_map f (seen_words (take i ws)))

-- one more word, where those are kept that pass
kept_by : (p : Word → Bool) (ws : List (Bor (List ℕ))) (i : ℕ) (d : Bor (List ℕ)) → i < length ws
    → filter p (seen_words (take (i + 1) ws)) ≡ filter p (seen_words (take i ws)) ++ filter p ((get_or ws i d).now ∷ [])
kept_by p ws i d h =
    ap (filter p) (map_more (λ (w : Bor (List ℕ)). w.now) ws i d h)
    ∙ filter-append p (seen_words (take i ws)) ((get_or ws i d).now ∷ [])

-- that passes, or doesn't
pub passes : (p : Word → Bool) (ws : List (Bor (List ℕ))) (i : ℕ) (d : Bor (List ℕ)) → i < length ws → p (get_or ws i d).now ≡ true
    → filter p (seen_words (take (i + 1) ws)) ≡ filter p (seen_words (take i ws)) ++ (get_or ws i d).now ∷ []
passes p ws i d h is =
    kept_by p ws i d h ∙ ap (λ b. filter p (seen_words (take i ws)) ++ cond b ((get_or ws i d).now ∷ []) []) is

pub fails : (p : Word → Bool) (ws : List (Bor (List ℕ))) (i : ℕ) (d : Bor (List ℕ)) → i < length ws → p (get_or ws i d).now ≡ false
    → filter p (seen_words (take (i + 1) ws)) ≡ filter p (seen_words (take i ws))
fails p ws i d h is =
    kept_by p ws i d h
    ∙ ap (λ b. filter p (seen_words (take i ws)) ++ cond b ((get_or ws i d).now ∷ []) []) is
    ∙ append-nil (filter p (seen_words (take i ws)))
