-- What a map of first places finds after one more word.
use Rattle.std.proofs.Common.{◌≡◌, ◌∙◌, ℕ, Bool, true, false, cond, List, [], ◌∷◌, ◌++◌, length, Option, Some, None, refl, sym, ap, subst}
use Rattle.std.proofs.Common.{inl, inr}
use Rattle.std.specs.Prelude.{IfSome, ◌<◌}
use Rattle.std.specs.Option.{option_or, is_some}
use Rattle.std.specs.Str.{bytes_eq}
use Rattle.std.specs.Borrow.{Bor}
use Rattle.std.specs.HashMap as hash
use Rattle.std.specs.HashMap.{HashMap}
use Rattle.std.specs.declared.random_state.RandomState.{RandomState}
use Rattle.std.proofs.lemmas.Bool.{cases_Bool, cond-true, cond-false}
use Rattle.std.proofs.lemmas.Map.Text.{hash_map_updates_str}
use Rattle.mmtext.specs.Words.{Word}
use Rattle.mmsyntax.specs.Tables.{place_of}
use Rattle.mmsyntax.proofs.Names.{bytes_eq-sym, same_bytes, place_of-push, place_of-at}
use Rattle.sites.specs.Indexes.{looks_up, FindsPlaces}

-- ---- a word that has a place

false_true : false ≡ true → ⊥
false_true e = cc

known_place : (o : Option ℕ) (b : Bool) (n : ℕ) → (b ≡ true → is_some o ≡ true) → o ≡ option_or o (cond b (Some n) None)
known_place (Some i) b n h = refl
known_place None false n h = refl
known_place None true n h = absurd (false_true (h refl))

pub finds_again : (m : HashMap (Bor (List ℕ)) ℕ RandomState) (ws : List Word) (x : Word) → FindsPlaces m ws
    → is_some (looks_up m x) ≡ true → FindsPlaces m (ws ++ x ∷ [])
finds_again m ws x found there w =
    let here : bytes_eq w x ≡ true → is_some (place_of (bytes_eq w) ws) ≡ true =
    λ e. subst (λ v. is_some (place_of (bytes_eq v) ws) ≡ true) (sym (same_bytes w x e)) (ap is_some (sym (found x)) ∙ there) in
    found w ∙ known_place (place_of (bytes_eq w) ws) (bytes_eq w x) (length ws) here ∙ sym (place_of-push (bytes_eq w) ws x)

-- ---- a word that has none

no_place : (o : Option ℕ) (b : Bool) (n : ℕ) → (b ≡ true → is_some o ≡ false) → cond b (Some n) o ≡ option_or o (cond b (Some n) None)
no_place None b n h = refl
no_place (Some i) false n h = refl
no_place (Some i) true n h = absurd (false_true (sym (h refl)))

pub finds_new : (m n : HashMap (Bor (List ℕ)) ℕ RandomState) (ws : List Word) (x : Word) (place : ℕ) → FindsPlaces m ws
    → place ≡ length ws → is_some (looks_up m x) ≡ false
    → hash.UpdatesBy (λ x y. bytes_eq x.now y.now) (λ k. bytes_eq x k.now) m n (Some place) → FindsPlaces n (ws ++ x ∷ [])
finds_new m n ws x place found at_end absent updates w =
    let b = bytes_eq w x in
    let none : b ≡ true → is_some (place_of (bytes_eq w) ws) ≡ false =
    λ e. subst (λ v. is_some (place_of (bytes_eq v) ws) ≡ false) (sym (same_bytes w x e)) (ap is_some (sym (found x)) ∙ absent) in
    hash_map_updates_str x m n (Some place) updates w
    ∙ ap (λ t. cond t (Some place) (looks_up m w)) (bytes_eq-sym x w)
    ∙ ap (λ o. cond b (Some place) o) (found w)
    ∙ ap (λ i. cond b (Some i) (place_of (bytes_eq w) ws)) at_end
    ∙ no_place (place_of (bytes_eq w) ws) b (length ws) none
    ∙ sym (place_of-push (bytes_eq w) ws x)

-- ---- a place is one of the list

pub place_within : (test : Word → Bool) (ws : List Word) (o : Option ℕ) → o ≡ place_of test ws → IfSome o (λ i. i < length ws)
place_within test ws None h = tt
place_within test ws (Some i) h = (place_of-at test ws i [] (sym h)).0
