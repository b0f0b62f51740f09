-- What lists of lists and lists of options give, one more at a time.
use Rattle.std.proofs.Common.{◌≡◌, ◌∙◌, ◌+◌, ◌<◌, ℕ, List, [], ◌∷◌, ◌++◌, Option, length, map, take, get_or, refl, sym, ap, ap₂, append_assoc, Vec, Global}
use Rattle.std.specs.Prelude.{filter_map}
use Rattle.std.specs.List.{flat_map}
use Rattle.std.proofs.lemmas.List.{flat_map_more, take_more}
use Rattle.std.proofs.lemmas.List.Elements.{filter_map-append}
use Rattle.std.proofs.lemmas.Simd.{map-map}
use Rattle.mmtext.specs.declared.token.Token.{Token as CodeToken}
use Rattle.mmtext.specs.Views.{seen}
use Rattle.mmtext.specs.Words.{Word}
use Rattle.expanding.specs.Views.{seen_scripts}

-- what one more gives is put behind
pub more_behind : {X A : Type 0} (g : X → List A) (base so_far next : List A) (xs : List X) (i : ℕ) (d : X) → i < length xs
    → so_far ≡ base ++ flat_map g (take i xs) → next ≡ so_far ++ g (get_or xs i d) → next ≡ base ++ flat_map g (take (i + 1) xs)
more_behind g base so_far next xs i d within before is =
    is
    ∙ ap (λ ys. ys ++ g (get_or xs i d)) before
    ∙ flat_map_more g base (take i xs) (get_or xs i d)
    ∙ ap (λ ys. base ++ flat_map g ys) (sym (take_more xs i d within))

-- where it gives something
pub given_behind : {X A : Type 0} (h : X → Option A) (base so_far next : List A) (xs : List X) (i : ℕ) (d : X) (o : Option A)
    → i < length xs → o ≡ h (get_or xs i d) → so_far ≡ base ++ filter_map h (take i xs) → next ≡ so_far ++ filter_map (λ x. x) (o ∷ [])
    → next ≡ base ++ filter_map h (take (i + 1) xs)
given_behind {X} {A} h base so_far next xs i d o within gives before is =
    is
    ∙ ap₂ (λ (ys : List A) (p : Option A). ys ++ filter_map (λ x. x) (p ∷ [])) before gives
    ∙ append_assoc base (filter_map h (take i xs)) (filter_map h (get_or xs i d ∷ []))
    ∙ ap (λ ys. base ++ ys) (sym (filter_map-append h (take i xs) (get_or xs i d ∷ [])))
    ∙ ap (λ ys. base ++ filter_map h ys) (sym (take_more xs i d within))

-- the words of scripts
pub words_seen : (scripts : List (Vec CodeToken Global))
    → flat_map (λ ts. map (λ t. t.text.now) ts.items) scripts ≡ flat_map (map (λ t. t.text)) (seen_scripts scripts)
words_seen [] = refl
words_seen (ts ∷ scripts) =
    ap₂ (λ (ws vs : List Word). ws ++ vs) (sym (map-map (λ t. t.text) seen ts.items)) (words_seen scripts)
