-- What a map of the first $f of variables finds after one more hypothesis.
use Rattle.std.proofs.Common.{◌≡◌, ◌∙◌, ℕ, Bool, true, false, cond, List, [], ◌∷◌, ◌++◌, Option, Some, None, refl, sym, ap, subst}
use Rattle.std.specs.Prelude.{find}
use Rattle.std.specs.Option.{option_map, option_and_then, option_or, is_some}
use Rattle.std.specs.Str.{bytes_eq}
use Rattle.std.specs.Borrow.{Bor}
use Rattle.std.specs.HashMap as hash
use Rattle.std.specs.HashMap.{HashMap}
use Rattle.std.specs.declared.random_state.RandomState.{RandomState}
use Rattle.std.proofs.lemmas.List.Folds.{find-append}
use Rattle.std.proofs.lemmas.Map.Text.{hash_map_updates_str}
use Rattle.mmtext.specs.Words.{Word}
use Rattle.mmsyntax.specs.Tables.{place_of}
use Rattle.mmsyntax.proofs.Names.{bytes_eq-sym, same_bytes, option_or-none}
use Rattle.mmsyntax.proofs.Options.{mapped_some}
use Rattle.source.specs.Scopes.{Hypothesis, typing, premise, label_of, is_float_of}
use Rattle.sites.specs.Indexes.{looks_up}
use Rattle.sites.specs.Actives.{FindsFloats}

false_true : false ≡ true → ⊥
false_true e = cc

abbrev pub place_in : List Word → Hypothesis → Option ℕ
place_in floats h = place_of (bytes_eq (label_of h)) floats

one_kept : {A B : Type 0} (f : A → B) (b : Bool) (o : Option A) (x : A) → (b ≡ true → is_some o ≡ true)
    → option_map f o ≡ option_map f (option_or o (cond b (Some x) None))
one_kept f b (Some y) x h = refl
one_kept f false None x h = refl
one_kept f true None x h = absurd (false_true (h refl))

one_new : {A B : Type 0} (f : A → B) (b : Bool) (o : Option A) (x : A) → (b ≡ true → is_some o ≡ false)
    → cond b (Some (f x)) (option_map f o) ≡ option_map f (option_or o (cond b (Some x) None))
one_new f true None x h = refl
one_new f false None x h = refl
one_new f false (Some y) x h = refl
one_new f true (Some y) x h = absurd (false_true (sym (h refl)))

pub floats_premise : (m : HashMap (Bor (List ℕ)) (Option ℕ) RandomState) (floats : List Word) (hs : List Hypothesis) (label : Word)
    (ws : List Word) → FindsFloats m floats hs → FindsFloats m floats (hs ++ premise label ws ∷ [])
floats_premise m floats hs label ws found w =
    found w
    ∙ ap (option_map (place_in floats)) (sym (find-append (is_float_of w) hs (premise label ws ∷ [])
    ∙ option_or-none (find (is_float_of w) hs)))

pub floats_again : (m : HashMap (Bor (List ℕ)) (Option ℕ) RandomState) (floats : List Word) (hs : List Hypothesis) (label c v : Word)
    → FindsFloats m floats hs → is_some (looks_up m v) ≡ true → FindsFloats m floats (hs ++ typing label c v ∷ [])
floats_again m floats hs label c v found there w =
    let here : bytes_eq w v ≡ true → is_some (find (is_float_of w) hs) ≡ true =
    λ e. subst (λ u. is_some (find (is_float_of u) hs) ≡ true) (sym (same_bytes w v e))
    (sym (mapped_some (place_in floats) (find (is_float_of v) hs)) ∙ ap is_some (sym (found v)) ∙ there) in
    found w
    ∙ one_kept (place_in floats) (bytes_eq w v) (find (is_float_of w) hs) (typing label c v) here
    ∙ ap (option_map (place_in floats)) (sym (find-append (is_float_of w) hs (typing label c v ∷ [])))

pub floats_new : (m n : HashMap (Bor (List ℕ)) (Option ℕ) RandomState) (floats : List Word) (hs : List Hypothesis) (label c v : Word)
    (place : Option ℕ) → FindsFloats m floats hs → place ≡ place_of (bytes_eq label) floats → is_some (looks_up m v) ≡ false
    → hash.UpdatesBy (λ x y. bytes_eq x.now y.now) (λ k. bytes_eq v k.now) m n (Some place)
    → FindsFloats n floats (hs ++ typing label c v ∷ [])
floats_new m n floats hs label c v place found is absent updates w =
    let b = bytes_eq w v in
    let none : b ≡ true → is_some (find (is_float_of w) hs) ≡ false =
    λ e. subst (λ u. is_some (find (is_float_of u) hs) ≡ false) (sym (same_bytes w v e))
    (sym (mapped_some (place_in floats) (find (is_float_of v) hs)) ∙ ap is_some (sym (found v)) ∙ absent) in
    hash_map_updates_str v m n (Some place) updates w
    ∙ ap (λ t. cond t (Some place) (looks_up m w)) (bytes_eq-sym v w)
    ∙ ap (λ o. cond b (Some place) o) (found w)
    ∙ ap (λ p. cond b (Some p) (option_map (place_in floats) (find (is_float_of w) hs))) is
    ∙ one_new (place_in floats) b (find (is_float_of w) hs) (typing label c v) none
    ∙ ap (option_map (place_in floats)) (sym (find-append (is_float_of w) hs (typing label c v ∷ [])))

-- what is found is the place, if there is one
pub flat_some : {A B : Type 0} (f : A → Option B) (o : Option A) (p : Option B) → Some p ≡ option_map f o → p ≡ option_and_then f o
flat_some f None p h = absurd cc
flat_some f (Some x) p h = cc

pub flat_none : {A B : Type 0} (f : A → Option B) (o : Option A) → None ≡ option_map f o → None ≡ option_and_then f o
flat_none f None h = refl
flat_none f (Some x) h = absurd cc
