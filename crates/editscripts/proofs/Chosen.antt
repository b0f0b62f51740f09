-- What is chosen of lists: one item more, and the number of a command's script.
use Rattle.std.proofs.Common.{◌≡◌, ◌∙◌, ◌<◌, ◌+◌, ℕ, suc, min, List, [], ◌∷◌, ◌++◌, length, map, take, get_or}
use Rattle.std.proofs.Common.{Option, Some, Vec, Global, sym, ap, ap₂, subst, arith}
use Rattle.std.specs.Prelude.{All, IfSome}
use Rattle.std.specs.List.{flat_map, zip}
use Rattle.std.proofs.lemmas.List.{append-nil, take_more, take_all, length-map, get_or-map}
use Rattle.std.proofs.lemmas.List.Elements.{All-append, All-contains, All-map, All-nil, All-weaker}
use Rattle.std.proofs.lemmas.Grind.{flat_map-append}
use Rattle.std.proofs.lemmas.Slice.Zip.{length-zip, get_or-zip}
use Rattle.mmtext.specs.Text.{Token}
use Rattle.mmtext.specs.Views.{seen}
use Rattle.mmtext.specs.declared.token.Token.{Token as CodeToken}
use Rattle.source.specs.Scopes.{Scope}
use Rattle.expanding.specs.Barred.{IsBarred}
use Rattle.expanding.specs.Commands.{Command, command_of, AreCommands}
use Rattle.expanding.specs.Views.{seen_scripts}
use Rattle.expanding.specs.declared.barred.Barred.{Barred}

-- ---- pairs

pub flat_zip_more : {A B C : Type 0} (F : A × B → List C) (xs : List A) (ys : List B) (n : ℕ) (x : A) (y : B)
    → n < length xs → n < length ys → x ≡ get_or xs n x → y ≡ get_or ys n y
    → flat_map F (take (n + 1) (zip xs ys)) ≡ flat_map F (take n (zip xs ys)) ++ F (x, y)
flat_zip_more {A} {B} {C} F xs ys n x y first second at_first at_second =
    let pairs = zip xs ys in
    let long = length-zip xs ys in
    let here : get_or pairs n (x, y) ≡ (x, y) =
    get_or-zip xs ys n (x, y) first second ∙ ap₂ (λ a b. (a, b)) (sym at_first) (sym at_second) in
    ap (flat_map F) (take_more pairs n (x, y) (omega (arith, long, first, second)))
    ∙ flat_map-append F (take n pairs) (get_or pairs n (x, y) ∷ [])
    ∙ ap (λ (l : List C). flat_map F (take n pairs) ++ l) (append-nil (F (get_or pairs n (x, y))))
    ∙ ap (λ (p : A × B). flat_map F (take n pairs) ++ F p) here

-- of views of the lists
pub flat_zip_next : {A B C D E : Type 0} (F : C × D → List E) (I : A → C) (J : B → D) (xs : List A) (ys : List B) (n : ℕ) (x : A) (y : B)
    → n < length xs → n < length ys → x ≡ get_or xs n x → y ≡ get_or ys n y
    → flat_map F (take (n + 1) (zip (map I xs) (map J ys))) ≡ flat_map F (take n (zip (map I xs) (map J ys))) ++ F (I x, J y)
flat_zip_next F I J xs ys n x y first second at_first at_second =
    let firsts = length-map xs I in
    let seconds = length-map ys J in
    flat_zip_more F (map I xs) (map J ys) n (I x) (J y) (omega (arith, firsts, first)) (omega (arith, seconds, second))
    (ap I at_first ∙ sym (get_or-map I xs n x (I x) first)) (ap J at_second ∙ sym (get_or-map J ys n y (J y) second))

pub zip_all : {A B C D : Type 0} (I : A → C) (J : B → D) (xs : List A) (ys : List B) (n : ℕ) → n ≡ min (length xs) (length ys)
    → take n (zip (map I xs) (map J ys)) ≡ zip (map I xs) (map J ys)
zip_all I J xs ys n is =
    let long : length (zip (map I xs) (map J ys)) ≡ n =
    length-zip (map I xs) (map J ys) ∙ ap₂ min (length-map xs I) (length-map ys J) ∙ sym is in
    take_all n (zip (map I xs) (map J ys)) (omega (arith, long))

-- ---- in turned order

-- ---- commands

pub scripts_within : (scripts : List (List Token)) (n : ℕ) (cs : List Command) → AreCommands n scripts cs
    → All (λ c. c.script < n + length scripts) cs
scripts_within [] n cs are = subst (All (λ (c : Command). c.script < n + 0)) (sym are) (All-nil (λ (c : Command). c.script < n + 0))
scripts_within (ts ∷ scripts) n cs are =
    let P = λ (c : Command). c.script < n + suc (length scripts) in
    let Q = λ (c : Command). c.script < suc n + length scripts in
    subst (All P) (sym are.4) (All-append P (map (command_of n) are.0) are.1
    (All-map P (command_of n) are.0 (λ k d lt. omega arith))
    (All-weaker Q P (λ c lt. omega (arith, lt)) are.1 (scripts_within scripts (suc n) are.1 are.3)))

-- the script of a command that is barred is one of the scripts
pub barred_within : (s : Scope) (scripts : List (Vec CodeToken Global)) (o : Option Barred) (b : Barred) → o ≡ Some b
    → IfSome o (λ d. IsBarred s (seen_scripts scripts) d.script (seen d.word) d.by.now) → b.script < length scripts
barred_within s scripts o b is barred =
    let all = seen_scripts scripts in
    let h : IsBarred s all b.script (seen b.word) b.by.now =
    subst (λ (x : Option Barred). IfSome x (λ d. IsBarred s all d.script (seen d.word) d.by.now)) is barred in
    let within : b.script < 0 + length all =
    All-contains (λ (d : Command). d.script < 0 + length all) h.commands (command_of b.script h.part)
    (scripts_within all 0 h.commands h.are_commands) h.ordered in
    let long : length all ≡ length scripts = length-map scripts (λ (ts : Vec CodeToken Global). map seen ts.items) in
    omega (arith, within, long)
