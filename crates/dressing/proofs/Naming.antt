-- Labels that name themselves, and labels that name what is there.
use Rattle.std.proofs.Common.{◌≡◌, ◌∙◌, ◌<◌, ℕ, zero, suc, Bool, true, false, List, [], ◌∷◌, ◌+◌, length, map, take, get_or, Option, Some, None, Bor}
use Rattle.std.proofs.Common.{refl, sym, ap, arith, inl, inr}
use Rattle.std.specs.Prelude.{◌||◌, find, is_some, nat_lt, slice_get}
use Rattle.std.specs.Option.{option_map}
use mathlib.Core.Bool.{not}
use Rattle.std.specs.List.{AllByRecursion, list_any}
use Rattle.std.specs.Str.{bytes_eq}
use Rattle.std.proofs.lemmas.Bool.{cases_Bool, ltb-true, ltb-false}
use Rattle.mmtext.specs.Words.{Word}
use Rattle.mmsyntax.specs.Tables.{place_of}
use Rattle.source.specs.Proofs.{taken_by}
use Rattle.source.specs.Scopes.{Assertion, Scope}
use Rattle.taking.specs.Names.{Map, label_in}
use Rattle.pasting.proofs.Labelled.{label_added, label_none}
use Rattle.taking.specs.Settings.{is_float}
use Rattle.prooftrees.specs.Names.{AreFrames, IsKnown}
use Rattle.prooftrees.specs.Names.{labelled}
use Rattle.prooftrees.specs.declared.roles.Role.{Role}
use Rattle.prooftrees.specs.Roles.{role_of}
use Rattle.prooftrees.proofs.Found.{first_is}
use Rattle.pasting.proofs.Unnamed.{known_is}
use Rattle.std.proofs.lemmas.Bool.{or_right}
use Rattle.std.proofs.lemmas.List.{map_more}
use Rattle.std.proofs.lemmas.List.Folds.{list_any-append}
use Rattle.mmsyntax.proofs.Options.{mapped_some}
use Rattle.source.specs.Views.{seen_words}
use Rattle.source.proofs.Slices.{any_seen}
use Rattle.dressing.specs.Quoted.{is_unnamed, own_names}

abbrev no_names : Map
no_names = record { constants = []; floats = []; variables = []; labels = [] }

pub own_label : (labels : List Word) (w : Word) → is_some (place_of (bytes_eq w) labels) ≡ true → label_in (own_names labels) w ≡ Some w
own_label labels w h = label_added no_names labels w refl h

pub no_label : (labels : List Word) (w : Word) → is_some (place_of (bytes_eq w) labels) ≡ false → label_in (own_names labels) w ≡ None
no_label labels w h = label_none no_names labels w refl h

-- ---- labels

passed : (b : Bool) (rest : Bool) → (not b || rest) ≡ false → (b ≡ true) × (rest ≡ false)
passed true rest e = (refl, e)
passed false rest e = absurd cc

-- where none is unnamed, each names what is there
pub all_known : (earlier : List Assertion) (x : Assertion) (ws : List Word) → list_any (is_unnamed earlier x) ws ≡ false
    → AllByRecursion (IsKnown earlier x.active) ws
all_known earlier x [] none = tt
all_known earlier x (w ∷ ws) none =
    let p = passed (is_some (taken_by earlier x.active w)) (list_any (is_unnamed earlier x) ws) none in
    (p.0, all_known earlier x ws p.1)

pub some_unnamed : (b : Bool) → not b ≡ false → b ≡ true
some_unnamed true e = refl
some_unnamed false e = absurd cc

-- ---- what stands in front of a place

some_at : {A : Type 0} (xs : List A) (k : ℕ) → k < length xs → is_some (slice_get xs k) ≡ true
some_at [] k lt = absurd (omega arith)
some_at (x ∷ xs) zero lt = refl
some_at (x ∷ xs) (suc k) lt = some_at xs k (omega arith)

pub in_front : {A : Type 0} (test : A → Bool) (xs : List A) (n k : ℕ) → place_of test xs ≡ Some k
    → nat_lt k n ≡ is_some (find test (take n xs))
in_front test xs n k e =
    let first = first_is test xs n k e in
    elim (cases_Bool (nat_lt k n)) [
      | inl y ↦ y ∙ sym (ap is_some (first.there (ltb-true k n y)) ∙ some_at xs k first.within)
      | inr fails ↦ fails ∙ sym (ap is_some (first.behind (ltb-false k n fails)))
    ]

-- the frames of what stands there
pub frames_are : {D : Type 0} (scope : D → Scope) (d e : D) (m n : ℕ) → d ≡ e → m ≡ n
    → AreFrames (take n (scope e).assertions)
    (λ w. option_map (λ a. map is_float a.hypotheses) (find (λ a. bytes_eq w a.label) (take m (scope d).assertions)))
frames_are scope d e m n same at = λ w.
    let F = option_map (λ (a : Assertion). map is_float a.hypotheses) in
    let T = λ (a : Assertion). bytes_eq w a.label in
    ap (λ (d : _). F (find T (take m (scope d).assertions))) same ∙ ap (λ n. F (find T (take n (scope e).assertions))) at

-- ---- a look-up of roles, and one of what stands in front

module _ (earlier : List Assertion) (x : Assertion) (roles : Word → Option Role) (are : (w : Word) → roles w ≡ role_of x.active w)
    (w : Word) where
  named_is : (is_some (roles w) || is_some (labelled earlier w)) ≡ is_some (taken_by earlier x.active w)
  named_is =
      ap (λ b. is_some (roles w) || b) (sym (mapped_some (λ (a : Assertion). map is_float a.hypotheses) (labelled earlier w)))
      ∙ known_is earlier x.active w (roles w) (option_map (λ (a : Assertion). map is_float a.hypotheses) (labelled earlier w)) (are w) refl

  pub by_role : (value : Bool) → value ≡ true → is_some (roles w) ≡ true → is_unnamed earlier x w ≡ not value
  by_role value e has =
      ap not (sym named_is ∙ ap (λ b. b || is_some (labelled earlier w)) has) ∙ ap not (sym e)

  pub by_front : (value front : Bool) → value ≡ front → is_some (roles w) ≡ false → front ≡ is_some (labelled earlier w)
      → is_unnamed earlier x w ≡ not value
  by_front value front e unnoted is =
      ap not (sym named_is ∙ ap (λ b. b || is_some (labelled earlier w)) unnoted ∙ sym is ∙ sym e)

-- ---- tests of words, one more of them

any_here : {A : Type 0} (test : A → Bool) (xs : List A) (i : ℕ) (d : A) → i < length xs → test (get_or xs i d) ≡ true
    → list_any test xs ≡ true
any_here test [] i d lt e = absurd (omega arith)
any_here test (x ∷ xs) zero d lt e = ap (λ b. b || list_any test xs) e
any_here test (x ∷ xs) (suc i) d lt e = or_right (test x) (list_any test xs) (any_here test xs i d (omega arith) e)

module _ (test : Word → Bool) (ws : List (Bor (List ℕ))) (i : ℕ) (d : Bor (List ℕ)) (lt : i < length ws) where
  pub one_passes : test (get_or ws i d).now ≡ true → list_any test (seen_words ws) ≡ true
  one_passes e = sym (any_seen test ws) ∙ any_here (λ (w : Bor (List ℕ)). test w.now) ws i d lt e

  pub none_passes : list_any test (seen_words (take i ws)) ≡ false → test (get_or ws i d).now ≡ false
      → list_any test (seen_words (take (i + 1) ws)) ≡ false
  none_passes none e =
      ap (list_any test) (map_more (λ (w : Bor (List ℕ)). w.now) ws i d lt)
      ∙ list_any-append test (seen_words (take i ws)) ((get_or ws i d).now ∷ [])
      ∙ ap (λ b. b || (test (get_or ws i d).now || false)) none
      ∙ ap (λ b. b || false) e
