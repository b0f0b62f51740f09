-- What is known of the chosen assertions of a source by their sites: all that they name has a place.
use Rattle.std.proofs.Common.{◌≡◌, ◌∙◌, ◌<◌, ℕ, zero, suc, Bool, true, false, List, [], ◌∷◌, length, get_or, cond}
use Rattle.std.proofs.Common.{refl, sym, ap, subst, arith, inl, inr}
use Rattle.std.specs.Prelude.{Option, Some, None, slice_get, is_some, ◌||◌, All, IsTrue, filter, find}
use Rattle.std.specs.Option.{option_map, option_and_then}
use Rattle.std.specs.List.{list_any, zip, AllByRecursion}
use Rattle.std.specs.Str.{bytes_eq}
use Rattle.std.proofs.lemmas.Bool.{cases_Bool, or_left, or_right}
use Rattle.std.proofs.lemmas.List.Elements.{recursion_from_All}
use Rattle.mmtext.specs.Words.{Word}
use Rattle.mmsyntax.specs.declared.statement.Symbol.{Symbol}
use Rattle.mmsyntax.specs.declared.statement.Float.{Float}
use Rattle.mmsyntax.specs.Tables.{place_of}
use Rattle.mmsyntax.proofs.Names.{same_bytes, bytes_eq-same}
use Rattle.source.specs.Scopes.{Hypothesis, typing, premise, label_of, Assertion, Scope, is_in, is_float_of}
use Rattle.source.specs.Whole.{is_typed_at, IsHypothesisWhole}
use Rattle.taking.specs.Names.{is_symbol_of, is_symbol_of_hypothesis}
use Rattle.taking.specs.Says.{both, each, symbol_at, premises, IsFloatTaken}
use Rattle.taking.specs.Settings.{is_float}
use Rattle.source.specs.Flags.{kept, kept_at}
use Rattle.sites.specs.Sites.{Sited, IsFloatSited}
use Rattle.sites.specs.declared.names.LibraryNames.{LibraryNames}
use Rattle.gathering.specs.Placed.{map_of, tables_of, floats_from}

-- ---- what flags keep

module _ {A : Type 0} where
  all_first : (P : A → Type 0) (b : Bool) (x : A) (ys : List A) → AllByRecursion P (kept_at b x ys) → b ≡ true → P x
  all_first P true x ys a e = a.0
  all_first P false x ys a e = absurd cc

  all_later : (P : A → Type 0) (b : Bool) (x : A) (ys : List A) → AllByRecursion P (kept_at b x ys) → AllByRecursion P ys
  all_later P true x ys a = a.1
  all_later P false x ys a = a

  any_first : (q : A → Bool) (b : Bool) (x : A) (ys : List A) → b ≡ true → q x ≡ true → list_any q (kept_at b x ys) ≡ true
  any_first q true x ys e f = or_left (q x) (list_any q ys) f
  any_first q false x ys e f = absurd cc

  any_later : (q : A → Bool) (b : Bool) (x : A) (ys : List A) → list_any q ys ≡ true → list_any q (kept_at b x ys) ≡ true
  any_later q true x ys e = or_right (q x) (list_any q ys) e
  any_later q false x ys e = e

  -- of an item with a flag is so what is so of all that are kept
  pub all_kept : (P : A → Type 0) (fs : List Bool) (xs : List A) (k : ℕ) (x : A) → AllByRecursion P (kept fs xs)
      → slice_get xs k ≡ Some x → get_or fs k false ≡ true → P x
  all_kept P [] xs k x a is e = absurd cc
  all_kept P (f ∷ fs) [] k x a is e = absurd cc
  all_kept P (f ∷ fs) (y ∷ ys) zero x a is e =
      let same : y ≡ x = cc in
      subst P same (all_first P f y (kept fs ys) a e)
  all_kept P (f ∷ fs) (y ∷ ys) (suc k) x a is e = all_kept P fs ys k x (all_later P f y (kept fs ys) a) is e

  -- and it is one of them
  pub any_kept : (q : A → Bool) (fs : List Bool) (xs : List A) (k : ℕ) (x : A) → slice_get xs k ≡ Some x → get_or fs k false ≡ true
      → q x ≡ true → list_any q (kept fs xs) ≡ true
  any_kept q [] xs k x is e f = absurd cc
  any_kept q (b ∷ fs) [] k x is e f = absurd cc
  any_kept q (b ∷ fs) (y ∷ ys) zero x is e f =
      let same : y ≡ x = cc in
      any_first q b y (kept fs ys) e (subst (λ (z : A). q z ≡ true) (sym same) f)
  any_kept q (b ∷ fs) (y ∷ ys) (suc k) x is e f = any_later q b y (kept fs ys) (any_kept q fs ys k x is e f)

any_cond : {A : Type 0} (q : A → Bool) (b : Bool) (x : A) (ys : List A) → b ≡ true → q x ≡ true → list_any q (cond b (x ∷ ys) ys) ≡ true
any_cond q true x ys e f = or_left (q x) (list_any q ys) f
any_cond q false x ys e f = absurd cc

any_rest : {A : Type 0} (q : A → Bool) (b : Bool) (x : A) (ys : List A) → list_any q ys ≡ true → list_any q (cond b (x ∷ ys) ys) ≡ true
any_rest q true x ys e = or_right (q x) (list_any q ys) e
any_rest q false x ys e = e

other_is_in : (b r : Bool) → b ≡ false → (b || r) ≡ true → r ≡ true
other_is_in true r e f = absurd cc
other_is_in false r e f = f

pub is_in_filter : (q : Word → Bool) (w : Word) (cs : List Word) → q w ≡ true → is_in cs w ≡ true → is_in (filter q cs) w ≡ true
is_in_filter q w [] passes e = absurd cc
is_in_filter q w (c ∷ cs) passes e =
    elim (cases_Bool (bytes_eq w c)) [
      | inl same ↦
          any_cond (bytes_eq w) (q c) c (filter q cs) (subst (λ (v : Word). q v ≡ true) (same_bytes w c same) passes) same
      | inr other ↦
          any_rest (bytes_eq w) (q c) c (filter q cs) (is_in_filter q w cs passes (other_is_in (bytes_eq w c) (is_in cs w) other e))
    ]

-- ---- what is there

any_place : {A : Type 0} (test : A → Bool) (xs : List A) → list_any test xs ≡ true → is_some (place_of test xs) ≡ true
any_place test [] e = absurd cc
any_place test (x ∷ xs) e = behind_it (test x) (place_of test xs) (λ other. any_place test xs (other_is_in (test x) (list_any test xs) other
    e))
  where
    behind_it : (b : Bool) (o : Option ℕ) → (b ≡ false → is_some o ≡ true)
        → is_some (cond b (Some 0) (option_map (λ n. suc n) o)) ≡ true
    behind_it true o rest = refl
    behind_it false None rest = rest refl
    behind_it false (Some n) rest = refl

-- a label has one of as many names
pub zip_there : {A B : Type 0} (test : A → Bool) (xs : List A) (ys : List B) → length ys ≡ length xs → list_any test xs ≡ true
    → is_some (option_map (λ p. p.1) (find (λ p. test p.0) (zip xs ys))) ≡ true
zip_there test [] ys many e = absurd cc
zip_there test (x ∷ xs) [] many e = absurd (omega arith)
zip_there {A} {B} test (x ∷ xs) (y ∷ ys) many e =
    first_or (test x) (find (λ (p : A × B). test p.0) (zip xs ys))
    (λ other. zip_there test xs ys (omega arith) (other_is_in (test x) (list_any test xs) other e))
  where
    first_or : (b : Bool) (o : Option (A × B)) → (b ≡ false → is_some (option_map (λ (p : A × B). p.1) o) ≡ true)
        → is_some (option_map (λ (p : A × B). p.1) (cond b (Some (x, y)) o)) ≡ true
    first_or true o rest = refl
    first_or false o rest = rest refl

there : {A : Type 0} (o : Option A) (x : A) → o ≡ Some x → is_some o ≡ true
there None x e = absurd cc
there (Some y) x e = refl

both_there : {A : Type 0} (o : Option A) (r : Option (List A)) → is_some o ≡ true → is_some r ≡ true → is_some (both o r) ≡ true
both_there None r e f = absurd cc
both_there (Some x) None e f = absurd cc
both_there (Some x) (Some xs) e f = refl

pub each_there : {A B : Type 0} (f : A → Option B) (xs : List A) → AllByRecursion (λ x. is_some (f x) ≡ true) xs
    → is_some (each f xs) ≡ true
each_there f [] a = refl
each_there f (x ∷ xs) a = both_there (f x) (each f xs) a.0 (each_there f xs a.1)

-- ---- words

is_in_at : (ws : List Word) (k : ℕ) (d : Word) → k < length ws → is_in ws (get_or ws k d) ≡ true
is_in_at [] k d h = absurd (omega arith)
is_in_at (w ∷ ws) zero d h = or_left (bytes_eq w w) (is_in ws w) (bytes_eq-same w)
is_in_at (w ∷ ws) (suc k) d h =
    or_right (bytes_eq (get_or ws k d) w) (is_in ws (get_or ws k d)) (is_in_at ws k d (omega arith))

by_constant : (i v : Option ℕ) → is_some i ≡ true → is_some (symbol_at i v) ≡ true
by_constant None v e = absurd cc
by_constant (Some i) v e = refl

by_variable : (i v : Option ℕ) → is_some v ≡ true → is_some (symbol_at i v) ≡ true
by_variable None None e = absurd cc
by_variable None (Some j) e = refl
by_variable (Some i) v e = refl

module _ (t : Sited) where
  -- the active $f of a variable has a place
  pub float_there : (w : Word) (hs : List Hypothesis) → AllByRecursion (IsFloatSited t) hs → list_any (is_float_of w) hs ≡ true
      → is_some (option_and_then (λ h. place_of (bytes_eq (label_of h)) t.floats) (find (is_float_of w) hs)) ≡ true
  float_there w [] a e = absurd cc
  float_there w (premise label ws ∷ hs) a e = float_there w hs a.1 e
  float_there w (typing label c v ∷ hs) a e =
      first_or (bytes_eq w v) (find (is_float_of w) hs)
      (λ other. float_there w hs a.1 (other_is_in (bytes_eq w v) (list_any (is_float_of w) hs) other e))
    where
      first_or : (b : Bool) (o : Option Hypothesis)
          → (b ≡ false → is_some (option_and_then (λ h. place_of (bytes_eq (label_of h)) t.floats) o) ≡ true)
          → is_some (option_and_then (λ h. place_of (bytes_eq (label_of h)) t.floats) (cond b (Some (typing label c v)) o)) ≡ true
      first_or true o rest = there (place_of (bytes_eq label) t.floats) a.0.0 a.0.2
      first_or false o rest = rest refl

  -- the step of each active $f is known
  pub floats_known : (hs : List Hypothesis) → AllByRecursion (IsFloatSited t) hs
      → AllByRecursion (λ h. IsTrue (is_float h) → IsTrue (is_some (place_of (bytes_eq (label_of h)) t.floats))) hs
  floats_known [] a = tt
  floats_known (typing label c v ∷ hs) a = ((λ e. there (place_of (bytes_eq label) t.floats) a.0.0 a.0.2), floats_known hs a.1)
  floats_known (premise label ws ∷ hs) a = ((λ e. absurd cc), floats_known hs a.1)

  -- each active $f is taken
  float_at : (k : ℕ) (labels : List Word) (types : List ℕ) (j i : ℕ) → length labels ≡ length types → slice_get types j ≡ Some i
      → (f : Float) × (slice_get (floats_from k labels types) j ≡ Some f) × (f.type_code ≡ i)
  float_at k labels [] j i many e = absurd cc
  float_at k [] (c ∷ types) j i many e = absurd (omega arith)
  float_at k (l ∷ labels) (c ∷ types) zero i many e = (record { label = l; type_code = c; variable = k }, refl, cc)
  float_at k (l ∷ labels) (c ∷ types) (suc j) i many e = float_at (suc k) labels types j i (omega arith) e

  module _ (names : LibraryNames) (many : length names.floats ≡ length t.types) where
    pub floats_taken : (hs : List Hypothesis) → AllByRecursion (IsFloatSited t) hs
        → AllByRecursion (IsFloatTaken (map_of t names) (tables_of t names)) hs
    floats_taken [] a = tt
    floats_taken (typing label c v ∷ hs) a =
        let f = float_at 0 names.floats t.types a.0.0 a.0.1 many a.0.4 in
        ((a.0.0, f.0, a.0.2, f.1, a.0.3 ∙ ap (λ n. Some n) (sym f.2), a.0.5), floats_taken hs a.1)
    floats_taken (premise label ws ∷ hs) a = (tt, floats_taken hs a.1)

module _ (s : Scope) (x : Assertion) (t : Sited) (sited : AllByRecursion (IsFloatSited t) x.active)
    (constants : (w : Word) → is_in s.constants w ≡ true → is_symbol_of w x ≡ true → is_in t.constants w ≡ true) where
  abbrev placed : Word → Option Symbol
  placed w =
      symbol_at (place_of (bytes_eq w) t.constants)
      (option_and_then (λ h. place_of (bytes_eq (label_of h)) t.floats) (find (is_float_of w) x.active))

  -- so has each word of it a symbol
  symbol_there : (w : Word) → is_typed_at s x w ≡ true → is_symbol_of w x ≡ true → is_some (placed w) ≡ true
  symbol_there w typed stands =
      elim (cases_Bool (is_in s.constants w)) [
        | inl constant ↦ by_constant _ _ (any_place (bytes_eq w) t.constants (constants w constant stands))
        | inr other ↦
            by_variable _ _ (float_there t w x.active sited
            (other_is_in (is_in s.constants w) (list_any (is_float_of w) x.active) other typed))
      ]

  words_there : (ws : List Word) → All (λ w. IsTrue (is_typed_at s x w)) ws → ((w : Word) → is_in ws w ≡ true → is_symbol_of w x ≡ true)
      → is_some (each placed ws) ≡ true
  words_there ws typed stand =
      each_there placed ws (recursion_from_All (λ (w : Word). is_some (placed w) ≡ true) ws
      (λ k d h. symbol_there (get_or ws k d) (typed k d h) (stand (get_or ws k d) (is_in_at ws k d h))))

  pub statement_there : All (λ w. IsTrue (is_typed_at s x w)) x.statement → is_some (each placed x.statement) ≡ true
  statement_there typed =
      words_there x.statement typed (λ w e. or_left (is_in x.statement w) (list_any (is_symbol_of_hypothesis w) x.active) e)

  premises_of : (hs : List Hypothesis) → AllByRecursion (IsHypothesisWhole s x) hs
      → ((w : Word) → list_any (is_symbol_of_hypothesis w) hs ≡ true → is_symbol_of w x ≡ true)
      → is_some (each (each placed) (premises hs)) ≡ true
  premises_of [] a stand = refl
  premises_of (typing label c v ∷ hs) a stand =
      premises_of hs a.1 (λ w e. stand w (or_right (bytes_eq w c) (list_any (is_symbol_of_hypothesis w) hs) e))
  premises_of (premise label ws ∷ hs) a stand =
      both_there (each placed ws) (each (each placed) (premises hs))
      (words_there ws a.0.1 (λ w e. stand w (or_left (is_in ws w) (list_any (is_symbol_of_hypothesis w) hs) e)))
      (premises_of hs a.1 (λ w e. stand w (or_right (is_in ws w) (list_any (is_symbol_of_hypothesis w) hs) e)))

  pub premises_there : All (IsHypothesisWhole s x) x.active → is_some (each (each placed) (premises x.active)) ≡ true
  premises_there whole =
      premises_of x.active (recursion_from_All (IsHypothesisWhole s x) x.active whole)
      (λ w e. or_right (is_in x.statement w) (list_any (is_symbol_of_hypothesis w) x.active) e)
