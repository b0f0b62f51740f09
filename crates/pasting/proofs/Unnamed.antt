-- Labels that name what is there.
use Rattle.std.proofs.Common.{◌≡◌, ◌∙◌, ℕ, zero, suc, ◌<◌, ◌+◌, Bool, true, false, cond, List, [], ◌∷◌, length, map, take}
use Rattle.std.proofs.Common.{Option, Some, None, refl, sym, ap, arith, get_or, add-one}
use Rattle.std.specs.Prelude.{◌||◌, find, is_some, slice_get}
use Rattle.std.specs.Option.{option_map, option_or}
use Rattle.std.specs.Str.{bytes_eq}
use Rattle.mmtext.specs.Text.{Token}
use Rattle.mmtext.specs.Words.{Word}
use Rattle.mmtext.specs.Views.{seen}
use Rattle.mmtext.specs.declared.token.Token.{Token as CodeToken}
use Rattle.mmsyntax.specs.Tables.{place_of}
use Rattle.mmsyntax.proofs.Distinct.{is_some-place_of}
use Rattle.mmsyntax.proofs.Options.{mapped_some}
use Rattle.source.specs.Scopes.{Assertion, Hypothesis}
use Rattle.source.specs.Proofs.{taken_by}
use Rattle.taking.specs.Listings.{premise_labels}
use Rattle.taking.specs.Settings.{is_float}
use Rattle.prooftrees.specs.declared.roles.Role.{Role}
use Rattle.prooftrees.specs.Names.{labelled}
use Rattle.prooftrees.specs.Roles.{role_in, is_label_of, role_of}
use Rattle.prooftrees.proofs.Named.{premise_in}
use Rattle.pasting.specs.declared.additions.Additions.{Additions}
use Rattle.pasting.specs.Views.{at_label, flags_in, flags_of}

-- ---- labels

by_tests : (b : Bool) (o : Option Assertion) (rest : Bool) → rest ≡ is_some o
    → (b || rest) ≡ is_some (cond b (Some []) (option_map (λ a. a.hypotheses) o))
by_tests true o rest e = refl
by_tests false None rest e = e
by_tests false (Some a) rest e = e

-- a label is one of active hypotheses, or of an earlier assertion
named_is : (earlier : List Assertion) (hs : List Hypothesis) (w : Word)
    → (is_label_of hs w || is_some (labelled earlier w)) ≡ is_some (taken_by earlier hs w)
named_is earlier hs w = by_tests (is_label_of hs w) (labelled earlier w) (is_some (labelled earlier w)) refl

role_some : (b : Bool) (o : Option ℕ) → (is_some o ≡ true → b ≡ true) → is_some (role_in b o) ≡ b
role_some b (Some n) h = sym (h refl)
role_some true None h = refl
role_some false None h = refl

-- so says a look-up of roles, and one of frames
pub known_is : (earlier : List Assertion) (hs : List Hypothesis) (w : Word) (role : Option Role) (floats : Option (List Bool))
    → role ≡ role_of hs w → floats ≡ option_map (λ a. map is_float a.hypotheses) (labelled earlier w)
    → (is_some role || is_some floats) ≡ is_some (taken_by earlier hs w)
known_is earlier hs w role floats r f =
    ap (λ o. is_some o || is_some floats) r
    ∙ ap (λ o. is_some (role_of hs w) || is_some o) f
    ∙ ap (λ b. b || is_some (option_map (λ (a : Assertion). map is_float a.hypotheses) (labelled earlier w)))
    (role_some (is_label_of hs w) (place_of (bytes_eq w) (premise_labels hs))
    (λ h. premise_in hs w (sym (is_some-place_of (bytes_eq w) (premise_labels hs)) ∙ h)))
    ∙ ap (λ b. is_label_of hs w || b) (mapped_some (λ (a : Assertion). map is_float a.hypotheses) (labelled earlier w))
    ∙ named_is earlier hs w

-- where the first that passes stands
placed_some : {A : Type 0} (test : A → Bool) (xs : List A) → is_some (place_of test xs) ≡ is_some (find test xs)
placed_some test [] = refl
placed_some {A} test (x ∷ xs) =
    let rest = placed_some test xs in
    elim (test x) as (λ b. is_some (cond b (Some 0) (option_map (λ n. suc n) (place_of test xs)))
    ≡ is_some (cond b (Some x) (find test xs))) [
      | true ↦ refl
      | false ↦ mapped_some (λ n. suc n) (place_of test xs) ∙ rest
    ]

none_behind : {A : Type 0} (b : Bool) (x : A) (o : Option ℕ) (f : Option A) → cond b (Some 0) (option_map (λ n. suc n) o) ≡ None
    → (o ≡ None → f ≡ None) → cond b (Some x) f ≡ None
none_behind true x o f e h = absurd cc
none_behind false x None f e h = h refl
none_behind false x (Some k) f e h = absurd cc

pub none_placed : {A : Type 0} (test : A → Bool) (xs : List A) → place_of test xs ≡ None → find test xs ≡ None
none_placed test [] e = refl
none_placed test (x ∷ xs) e = none_behind (test x) x (place_of test xs) (find test xs) e (λ h. none_placed test xs h)

some_behind : {A : Type 0} (b : Bool) (x : A) (xs : List A) (o : Option ℕ) (f : Option A) (k : ℕ)
    → cond b (Some 0) (option_map (λ n. suc n) o) ≡ Some k → ((j : ℕ) → o ≡ Some j → f ≡ slice_get xs j)
    → cond b (Some x) f ≡ slice_get (x ∷ xs) k
some_behind true x xs o f k e h = let same : 0 ≡ k = cc in ap (slice_get (x ∷ xs)) same
some_behind false x xs None f k e h = absurd cc
some_behind false x xs (Some j) f k e h = let same : suc j ≡ k = cc in h j refl ∙ ap (slice_get (x ∷ xs)) same

pub found_at : {A : Type 0} (test : A → Bool) (xs : List A) (k : ℕ) → place_of test xs ≡ Some k → find test xs ≡ slice_get xs k
found_at test [] k e = absurd cc
found_at test (x ∷ xs) k e = some_behind (test x) x xs (place_of test xs) (find test xs) k e (λ j h. found_at test xs j h)

-- what is found in one place or another
pub found_some : {A : Type 0} (o p : Option A) → is_some (option_or o p) ≡ (is_some o || is_some p)
found_some None p = refl
found_some (Some a) p = refl

-- so says a look-up of frames
pub may_be_cited : (xs : List Assertion) (a : Additions) (w : Word)
    → (is_some (place_of (λ (x : Assertion). bytes_eq w x.label) xs) || is_some (at_label a.labels a.flags.items w))
    ≡ is_some (flags_in xs a w)
may_be_cited xs a w =
    ap (λ b. b || is_some (at_label a.labels a.flags.items w))
    (placed_some (λ (x : Assertion). bytes_eq w x.label) xs ∙ sym (mapped_some flags_of (labelled xs w)))
    ∙ sym (found_some (option_map flags_of (labelled xs w)) (at_label a.labels a.flags.items w))

pub flags_at : (o : Option Assertion) (hs : List Hypothesis) → option_map (λ a. a.hypotheses) o ≡ Some hs
    → option_map flags_of o ≡ Some (map is_float hs)
flags_at None hs e = absurd cc
flags_at (Some x) hs e = let same : x.hypotheses ≡ hs = cc in ap (λ ks. Some (map is_float ks)) same

-- ---- the first of some words that passes

abbrev pub no_word : CodeToken
no_word = record { place = 0; text = record { ref_ptr = (0, 0); now = [] } }

none_split : (b : Bool) (t : Token) (o : Option Token) → cond b (Some t) o ≡ None → (b ≡ false) × (o ≡ None)
none_split true t o e = absurd cc
none_split false t o e = (refl, e)

module _ (test : Token → Bool) (d : CodeToken) where
  more_behind : (ws : List CodeToken) (i : ℕ) → i < length ws → test (seen (get_or ws i d)) ≡ false
      → find test (map seen (take i ws)) ≡ None → find test (map seen (take (suc i) ws)) ≡ None
  more_behind [] i lt fails none = absurd (omega arith)
  more_behind (w ∷ ws) zero lt fails none = ap (λ b. cond b (Some (seen w)) None) fails
  more_behind (w ∷ ws) (suc i) lt fails none =
      let p = none_split (test (seen w)) (seen w) (find test (map seen (take i ws))) none in
      ap (λ b. cond b (Some (seen w)) (find test (map seen (take (suc i) ws)))) p.0
      ∙ more_behind ws i (omega arith) fails p.1

  pub no_more : (ws : List CodeToken) (i : ℕ) → i < length ws → test (seen (get_or ws i d)) ≡ false
      → find test (map seen (take i ws)) ≡ None → find test (map seen (take (i + 1) ws)) ≡ None
  no_more ws i lt fails none =
      ap (λ n. find test (map seen (take n ws))) (add-one i) ∙ more_behind ws i lt fails none

  pub here_first : (ws : List CodeToken) (i : ℕ) → i < length ws → test (seen (get_or ws i d)) ≡ true
      → find test (map seen (take i ws)) ≡ None → Some (seen (get_or ws i d)) ≡ find test (map seen ws)
  here_first [] i lt passes none = absurd (omega arith)
  here_first (w ∷ ws) zero lt passes none = sym (ap (λ b. cond b (Some (seen w)) (find test (map seen ws))) passes)
  here_first (w ∷ ws) (suc i) lt passes none =
      let p = none_split (test (seen w)) (seen w) (find test (map seen (take i ws))) none in
      here_first ws i (omega arith) passes p.1
      ∙ sym (ap (λ b. cond b (Some (seen w)) (find test (map seen ws))) p.0)
