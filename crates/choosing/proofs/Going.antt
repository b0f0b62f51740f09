-- What the choice of the nearest keeps from turn to turn.
use Rattle.std.proofs.Common.{◌≡◌, ◌<◌, ℕ, suc, zero, Bool, true, false, List, [], ◌∷◌, ◌++◌, length, map, take, get_or, Some, refl}
use Rattle.std.proofs.Common.{sym, ap, subst, ◌∙◌, arith, inl, inr}
use Rattle.std.specs.Prelude.{if◌then◌else◌, reverse, slice_get, replicate}
use Rattle.std.specs.Option.{option_map}
use Rattle.std.proofs.lemmas.List.{reverse-append, reverse-reverse, take_all, length-map}
use Rattle.std.proofs.lemmas.Option.{slice_get-map, slice_get-get_or, slice_get_cases}
use Rattle.mmtext.specs.Words.{Word}
use Rattle.source.specs.Scopes.{Assertion, is_in}
use Rattle.taking.specs.Reasons.{needed}
use Rattle.choosing.specs.Choices.{nearest, have_room, with_needs}
use Rattle.choosing.specs.Marks.{AreMarked, AreWidened}

-- so many are left, the first of all: these are wanted so far
pub record Stands (most : ℕ) (xs : List Assertion) (asked : List Word) (place : ℕ) (wanted : List Bool) : Type 0 where
  pub needs : List Word
  pub wanted_are : AreMarked xs (is_in needs) wanted
  pub goes : nearest (have_room most xs) needs (reverse (take place xs)) ≡ nearest (have_room most xs) asked (reverse xs)

-- ---- the first turn

pub unmarked_all : (xs : List Assertion) (n : ℕ) → n ≡ length xs → AreMarked xs (λ w. false) (replicate n false)
unmarked_all [] zero h = refl
unmarked_all [] (suc n) h = absurd (omega arith)
unmarked_all (x ∷ xs) zero h = absurd (omega arith)
unmarked_all (x ∷ xs) (suc n) h = ap (λ bs. false ∷ bs) (unmarked_all xs n (omega arith))

pub start : (most : ℕ) (xs : List Assertion) (asked : List Word) (n : ℕ) (wanted : List Bool) → n ≡ length xs
    → AreMarked xs (is_in asked) wanted → Stands most xs asked n wanted
start most xs asked n wanted h are = record {
  needs = asked;
  wanted_are = are;
  goes = ap (λ ys. nearest (have_room most xs) asked (reverse ys)) (take_all n xs (omega arith));
}

-- ---- the last

pub finish : (most : ℕ) (xs : List Assertion) (asked : List Word) (wanted : List Bool) → Stands most xs asked 0 wanted
    → AreMarked xs (is_in (nearest (have_room most xs) asked (reverse xs))) wanted
finish most xs asked wanted s = subst (λ (ws : List Word). AreMarked xs (is_in ws) wanted) s.goes s.wanted_are

-- ---- a turn

pub one_more : {A : Type 0} (xs : List A) (k : ℕ) (x : A) → slice_get xs k ≡ Some x → take (suc k) xs ≡ take k xs ++ x ∷ []
one_more [] k x is = absurd cc
one_more (y ∷ ys) zero x is = let e : y ≡ x = cc in ap (λ z. z ∷ []) e
one_more (y ∷ ys) (suc k) x is = ap (λ zs. y ∷ zs) (one_more ys k x is)

-- what is left, from its last
left : (xs : List Assertion) (place : ℕ) (x : Assertion) → slice_get xs place ≡ Some x
    → reverse (take (suc place) xs) ≡ x ∷ reverse (take place xs)
left xs place x is = ap reverse (one_more xs place x is) ∙ reverse-append (take place xs) (x ∷ [])

mark_of : (xs : List Assertion) (place : ℕ) (x : Assertion) (test : Word → Bool) (marks : List Bool) (b : Bool)
    → slice_get xs place ≡ Some x
    → AreMarked xs test marks → slice_get marks place ≡ Some b → test x.label ≡ b
mark_of xs place x test marks b is are at =
    let e : Some (test x.label) ≡ Some b =
    ap (option_map (λ (y : Assertion). test y.label)) (sym is)
    ∙ sym (slice_get-map (λ (y : Assertion). test y.label) xs place)
    ∙ ap (λ bs. slice_get bs place) are
    ∙ at in
    cc

module _ (most : ℕ) (xs : List Assertion) (asked : List Word) (place : ℕ) (wanted : List Bool) (x : Assertion) (w : Bool)
    (is : slice_get xs place ≡ Some x) (w-is : slice_get wanted place ≡ Some w) (s : Stands most xs asked (suc place) wanted) where
  behind : List Word
  behind = if w then with_needs (have_room most xs) (needed (take place xs) x) s.needs else s.needs

  goes_on : nearest (have_room most xs) behind (reverse (take place xs)) ≡ nearest (have_room most xs) asked (reverse xs)
  unfolding behind
  goes_on =
      let room = have_room most xs in
      let before = reverse (take place xs) in
      ap (λ ys. nearest room (if w then with_needs room (needed ys x) s.needs else s.needs) before) (sym (reverse-reverse (take place xs)))
      ∙ ap (λ b. nearest room (if b then with_needs room (needed (reverse before) x) s.needs else s.needs) before)
      (sym (mark_of xs place x (is_in s.needs) wanted w is s.wanted_are w-is))
      ∙ ap (nearest room s.needs) (sym (left xs place x is))
      ∙ s.goes

  -- it is wanted, and what it needs has room or not
  pub on_wanted : w ≡ true → (after : List Bool) → AreWidened most xs place s.needs after (slice_get xs place)
      → Stands most xs asked place after
  unfolding behind
  on_wanted y after are = record {
    needs = behind;
    wanted_are =
        subst (λ (b : Bool).
        AreMarked xs (is_in (if b then with_needs (have_room most xs) (needed (take place xs) x) s.needs else s.needs)) after) (sym y)
        (subst (AreWidened most xs place s.needs after) is are);
    goes = goes_on;
  }

  -- it isn't
  pub on_left : w ≡ false → Stands most xs asked place wanted
  unfolding behind
  on_left n = record {
    needs = behind;
    wanted_are =
        subst (λ (b : Bool).
        AreMarked xs (is_in (if b then with_needs (have_room most xs) (needed (take place xs) x) s.needs else s.needs)) wanted) (sym n)
        s.wanted_are;
    goes = goes_on;
  }

-- ---- a turn at the flag that was read

module _ (most : ℕ) (xs : List Assertion) (asked : List Word) (place before : ℕ) (wanted : List Bool) (w d : Bool)
    (within : before < length xs) (place-is : place ≡ suc before) (w-is : w ≡ get_or wanted before d)
    (s : Stands most xs asked place wanted) where
  x : (x : Assertion) × (slice_get xs before ≡ Some x)
  x = elim (slice_get_cases xs before).1 [ inl y ↦ (y.0, y.2) | inr past ↦ absurd (omega arith) ]

  here : slice_get wanted before ≡ Some w
  here =
      let same : length wanted ≡ length xs = ap length (sym s.wanted_are) ∙ length-map xs (λ (y : Assertion). is_in s.needs y.label) in
      slice_get-get_or wanted before d (omega arith) ∙ ap (λ z. Some z) (sym w-is)

  stands : Stands most xs asked (suc before) wanted
  stands = subst (λ (k : ℕ). Stands most xs asked k wanted) place-is s

  pub turned_left : w ≡ false → Stands most xs asked before wanted
  turned_left n = on_left most xs asked before wanted x.0 w x.1 here stands n

  pub turned_wanted : w ≡ true → (after : List Bool)
      → ((ws : List Word) → AreMarked xs (is_in ws) wanted → AreWidened most xs before ws after (slice_get xs before))
      → Stands most xs asked before after
  turned_wanted y after widened =
      on_wanted most xs asked before wanted x.0 w x.1 here stands y after (widened stands.needs stands.wanted_are)
