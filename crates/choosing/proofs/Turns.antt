-- The choice of the nearest: as many as have room.
use Rattle.std.proofs.Common.{◌≡◌, ◌≤◌, ◌∙◌, ℕ, Bool, true, false, List, [], ◌∷◌, ◌++◌, length, take, sym, ap, subst, arith, inl, inr}
use Rattle.std.specs.Prelude.{◌||◌, if◌then◌else◌, nat_lt, reverse, filter, Option, Some, None}
use mathlib.Core.Bool.{not}
use Rattle.std.specs.Str.{bytes_eq}
use Rattle.std.proofs.lemmas.Bool.{cases_Bool, cond-true, cond-false}
use Rattle.std.proofs.lemmas.Bool.Decides.{nat_tests}
use Rattle.std.proofs.lemmas.List.Folds.{list_any-append}
use Rattle.mmtext.specs.Words.{Word}
use Rattle.source.specs.Scopes.{Assertion, is_in}
use Rattle.taking.specs.Reasons.{needed}
use Rattle.choosing.specs.Choices.{labelled, have_room, with_needs, nearest}
use Rattle.choosing.specs.Marks.{AreMarked, AreMarkedToo, AreWidened}
use Rattle.choosing.proofs.Apart.{count_flags}
use Rattle.choosing.proofs.Marked.{marks_agree}

-- ---- so few are chosen

small : (most n : ℕ) → not (nat_lt most n) ≡ true → n ≤ most
small most n h = grind (arith, nat_tests)

few_with : (most : ℕ) (xs : List Assertion) (needs wanted : List Word) → length (labelled wanted xs) ≤ most
    → length (labelled (with_needs (have_room most xs) needs wanted) xs) ≤ most
few_with most xs needs wanted h =
    let room = have_room most xs (needs ++ wanted) in
    elim (cases_Bool room) [
      | inl y ↦
          subst (λ (ws : List Word). length (labelled ws xs) ≤ most) (sym (cond-true room (needs ++ wanted) wanted y))
          (small most (length (labelled (needs ++ wanted) xs)) y)
      | inr n ↦ subst (λ (ws : List Word). length (labelled ws xs) ≤ most) (sym (cond-false room (needs ++ wanted) wanted n)) h
    ]

few_turn : (most : ℕ) (xs : List Assertion) (needs wanted : List Word) (b : Bool) → length (labelled wanted xs) ≤ most
    → length (labelled (if b then with_needs (have_room most xs) needs wanted else wanted) xs) ≤ most
few_turn most xs needs wanted true h = few_with most xs needs wanted h
few_turn most xs needs wanted false h = h

pub few : (most : ℕ) (xs : List Assertion) (wanted : List Word) (ys : List Assertion) → length (labelled wanted xs) ≤ most
    → length (labelled (nearest (have_room most xs) wanted ys) xs) ≤ most
few most xs wanted [] h = h
few most xs wanted (x ∷ before) h =
    few most xs (if is_in wanted x.label then with_needs (have_room most xs) (needed (reverse before) x) wanted else wanted) before
    (few_turn most xs (needed (reverse before) x) wanted (is_in wanted x.label) h)

-- ---- one assertion

-- as many have the labels as are marked
counted : (xs : List Assertion) (ws : List Word) (marks : List Bool) → AreMarked xs (is_in ws) marks
    → length (labelled ws xs) ≡ length (filter (λ b. b) marks)
counted xs ws marks are =
    sym (count_flags (λ (x : Assertion). is_in ws x.label) xs) ∙ ap (λ bs. length (filter (λ b. b) bs)) are

module _ (most : ℕ) (xs : List Assertion) (place : ℕ) (ws : List Word) (more : List Bool) where
  with_more : (x : Assertion) → AreMarked xs (λ w. is_in (needed (take place xs) x) w || is_in ws w) more
      → AreMarked xs (is_in (needed (take place xs) x ++ ws)) more
  with_more x m =
      marks_agree xs (λ w. is_in (needed (take place xs) x) w || is_in ws w) (is_in (needed (take place xs) x ++ ws)) more
      (λ w. sym (list_any-append (bytes_eq w) (needed (take place xs) x) ws)) m

  room_is : (x : Assertion) → AreMarked xs (λ w. is_in (needed (take place xs) x) w || is_in ws w) more → (b : Bool)
      → not (nat_lt most (length (filter (λ c. c) more))) ≡ b → have_room most xs (needed (take place xs) x ++ ws) ≡ b
  room_is x m b h =
      ap (λ n. not (nat_lt most n)) (counted xs (needed (take place xs) x ++ ws) more (with_more x m)) ∙ h

  -- there is room for what it needs
  pub widened_more : (o : Option Assertion) → AreMarkedToo xs place (is_in ws) more o
      → not (nat_lt most (length (filter (λ c. c) more))) ≡ true → AreWidened most xs place ws more o
  widened_more None m h = tt
  widened_more (Some x) m h =
      let all = needed (take place xs) x ++ ws in
      subst (λ (vs : List Word). AreMarked xs (is_in vs) more) (sym (cond-true (have_room most xs all) all ws (room_is x m true h)))
      (with_more x m)

  -- there is none
  pub widened_same : (wanted : List Bool) (o : Option Assertion) → AreMarkedToo xs place (is_in ws) more o
      → not (nat_lt most (length (filter (λ c. c) more))) ≡ false → AreMarked xs (is_in ws) wanted
      → AreWidened most xs place ws wanted o
  widened_same wanted None m h are = tt
  widened_same wanted (Some x) m h are =
      let all = needed (take place xs) x ++ ws in
      subst (λ (vs : List Word). AreMarked xs (is_in vs) wanted) (sym (cond-false (have_room most xs all) all ws (room_is x m false h)))
      are
