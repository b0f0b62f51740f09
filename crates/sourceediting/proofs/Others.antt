-- Assertions that flags don't choose, one more at a time.
use Rattle.std.proofs.Common.{◌≡◌, ◌∙◌, ℕ, zero, suc, ◌+◌, ◌<◌, Bool, true, false, List, [], ◌∷◌, ◌++◌, length, map, take, get_or, Some, sym, ap, add-one, arith}
use Rattle.std.specs.Prelude.{All, Contains, slice_get, ◌&&◌}
use mathlib.Core.Bool.{not}
use Rattle.std.proofs.lemmas.List.{append-nil, map_more}
use Rattle.std.proofs.lemmas.List.Elements.{All-push, All-same}
use Rattle.std.proofs.lemmas.Option.{get_or_from_slice_get, slice_get_within}
use Rattle.mmtext.specs.Words.{Word}
use Rattle.source.specs.Scopes.{Assertion, is_in}
use Rattle.taking.specs.declared.reason.Reason.{Reason}
use Rattle.taking.specs.Reasons.{Choice}
use Rattle.source.specs.Flags.{kept_at}
use Rattle.giving.specs.Staying.{others}
use Rattle.giving.proofs.Places.{others_more}
use Rattle.sourceediting.specs.Following.{is_own}
use Rattle.sourceediting.proofs.Origins.{flag_is}

module _ (P : Assertion → Type 0) (flags : List Bool) (xs : List Assertion) (i : ℕ) (x : Assertion) (within : i < length flags)
    (at : slice_get xs i ≡ Some x) (before : All P (others (take i flags) (take i xs))) where
  -- it is chosen
  pub own_passes : get_or flags i false ≡ true → All P (others (take (i + 1) flags) (take (i + 1) xs))
  own_passes flag =
      rw add-one
      (All-same P _ (others (take i flags) (take i xs))
      (others_more flags xs i x within at
      ∙ ap (λ (b : Bool). others (take i flags) (take i xs) ++ kept_at (not b) x []) flag
      ∙ append-nil (others (take i flags) (take i xs))) before)

  -- it isn't
  pub other_passes : get_or flags i false ≡ false → P x → All P (others (take (i + 1) flags) (take (i + 1) xs))
  other_passes flag so =
      rw add-one
      (All-same P _ (others (take i flags) (take i xs) ++ x ∷ [])
      (others_more flags xs i x within at
      ∙ ap (λ (b : Bool). others (take i flags) (take i xs) ++ kept_at (not b) x []) flag)
      (All-push P (others (take i flags) (take i xs)) x before so))

-- ---- one that isn't chosen

later_there : (y : Assertion) (zs : List Assertion) (x : Assertion) → Contains zs x → Contains (y ∷ zs) x
later_there y zs x h = (suc h.0, omega (arith, h.1), h.2)

there_behind : (b : Bool) (y : Assertion) (zs : List Assertion) (x : Assertion) → Contains zs x → Contains (kept_at b y zs) x
there_behind true y zs x h = later_there y zs x h
there_behind false y zs x h = h

first_there : (b : Bool) (y : Assertion) (zs : List Assertion) (x : Assertion) → b ≡ true → y ≡ x → Contains (kept_at b y zs) x
first_there true y zs x e same = (0, omega arith, same)
first_there false y zs x e same = absurd cc

pub other_there : (flags : List Bool) (xs : List Assertion) (i : ℕ) (x : Assertion) → i < length flags → slice_get xs i ≡ Some x
    → get_or flags i false ≡ false → Contains (others flags xs) x
other_there [] xs i x within at flag = absurd (omega arith)
other_there (f ∷ fs) [] i x within at flag = absurd cc
other_there (f ∷ fs) (y ∷ ys) zero x within at flag =
    let same : y ≡ x = cc in first_there (not f) y (others fs ys) x (ap not flag) same
other_there (f ∷ fs) (y ∷ ys) (suc i) x within at flag =
    there_behind (not f) y (others fs ys) x (other_there fs ys i x (omega arith) at flag)

-- ---- which assertions are the library's

module _ (choice : Choice) (told : List (Word × Reason)) (xs : List Assertion) (flags : List Bool) (i : ℕ) (x : Assertion)
    (at : slice_get xs i ≡ Some x) (are : map (λ (x : Assertion). is_in choice.chosen x.label) xs ≡ flags) where
  -- one more flag: whether it is chosen, and not told
  pub own_more : (own next : List Bool) (b chosen is_told : Bool) → own ≡ map (is_own choice told) (take i xs) → next ≡ own ++ b ∷ []
      → b ≡ (chosen && not is_told) → chosen ≡ get_or flags i false → is_told ≡ is_in (map (λ p. p.0) told) x.label
      → next ≡ map (is_own choice told) (take (i + 1) xs)
  own_more own next b chosen is_told so_far pushed is of_flags of_told =
      let front = map (is_own choice told) (take i xs) in
      pushed
      ∙ ap (λ (fs : List Bool). fs ++ b ∷ []) so_far
      ∙ ap (λ (t : Bool). front ++ t ∷ []) is
      ∙ ap (λ (t : Bool). front ++ (t && not is_told) ∷ []) (of_flags ∙ flag_is choice xs flags i x at are)
      ∙ ap (λ (t : Bool). front ++ (is_in choice.chosen x.label && not t) ∷ []) of_told
      ∙ ap (λ (y : Assertion). front ++ is_own choice told y ∷ []) (sym (get_or_from_slice_get xs i x x at))
      ∙ sym (map_more (is_own choice told) xs i x (slice_get_within xs i x at))
