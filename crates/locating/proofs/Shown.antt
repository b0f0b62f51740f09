-- What is printed of a name, and of a line.
use Rattle.std.proofs.Common.{◌≡◌, ◌∙◌, ◌≤◌, ℕ, Bool, true, false, cond, List, length, Some, None, Result, Ok, Err, Bor}
use Rattle.std.proofs.Common.{refl, sym, ap, ap₂, inl, inr}
use Rattle.std.specs.Prelude.{codes, nat_le, ◌&&◌}
use Rattle.std.specs.List.{list_all}
use Rattle.std.specs.Option.{option_map}
use Rattle.std.specs.Result.{MatchResult, result_ok}
use Rattle.std.specs.Str.{IsUtf8, is_utf8}
use Rattle.std.proofs.lemmas.Bool.{cases_Bool, cond-true, cond-false, le-leb}
use Rattle.std.proofs.lemmas.Str.{IsUtf8-from_is_utf8, is_utf8-from_IsUtf8}
use Rattle.locating.specs.Told.{shown, is_visible, fits}

-- text is printed as itself
pub shown_text : (name : List ℕ) → IsUtf8 name → shown name ≡ name
shown_text name h = cond-true (is_utf8 name) name (codes "?") (is_utf8-from_IsUtf8 name h)

-- what isn't text, as a question mark
pub shown_otherwise : (name : List ℕ) → (IsUtf8 name → ⊥) → shown name ≡ codes "?"
shown_otherwise name refused =
    elim (cases_Bool (is_utf8 name)) [
      | inl t ↦ absurd (refused (IsUtf8-from_is_utf8 name t))
      | inr f ↦ cond-false (is_utf8 name) name (codes "?") f
    ]

-- ---- lines

-- what a line is shown as, that fits but for its text
pub shown_fitting : {E : Type 0} (line : List ℕ) (r : Result (Bor (List ℕ)) E) (P : E → Type 0)
    → MatchResult r (λ s. (s.now ≡ line) × IsUtf8 line) (λ e. (IsUtf8 line → ⊥) × P e) → length line ≤ 120
    → list_all is_visible line ≡ true
    → option_map (λ s. s.now) (result_ok r) ≡ cond (fits line) (Some line) None
shown_fitting line (Ok s) P h short visible =
    ap (λ t. Some t) h.0
    ∙ sym (cond-true (fits line) (Some line) None (all_three (le-leb (length line) 120 short) visible (is_utf8-from_IsUtf8 line h.1)))
  where
    all_three : {a b c : Bool} → a ≡ true → b ≡ true → c ≡ true → (a && b && c) ≡ true
    all_three e f g = ap₂ (λ x y. x && y) (ap₂ (λ x y. x && y) e f) g
shown_fitting line (Err e) P h short visible = elim (cases_Bool (is_utf8 line)) [
  | inl t ↦ absurd (h.0 (IsUtf8-from_is_utf8 line t))
  | inr f ↦ sym (cond-false (fits line) (Some line) None
      (last_fails (nat_le (length line) 120 && list_all is_visible line) (is_utf8 line) f))
]
  where
    last_fails : (a b : Bool) → b ≡ false → (a && b) ≡ false
    last_fails true b f = f
    last_fails false b f = refl
