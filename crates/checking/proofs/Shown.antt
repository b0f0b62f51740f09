-- Labels as they are printed.
use Rattle.std.proofs.Common.{◌≡◌, List, ℕ, inl, inr}
use Rattle.std.specs.Prelude.{codes}
use Rattle.std.specs.Str.{IsUtf8, is_utf8}
use Rattle.std.proofs.lemmas.Bool.{cases_Bool, cond-true, cond-false}
use Rattle.std.proofs.lemmas.Str.{IsUtf8-from_is_utf8, is_utf8-from_IsUtf8}
use Rattle.checking.specs.FaultLines.{shown_label}

-- text is printed as itself
pub shown_text : (label : List ℕ) → IsUtf8 label → shown_label label ≡ label
shown_text label h = cond-true (is_utf8 label) label (codes "?") (is_utf8-from_IsUtf8 label h)

-- what isn't text, as a question mark
pub shown_otherwise : (label : List ℕ) → (IsUtf8 label → ⊥) → shown_label label ≡ codes "?"
shown_otherwise label refused =
    elim (cases_Bool (is_utf8 label)) [
      | inl t ↦ absurd (refused (IsUtf8-from_is_utf8 label t))
      | inr f ↦ cond-false (is_utf8 label) label (codes "?") f
    ]
