-- The labels of a database are text.
use Rattle.std.proofs.Common.{◌≡◌, ◌∙◌, ℕ, ◌<◌, true, List, length, get_or, Some, subst, sym, ap, arith}
use Rattle.std.specs.Prelude.{All, ◌&&◌, slice_get, nat_le, is_some}
use mathlib.Core.Bool.{not}
use Rattle.std.specs.Option.{unwrap_or}
use Rattle.std.proofs.lemmas.Bool.{and_parts}
use Rattle.std.proofs.lemmas.Bool.Decides.{nat_tests}
use Rattle.std.proofs.lemmas.Option.{slice_get_within, unwrap_or-slice_get}
use Rattle.std.proofs.lemmas.List.Elements.{All-get_or, All-weaker}
use Rattle.std.proofs.lemmas.List.Sums.{AllPass-from_list_all}
use Rattle.std.proofs.lemmas.Str.{IsUtf8-from_ascii}
use Rattle.std.proofs.lemmas.Str.Ascii.{IsAscii-from_all}
use Rattle.mmtext.specs.Words.{is_label_byte, is_label}
use Rattle.mmsyntax.specs.declared.statement.Assertion.{Assertion}
use Rattle.mmsyntax.specs.Tables.{Tables, meaning}
use Rattle.mmsyntax.specs.Assertions.{is_lawful_label}
use Rattle.mmsyntax.proofs.Declarable.{declarable}
use Rattle.derivation.specs.declared.fault.ProofFault.{ProofFault}
use Rattle.checking.specs.declared.fault.Fault.TheVariants.{Proof}
use Rattle.checking.specs.FaultLines.{shown_label}
use Rattle.checking.specs.Checks.{Bytes, IsDatabaseFault}
use Rattle.checking.proofs.Shown.{shown_text}

-- what holds of all items holds of the one at a place
item_holds : {A : Type 0} (P : A → Type 0) (xs : List A) (i : ℕ) (x : A) → slice_get xs i ≡ Some x → All P xs → P x
item_holds P xs i x at all =
    let is : get_or xs i x ≡ x = sym (unwrap_or-slice_get xs i x) ∙ ap (λ o. unwrap_or o x) at in
    subst P is (All-get_or P xs i x (slice_get_within xs i x at) all)

label_byte_ascii : (b : ℕ) → is_label_byte b ≡ true → b < 128
label_byte_ascii b h = grind (arith, nat_tests)

-- a lawful label
lawful_shown : (t : Tables) (w : List ℕ) → is_lawful_label t w ≡ true → shown_label w ≡ w
lawful_shown t w h =
    let within = nat_le 1 (length w) && nat_le (length w) 255 in
    let a = and_parts (within && is_label w) (not (is_some (meaning t w))) h in
    let b = and_parts within (is_label w) a.0 in
    let ascii = All-weaker (λ x. is_label_byte x ≡ true) (λ x. x < 128) label_byte_ascii w (AllPass-from_list_all is_label_byte w b.1) in
    shown_text w (IsUtf8-from_ascii w (IsAscii-from_all w ascii))

pub database_shown : (text : Bytes) (label : List ℕ) (fault : ProofFault) → IsDatabaseFault text (Proof label fault)
    → shown_label label ≡ label
database_shown text label fault h =
    let db = h.0 in
    let a = h.2.2.0 in
    let laws = declarable db (record { text = text; spells = h.1.spelled }) in
    let lawful = item_holds (λ (x : Assertion). is_lawful_label db.prelude x.label ≡ true) db.assertions h.2.0 a h.2.2.1 laws.lawful in
    subst (λ w. shown_label w ≡ w) (sym h.2.2.2) (lawful_shown db.prelude a.label lawful)
