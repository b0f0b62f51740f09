-- What is printed of a library tells where it was taken.
use Rattle.std.proofs.Common.{◌≡◌, ℕ, ◌<◌, List, [], ◌∷◌, ◌++◌, append_assoc, length, refl, arith}
use Rattle.std.specs.Prelude.{◌≢◌, ◌==◌, nat_lt, codes}
use Rattle.std.specs.List.{flat_map, AllByRecursion, list_all}
use Rattle.std.specs.Fmt.{decimal}
use mathlib.Core.Bool.{not}
use Rattle.std.proofs.lemmas.Bool.{and_parts, ltb-true}
use Rattle.std.proofs.lemmas.List.Elements.{All-from_recursion, All-append}
use Rattle.mmtext.specs.Words.{Word}
use Rattle.mmtext.specs.Text.{is_printable}
use Rattle.mmsyntax.specs.Preludes.{IsPrintable}
use Rattle.mmsyntax.specs.Layout.{text_of}
use Rattle.mmsyntax.proofs.Distinct.{all_weaker}
use Rattle.sha2.specs.Sha256.{sha256}
use Rattle.choosing.specs.Choices.{labels_wished}
use Rattle.intake.specs.Intakes.{axioms_of, names_of}
use Rattle.taketext.specs.Comments.{shown_path, digits, chosen_line, names_lines, axioms_lines}
use Rattle.taketext.specs.Names.{IsLabelToken}
use Rattle.taketext.specs.Origins.{IsInLine, IsBetweenSpaces, PrintedTells}
use Rattle.taketext.proofs.Named.{wish_labels}
use Rattle.taketext.proofs.Quiet.{AreInked, is_inked, inked_shown, inked_decimal, inked_sum}
use Rattle.taketext.proofs.Telling.{in_line, written_line}

-- ---- printable bytes stand between spaces

printable_plain : (b : ℕ) → IsPrintable b → (b ≢ 10) × (b ≢ 32)
printable_plain b h =
    let up : 32 < b = ltb-true 32 b (and_parts (nat_lt 32 b) (nat_lt b 127) h).0 in
    (λ e. omega arith, λ e. omega arith)

inked_printable : (bytes : List ℕ) → AreInked bytes → AllByRecursion IsPrintable bytes
inked_printable [] h = tt
inked_printable (b ∷ bs) h =
    let both = and_parts (is_inked b) (list_all is_inked bs) h in
    ((and_parts (is_printable b) (not (b == 36)) both.0).0, inked_printable bs both.1)

printable_word : (w : Word) → AllByRecursion IsPrintable w → IsBetweenSpaces w
printable_word w h =
    All-from_recursion (λ (b : ℕ). (b ≢ 10) × (b ≢ 32)) w
    (all_weaker IsPrintable (λ (b : ℕ). (b ≢ 10) × (b ≢ 32)) w printable_plain h)

inked_line : (bytes : List ℕ) → AreInked bytes → IsInLine bytes
inked_line bytes h = in_line bytes (printable_word bytes (inked_printable bytes h))

-- ---- the lines

-- pieces one behind the other
regrouped : (head shown blank count middle sum chosen rest text : List ℕ)
    → ((head ++ (shown ++ (blank ++ (count ++ (middle ++ (sum ++ 10 ∷ [])))))) ++ (chosen ++ rest)) ++ text
    ≡ head ++ (shown ++ (blank ++ ((count ++ (middle ++ sum)) ++ (10 ∷ (chosen ++ (rest ++ text))))))
regrouped head shown blank count middle sum chosen rest text = simp append_assoc

pub printed_tells : PrintedTells
printed_tells path source w t taken other =
    let P : ℕ → Type 0 = λ b. b ≢ 10 in
    let count = decimal (length source) in
    let middle = codes " bytes, SHA-256 " in
    let sum = flat_map digits (sha256 source) in
    let rest = names_lines (names_of t) ++ (axioms_lines (axioms_of t) ++ (codes "$)" ++ 10 ∷ [])) in
    let numbers : IsInLine (count ++ (middle ++ sum)) =
    All-append P count (middle ++ sum) (inked_line count (inked_decimal (length source)))
    (All-append P middle sum (written_line middle refl) (inked_line sum (inked_sum source))) in
    record {
      source_line = codes "   " ++ (count ++ (middle ++ sum));
      rest = rest ++ text_of t.database;
      path_in_line = inked_line (shown_path path) (inked_shown path);
      in_line = All-append P (codes "   ") (count ++ (middle ++ sum)) (written_line (codes "   ") refl) numbers;
      asked = record {
        other = other;
        labels =
            All-from_recursion IsBetweenSpaces (labels_wished w)
            (all_weaker IsLabelToken IsBetweenSpaces (labels_wished w) (λ l token. printable_word l token.word.1)
            (wish_labels source w t taken));
      };
      begins =
          regrouped (codes "$( Taken by mmrefactor from ") (shown_path path) (10 ∷ codes "   ") count middle sum (chosen_line w) rest
          (text_of t.database);
    }
