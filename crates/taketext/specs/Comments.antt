-- The comment in front of a library that was taken: from which text and by which choice, and what is told of it.
use Rattle.std.specs.Prelude.{ℕ, List, [], ◌∷◌, ◌++◌, ◌+◌, ◌/◌, ◌%◌, ◌&&◌, ◌==◌, nat_lt, map, length, codes, if◌then◌else◌}
use Rattle.std.specs.List.{flat_map}
use Rattle.std.specs.Fmt.{decimal}
use mathlib.Core.Bool.{not}
use Rattle.mmtext.specs.Words.{Word}
use Rattle.mmtext.specs.Text.{is_printable}
use Rattle.mmsyntax.specs.Layout.{spaced}
use Rattle.sha2.specs.Sha256.{sha256}
use Rattle.source.specs.Views.{seen_words}
use Rattle.taking.specs.declared.reason.Reason.{Reason}
use Rattle.taking.specs.declared.reason.Reason.TheVariants.{Unfinished, TooLong, InFront, CitesUnchosen, LongExpression}
use Rattle.taking.specs.Names.{Naming}
use Rattle.choosing.specs.declared.wish.Wish.{Wish}
use Rattle.choosing.specs.declared.wish.Wish.TheVariants as wish
use Rattle.intake.specs.declared.taken.Taken.{Taken}
use Rattle.intake.specs.Intakes.{axioms_of, names_of}

-- of a path, a byte that a comment may not have is shown as ?
abbrev pub shown_byte : ℕ → ℕ
shown_byte b = if is_printable b && not (b == 36) then b else 63

abbrev pub shown_path : List ℕ → List ℕ
shown_path path = map shown_byte path

-- two digits of a byte, as 0a
abbrev pub digit : ℕ → ℕ
digit n = if nat_lt n 10 then 48 + n else 87 + n

abbrev pub digits : ℕ → List ℕ
digits b = digit (b / 16) ∷ digit (b % 16) ∷ []

abbrev pub chosen_line : Wish → List ℕ
chosen_line wish.All = codes "   Chosen: all assertions" ++ 10 ∷ []
chosen_line (wish.For asked) = codes "   Chosen: for" ++ (spaced (seen_words asked.now) ++ 10 ∷ [])
chosen_line (wish.These labels axioms) = codes "   Chosen: just" ++ (spaced (seen_words labels.now) ++ 10 ∷ [])
chosen_line (wish.Between from to) = codes "   Chosen: from " ++ (from.now ++ (codes " to " ++ (to.now ++ 10 ∷ [])))

abbrev pub name_line : Naming → List ℕ
name_line p = codes "     " ++ (p.0 ++ (codes " is " ++ (p.1 ++ 10 ∷ [])))

abbrev pub reason_line : Reason → List ℕ
reason_line Unfinished = codes ": its proof is unfinished" ++ 10 ∷ []
reason_line TooLong = codes ": its proof has over 16384 steps" ++ 10 ∷ []
reason_line InFront = codes ": it stands in front of the choice" ++ 10 ∷ []
reason_line CitesUnchosen = codes ": it cites what is not chosen" ++ 10 ∷ []
reason_line LongExpression = codes ": an expression of its proof has over 65535 symbols" ++ 10 ∷ []

abbrev pub axiom_line : Word × Reason → List ℕ
axiom_line p = codes "     " ++ (p.0 ++ reason_line p.1)

-- the source: its path, its length and its SHA-256
abbrev pub source_lines : List ℕ → List ℕ → List ℕ
source_lines path source =
    codes "$( Taken by mmrefactor from "
    ++ (shown_path path ++ (10 ∷ codes "   " ++ (decimal (length source) ++ (codes " bytes, SHA-256 "
    ++ (flat_map digits (sha256 source) ++ 10 ∷ [])))))

abbrev pub names_lines : List Naming → List ℕ
names_lines ns = codes "   Changed names: " ++ (decimal (length ns) ++ (10 ∷ flat_map name_line ns))

abbrev pub axioms_lines : List (Word × Reason) → List ℕ
axioms_lines ps = codes "   Theorems taken as axioms, their proofs unchecked: " ++ (decimal (length ps) ++ (10 ∷ flat_map axiom_line ps))

abbrev pub comment_of : List ℕ → List ℕ → Wish → Taken → List ℕ
comment_of path source w t =
    source_lines path source
    ++ (chosen_line w ++ (names_lines (names_of t) ++ (axioms_lines (axioms_of t) ++ (codes "$)" ++ 10 ∷ []))))
