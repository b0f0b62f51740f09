-- What the program answers where a library is to be taken.
use Rattle.std.specs.Prelude.{◌≡◌, ◌≢◌, ◌<◌, ◌≤◌, ◌⊎◌, ℕ, List, ◌++◌, length, string_bytes}
use Rattle.mmsyntax.specs.Grammar.{Spells}
use Rattle.mmsyntax.specs.Layout.{text_of}
use Rattle.choosing.specs.declared.wish.Wish.{Wish}
use Rattle.intake.specs.declared.taken.Taken.{Taken}
use Rattle.intake.specs.declared.refusal.Refusal.{Refusal}
use Rattle.intake.specs.declared.refusal.Refusal.TheVariants.{NoMemory}
use Rattle.intake.specs.Intakes.{IsTakenByWish, IsRefused}
use Rattle.taketext.specs.Comments.{comment_of}
use Rattle.taketext.specs.Refusals.{refusal_line, long_line}
use Rattle.taketext.specs.declared.answering.Told.{Told}
use Rattle.taketext.specs.declared.answering.Told.TheVariants.{Printed, Refused}
use Rattle.mmsyntax.specs.declared.limits.TheConstants.{MOST_BYTES}

-- the text of a library behind its comment
abbrev pub taken_text : List ℕ → List ℕ → Wish → Taken → List ℕ
taken_text path source w t = comment_of path source w t ++ text_of t.database

-- a library is taken, and the text that is printed spells it, as it stands, and isn't too long to be read
pub record IsPrinted (path source : List ℕ) (w : Wish) (out : List ℕ) : Type 0 where
  pub library : Taken
  pub taken : IsTakenByWish source w library
  pub text : out ≡ taken_text path source w library
  pub spelled : Spells out library.database
  pub short : length out ≤ MOST_BYTES

-- why nothing is printed: a refusal, or a text that is too long
abbrev pub IsRefusedBy : List ℕ → List ℕ → Wish → List ℕ → Type 0
IsRefusedBy path source w line =
    ((why : Refusal) × (why ≢ NoMemory → IsRefused source w why) × (line ≡ refusal_line path source why))
    ⊎ ((t : Taken) × IsTakenByWish source w t × (line ≡ long_line path (length (taken_text path source w t)))
    × (MOST_BYTES < length (taken_text path source w t)))

abbrev pub IsTakeAnswer : List ℕ → List ℕ → Wish → Told → Type 0
IsTakeAnswer path source w (Printed out) = IsPrinted path source w out.items
IsTakeAnswer path source w (Refused line) = IsRefusedBy path source w (string_bytes line)
