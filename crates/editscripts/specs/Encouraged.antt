-- Scripts that may be run: no theorem forbids what they do, and no comment of the source discourages it; and the line that says of others
-- what they do although it is discouraged.
use Rattle.std.specs.Prelude.{◌≡◌, ℕ, Bool, false, List, [], ◌++◌, Some, codes}
use Rattle.mmtext.specs.Text.{Token}
use Rattle.mmtext.specs.Words.{Word}
use Rattle.source.specs.Scopes.{Scope}
use Rattle.checking.specs.Checks.{Bytes}
use Rattle.checking.specs.FaultLines.{shown_label}
use Rattle.remarks.specs.Remarks.{AreRemarks}
use Rattle.locating.specs.Told.{told_at, spot_at}
use Rattle.expanding.specs.Barred.{IsBarred}
use Rattle.expanding.specs.Discouraged.{Remarked, Discouraged, modifies, uses, AreDiscouraged}

-- the labels of which comments of a source discourage something
pub record Remarks (source : Bytes) : Type 0 where
  pub modifications : List Word
  pub usages : List Word
  pub are_remarks : AreRemarks source modifications usages

abbrev pub remarked_in : {source : Bytes} → Remarks source → Remarked
remarked_in r = record { modification = r.modifications; usage = r.usages }

-- ---- they may

-- no theorem forbids a command of theirs
abbrev pub AreFree : Scope → List (List Token) → Type 0
AreFree s scripts = (script : ℕ) (label : Token) (by : Bytes) → IsBarred s scripts script label by → ⊥

-- the scripts do nothing that comments discourage
pub record AreEncouraged (source : Bytes) (s : Scope) (scripts : List (List Token)) : Type 0 where
  pub remarks : Remarks source
  pub none : AreDiscouraged s (remarked_in remarks) scripts []

-- neither is so, unless what is discouraged is forced
pub record AreAllowed (source : Bytes) (s : Scope) (force : Bool) (scripts : List (List Token)) : Type 0 where
  pub free : AreFree s scripts
  pub encouraged : force ≡ false → AreEncouraged source s scripts

-- ---- they may not

-- they do, with this word: at it, `LABEL: ` and the words of the comment
abbrev pub discouraged_word : Discouraged → Token
discouraged_word (modifies t) = t
discouraged_word (uses t) = t

abbrev pub discouraged_text : Discouraged → Bytes
discouraged_text (modifies t) = shown_label t.text ++ codes ": proof modification is discouraged"
discouraged_text (uses t) = shown_label t.text ++ codes ": new usage is discouraged"

abbrev pub discouraged_line : Bytes → Bytes → Discouraged → Bytes
discouraged_line path text d = told_at path text (Some (spot_at text (discouraged_word d).place)) (discouraged_text d)
