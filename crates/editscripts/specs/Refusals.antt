-- Why scripts can't be read over a source, and the line that says so.
use Rattle.std.specs.Prelude.{◌≡◌, ◌≢◌, ◌⊎◌, ◌+◌, ℕ, Bool, List, [], ◌++◌, length, take, Some, codes, slice_get, slice_index_or, string_bytes}
use Rattle.mmtext.specs.Text.{Token}
use Rattle.mmtext.specs.declared.fault.TextFault.{TextFault}
use Rattle.mmtext.specs.declared.fault.FaultKind.TheVariants.{NoMemory as OutOfMemory}
use Rattle.source.specs.Scopes.{Assertion, Scope}
use Rattle.checking.specs.Checks.{Bytes, Orders, AreScripts}
use Rattle.checking.specs.FaultLines.{shown_label}
use Rattle.scripts.specs.ScriptFaults.{FaultyScript}
use Rattle.spreading.specs.Spreading.{Misfit, unknown, numbered, not_alone}
use Rattle.locating.specs.Told.{told_at, spot_at, text_line}
use Rattle.spreading.specs.Words.{text_of, place_at}
use Rattle.expanding.specs.Ranking.{IsCrowded}
use Rattle.mmsyntax.specs.Tables.{Tables, Contents}
use Rattle.taking.specs.Names.{Map}
use Rattle.pasting.specs.Places.{places_in}
use Rattle.pasting.specs.Pasted.{PasteFault, HasPasteFault, AreAdditions}
use Rattle.editscripts.specs.declared.unedited.Unedited.{Unedited}
use Rattle.editscripts.specs.declared.unedited.Unedited.TheVariants as unedited
use Rattle.editscripts.specs.Expanded.{ArePasted, ArePastedWith, RankedScript, AreRanked, texts_of}

-- the word that doesn't fit, and why
abbrev pub misfit_word : Misfit → Token
misfit_word (unknown t) = t
misfit_word (numbered t) = t
misfit_word (not_alone t) = t

abbrev pub misfit_text : Misfit → Bytes
misfit_text (unknown t) = codes "the source has no assertion " ++ shown_label t.text
misfit_text (numbered t) = codes "a rank has no meaning for a source"
misfit_text (not_alone t) = codes "replace * stands beside another command"

-- that, at that word
abbrev pub misfit_line : Bytes → Bytes → Misfit → Bytes
misfit_line path text m = told_at path text (Some (spot_at text (misfit_word m).place)) (misfit_text m)

-- a theorem forbids a command of a script, whatever becomes of the others
abbrev pub barred_text : Token → Bytes → Bytes
barred_text t by =
    shown_label t.text
    ++ (codes " can't leave its place: " ++ (shown_label by ++ codes " cites it, and no script moves that or gives it another proof"))

abbrev pub barred_line : Bytes → Bytes → Token → Bytes → Bytes
barred_line path text t by = told_at path text (Some (spot_at text t.place)) (barred_text t by)

-- the first compressed proof of a script with this path and text that is none at its theorem
pub record IsPasteFaultLine (path text : Bytes) (m : Map) (t : Tables) (s : Scope) (added : List Assertion) (ts : List Token) (line : Bytes)
    : Type 0 where
  pub found : PasteFault
  pub faulty : HasPasteFault m t s added ts found
  pub told : found.kind ≢ OutOfMemory
  pub says : line ≡ text_line path text (record { place = found.at.place; kind = found.kind })

-- a script has such a proof; those before it have proofs of the library
pub record IsUnpastedBy (paths : List Bytes) (s : Scope) (texts : List Bytes) (flags : List Bool) (db : Contents)
    (scripts : List (List Token)) (line : Bytes) : Type 0 where
  pub added : List Assertion
  pub are_added : AreAdditions (places_in s flags db) db.prelude scripts added
  pub script : ℕ
  pub before : List (List Token)
  pub are_pasted : ArePastedWith s flags db added (take script scripts) before
  pub ts : List Token
  pub at : slice_get scripts script ≡ Some ts
  pub cause : IsPasteFaultLine (slice_index_or paths (script + 1) []) (slice_index_or texts script []) (places_in s flags db) db.prelude s
      added ts line

-- the word that puts too many at one place
abbrev pub crowded_line : Bytes → Bytes → Token → Bytes
crowded_line path text t = told_at path text (Some (spot_at text t.place)) (codes "over 99 are put at one place")

pub record IsCrowdedLine (path text : Bytes) (s : Scope) (flags : List Bool) (gaps : List ℕ) (ts : List Token) (line : Bytes)
    : Type 0 where
  pub word : Token
  pub crowded : IsCrowded s flags gaps ts word
  pub says : line ≡ crowded_line path text word

-- a script puts too many at one place, of a source of which flags say which assertions are taken; those before it don't
pub record IsCrowdedBy (paths : List Bytes) (s : Scope) (texts : List Bytes) (flags : List Bool) (scripts : List (List Token))
    (line : Bytes) : Type 0 where
  pub script : ℕ
  pub before : List RankedScript
  pub gaps : List ℕ
  pub are_ranked : AreRanked s flags [] (take script scripts) before gaps
  pub ts : List Token
  pub at : slice_get scripts script ≡ Some ts
  pub cause : IsCrowdedLine (slice_index_or paths (script + 1) []) (slice_index_or texts script []) s flags gaps ts line

-- scripts have no texts over a library that is taken of the source
pub record IsCrowdedThen (paths : List Bytes) (s : Scope) (texts : List Bytes) (flags : List Bool) (db : Contents)
    (scripts : List (List Token)) (line : Bytes) : Type 0 where
  pub pasted : List (List Token)
  pub are_pasted : ArePasted s flags db scripts pasted
  pub crowded : IsCrowdedBy paths s texts flags pasted line

abbrev pub IsUnlaidBy : List Bytes → Scope → List Bytes → List Bool → Contents → List (List Token) → Bytes → Type 0
IsUnlaidBy paths s texts flags db scripts line =
    IsUnpastedBy paths s texts flags db scripts line ⊎ IsCrowdedThen paths s texts flags db scripts line

-- a script isn't read over a library, though those before it are: its first fault is told at the word of the keeper's text for which the
-- word stands that has it
pub record IsUnreadBy (paths : List Bytes) (prelude : Tables) (texts : List Bytes) (scripts : List RankedScript) (line : Bytes)
    : Type 0 where
  pub script : ℕ
  pub before : List Orders
  pub ordered : AreScripts prelude (texts_of (take script scripts)) before
  pub ranked : RankedScript
  pub at : slice_get scripts script ≡ Some ranked
  pub found : TextFault
  pub faulty : FaultyScript prelude (text_of ranked.words) found
  pub told : found.kind ≢ OutOfMemory
  pub says : line ≡ text_line (slice_index_or paths (script + 1) []) (slice_index_or texts script [])
      (record found { place = place_at ranked.words (length (slice_index_or texts script [])) found.place })

-- what is told, where it isn't want of memory
abbrev pub IsToldBy : (Bytes → Type 0) → Unedited → Type 0
IsToldBy P (unedited.Refused line) = P (string_bytes line)
IsToldBy P unedited.NoMemory = Unit {0}
