-- A `delete` or a `move` that a theorem of the source forbids, which no script gives another proof or another place. So it is certain,
-- before any script runs, that the source can't verify once the command is done: a proof cites what stands in front of it (Metamath book,
-- section 4.2.8).
use Rattle.std.specs.Prelude.{◌≡◌, ◌<◌, ◌≤◌, ◌⊎◌, ℕ, Bool, false, ◌&&◌, ◌||◌, List, [], ◌∷◌, filter, length, Contains, IsTrue, Option, Some, None}
use Rattle.std.specs.Prelude.{is_some, slice_get, if◌then◌else◌, codes}
use Rattle.std.specs.List.{flat_map}
use Rattle.mmtext.specs.Text.{Token}
use Rattle.mmtext.specs.Words.{Word}
use Rattle.source.specs.Scopes.{Assertion, Scope, is_in}
use Rattle.spreading.specs.Words.{says}
use Rattle.spreading.specs.Forms.{Part, begins_with}
use Rattle.expanding.specs.Asking.{spoken_in, asked}
use Rattle.spreading.specs.Spreading.{assertion_at, cites}
use Rattle.expanding.specs.Commands.{Command, command_of, AreCommands}

-- ---- commands

-- `delete L`: its label
abbrev pub delete_of : Part → Option Token
delete_of (verb ∷ label ∷ []) = if says verb (codes "delete") then Some label else None
delete_of _ = None

-- `move L behind M`: both labels
abbrev pub move_of : Part → Option (Token × Token)
move_of (verb ∷ label ∷ how ∷ mark ∷ []) = if says verb (codes "move") && says how (codes "behind") then Some (label, mark) else None
move_of _ = None

-- a command moves an assertion, to whatever place
abbrev pub moves : Word → Part → Bool
moves w (verb ∷ label ∷ rest) = says verb (codes "move") && says label w
moves w _ = false

-- just one does
abbrev pub IsMovedOnce : List Command → Word → Type 0
IsMovedOnce cs w = length (filter (λ c. moves w c.words) cs) ≡ 1

-- the words of the commands that begin with one
abbrev pub words_if : Bool → Part → List Word
words_if begins p = if begins then spoken_in p else []

abbrev pub words_of : Word → List Command → List Word
words_of verb cs = flat_map (λ c. words_if (begins_with verb c.words) c.words) cs

-- a label is a word of a `rename`, which may take it from its assertion, or of a `delete`
abbrev pub is_renamed : List Command → Word → Bool
is_renamed cs w = is_in (words_of (codes "rename") cs) w

abbrev pub is_deleted : List Command → Word → Bool
is_deleted cs w = is_in (words_of (codes "delete") cs) w

-- ---- theorems

-- a theorem at a place of a source, which no script gives another proof or another place, cites an assertion
pub record Holds (s : Scope) (scripts : List (List Token)) (place : ℕ) (by label : Word) : Type 0 where
  pub theorem : Assertion
  pub there : slice_get s.assertions place ≡ Some theorem
  pub named : theorem.label ≡ by
  pub cited : IsTrue (cites label theorem.proof)
  pub stays : is_in (asked scripts) by ≡ false

-- ---- what they forbid

-- the command deletes an assertion of the source, which keeps its label till then
pub record IsDeletion (s : Scope) (cs : List Command) (p : Part) (label : Token) : Type 0 where
  pub deletes : delete_of p ≡ Some label
  pub declared : IsTrue (is_some (assertion_at s label.text))
  pub keeps_label : is_renamed cs label.text ≡ false

-- the command alone moves an assertion of the source, behind another that stays where it is; both keep their labels. So it comes to stand
-- behind what is at a place, behind which it didn't stand: also where that is the other one
pub record IsMoveBehind (s : Scope) (scripts : List (List Token)) (cs : List Command) (p : Part) (label : Token) (place : ℕ)
    : Type 0 where
  pub mark : Token
  pub puts : move_of p ≡ Some (label, mark)
  pub from : ℕ
  pub stood : assertion_at s label.text ≡ Some from
  pub to : ℕ
  pub put_behind : assertion_at s mark.text ≡ Some to
  pub above : from < place
  pub below : place ≤ to
  pub once : IsMovedOnce cs label.text
  pub keeps_label : (is_renamed cs label.text || is_deleted cs label.text) ≡ false
  pub mark_keeps_label : (is_renamed cs mark.text || is_deleted cs mark.text) ≡ false
  pub mark_stays : is_in (asked scripts) mark.text ≡ false

-- a theorem with a label forbids a command of a script, from 0, which names an assertion that the theorem cites
pub record IsBarred (s : Scope) (scripts : List (List Token)) (script : ℕ) (label : Token) (by : Word) : Type 0 where
  pub commands : List Command
  pub are_commands : AreCommands 0 scripts commands
  pub part : Part
  pub ordered : Contains commands (command_of script part)
  pub place : ℕ
  pub held : Holds s scripts place by label.text
  pub forbidden : IsDeletion s commands part label ⊎ IsMoveBehind s scripts commands part label place

-- ---- all that they forbid

-- a command of a script, from 0, that names a label, and the label of a theorem that forbids it
pub record Barred : Type 0 where
  pub script : ℕ
  pub label : Token
  pub by : Word

abbrev pub barred_by : ℕ → Token → Word → Barred
barred_by script label by = record { script = script; label = label; by = by }

-- all commands of scripts that theorems forbid, each with one that does
pub record AreAllBarred (s : Scope) (scripts : List (List Token)) (found : List Barred) : Type 0 where
  pub sound : (b : Barred) → Contains found b → IsBarred s scripts b.script b.label b.by
  pub complete : (script : ℕ) (label : Token) (by : Word) → IsBarred s scripts script label by
      → (other : Word) × Contains found (barred_by script label other)
