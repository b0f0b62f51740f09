-- The grammar of scripts: which words spell transactions, and which bytes spell a script.
use Rattle.std.specs.Prelude.{◌≡◌, ◌≢◌, ◌≤◌, ℕ, zero, suc, false, List, [], ◌∷◌, ◌++◌, length, Option, Some, None, Result, Ok}
use Rattle.std.specs.Prelude.{codes}
use Rattle.std.specs.Fmt.{decimal}
use Rattle.mmtext.specs.declared.fault.FaultKind.{FaultKind}
use Rattle.mmtext.specs.Text.{IsClean}
use Rattle.mmtext.specs.Words.{Word, has_dollar}
use Rattle.mmsyntax.specs.declared.statement.Step.{Step}
use Rattle.mmsyntax.specs.declared.statement.Assertion.{Assertion}
use Rattle.mmsyntax.specs.Dotted.{hypothesis_numbered}
use Rattle.mmsyntax.specs.Tables.{Tables, meaning}
use Rattle.mmsyntax.specs.Rows.{Known, prelude_alone, first_fault}
use Rattle.mmsyntax.specs.Steps.{step_tests, float_named, step_named, unless_faulty}
use Rattle.mmsyntax.specs.Grammar.{Statement, spelling, Declares, HasWords}
use Rattle.library.specs.declared.command.Command.{Command}
use Rattle.library.specs.declared.command.Command.TheVariants as command
use Rattle.library.specs.Fitting.{highest_rank}

-- ---- words

-- LABEL is any word without $
abbrev pub IsPlain : Word → Type 0
IsPlain label = has_dollar label ≡ false

-- RANK is a number up to 4,294,967,295 in decimal digits without leading zero, or 0
pub record IsRank (w : Word) (rank : ℕ) : Type 0 where
  pub digits : w ≡ decimal rank
  pub small : rank ≤ highest_rank

-- ---- the steps of another proof

-- steps count hypotheses from 0
abbrev pub counted_from_0 : Option ℕ → Option ℕ
counted_from_0 None = None
counted_from_0 (Some zero) = None
counted_from_0 (Some (suc k)) = Some k

-- a word behind `count` steps of another proof of L: as in a text, but L.k is the k-th hypothesis, whether there is one or not, and so
-- never clashes
unfoldable pub other_step_of : Tables → Word → ℕ → Word → Result Step FaultKind
other_step_of t label count w =
    unless_faulty (first_fault (step_tests count w))
    (step_named label w (float_named (meaning t w)) (counted_from_0 (hypothesis_numbered label w)))

-- the words of another proof of L behind `front` steps, and all steps
abbrev pub OtherSteps : Tables → Word → List Step → List Word → List Step → Type 0
OtherSteps t label front [] steps = front ≡ steps
OtherSteps t label front (w ∷ ws) steps =
    (s : Step) × (other_step_of t label (length front) w ≡ Ok s) × OtherSteps t label (front ++ s ∷ []) ws steps

-- ---- commands

-- a statement that declares, over a whole prelude, the assertion alone
abbrev pub DeclaresAlone : Tables → Statement → Assertion → Type 0
DeclaresAlone t statement a = (known : Known) × Declares (prelude_alone t) statement known × (known.units.assertions ≡ a ∷ [])

-- what a command consists of: words that stand for themselves, which are its own word and its labels; a rank; the assertion that it adds;
-- another proof of an assertion with a label
pub data Part : Type 0 where
  a_word : Word → Part
  a_rank : ℕ → Part
  a_unit : Assertion → Part
  a_proof : Word → List Step → Part

-- the parts of each command, in order
abbrev pub parts : Command → List Part
parts (command.Add rank a) = a_word (codes "add") ∷ a_rank rank ∷ a_unit a ∷ []
parts (command.Reprove label steps) = a_word (codes "reprove") ∷ a_word label ∷ a_proof label steps ∷ []
parts (command.Replace label old new) = a_word (codes "replace") ∷ a_word label ∷ a_word old ∷ a_word new ∷ []
parts (command.Rename old new) = a_word (codes "rename") ∷ a_word old ∷ a_word new ∷ []
parts (command.Move label rank) = a_word (codes "move") ∷ a_word label ∷ a_rank rank ∷ []
parts (command.Delete label) = a_word (codes "delete") ∷ a_word label ∷ []
parts (command.Show label) = a_word (codes "show") ∷ a_word label ∷ []
parts command.List = a_word (codes "list") ∷ []

-- LABEL | RANK | unit | $= step+ $.
abbrev pub SpellsPart : Tables → Part → List Word → Type 0
SpellsPart t (a_word w) ws = IsPlain w × (ws ≡ w ∷ [])
SpellsPart t (a_rank rank) ws = (number : Word) × IsRank number rank × (ws ≡ number ∷ [])
SpellsPart t (a_unit a) ws = (unit : Statement) × DeclaresAlone t unit a × (ws ≡ spelling unit)
SpellsPart t (a_proof label steps) ws =
    (words : List Word) × (words ≢ []) × OtherSteps t label [] words steps × (ws ≡ codes "$=" ∷ (words ++ codes "$." ∷ []))

-- words spell items one after the other
abbrev pub SpellsEach : {A : Type 0} → (A → List Word → Type 0) → List A → List Word → Type 0
SpellsEach spells [] ws = ws ≡ []
SpellsEach spells (x ∷ xs) ws = (first rest : List Word) × (ws ≡ first ++ rest) × spells x first × SpellsEach spells xs rest

-- command = add RANK unit | reprove LABEL $= step+ $. | replace LABEL LABEL LABEL | rename LABEL LABEL | move LABEL RANK | delete LABEL
--     | show LABEL | list
abbrev pub SpellsCommand : Tables → Command → List Word → Type 0
SpellsCommand t c ws = SpellsEach (SpellsPart t) (parts c) ws

-- ---- scripts

-- transaction = begin command* commit
abbrev pub SpellsTransaction : Tables → List Command → List Word → Type 0
SpellsTransaction t commands ws =
    (inner : List Word) × SpellsEach (SpellsCommand t) commands inner × (ws ≡ codes "begin" ∷ (inner ++ codes "commit" ∷ []))

-- script = transaction*: the text has lawful bytes, and its words outside of comments are those of the transactions, in order
pub record SpellsScript (t : Tables) (bytes : List ℕ) (script : List (List Command)) : Type 0 where
  pub clean : IsClean bytes
  pub words : List Word
  pub words_are : HasWords bytes words
  pub transactions : SpellsEach (SpellsTransaction t) script words
