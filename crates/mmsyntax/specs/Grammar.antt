-- The grammar: a text is spelled by statements whose tests pass, each after the earlier ones (Metamath book, section 4.1.3).
use Rattle.std.specs.Prelude.{◌≡◌, ◌≢◌, ◌≤◌, ℕ, false, List, [], ◌∷◌, ◌++◌, length, Some, Ok, IsTrue, codes}
use Rattle.std.specs.List.{flat_map}
use Rattle.mmsyntax.specs.declared.statement.Symbol.{Symbol}
use Rattle.mmsyntax.specs.declared.statement.Step.{Step}
use Rattle.mmsyntax.specs.declared.statement.Assertion.{Assertion}
use Rattle.mmtext.specs.Words.{Word, is_label}
use Rattle.mmtext.specs.Text.{tokens, IsClean}
use Rattle.mmtext.specs.Comments.{words_of, without_comments}
use Rattle.mmsyntax.specs.Tables.{Tables, Contents}
use Rattle.mmsyntax.specs.Rows.{Known, nothing, prelude_alone, Pass, in_prelude, symbol_tests, float_label_tests, assertion_label_tests}
use Rattle.mmsyntax.specs.Rows.{symbol_of, type_of, variable_of, with_constant, with_variable, with_float, with_hypothesis_label}
use Rattle.mmsyntax.specs.Rows.{with_assertion}
use Rattle.mmsyntax.specs.Blocks.{Hypothesis, Block, no_block, distinct_of, with_distinct, hypothesis_label_tests, with_hypothesis}
use Rattle.mmsyntax.specs.Blocks.{axiom_of, theorem_of}
use Rattle.mmsyntax.specs.Steps.{step_of}
use Rattle.mmsyntax.specs.Faults.{database_of}

-- ---- statements and their words

-- label $a symbols $. and label $p symbols $= steps $. (section 4.1.3)
pub data Claim : Type 0 where
  asserted : Word → List Word → Claim
  proved : Word → List Word → List Word → Claim

-- $d variables $. and label $e symbols $. (section 4.1.3)
pub data Piece : Type 0 where
  distinct : List Word → Piece
  hypothesis : Word → List Word → Piece

-- $c symbols $. and $v symbols $. and label $f type variable $. and an assertion, alone or with pieces in a block ${ $} (section 4.1.3)
pub data Statement : Type 0 where
  constants : List Word → Statement
  variables : List Word → Statement
  float : Word → Word → Word → Statement
  alone : Claim → Statement
  block : List Piece → Claim → Statement

-- the words of an assertion
abbrev pub claim_spelling : Claim → List Word
claim_spelling (asserted label ws) = label ∷ codes "$a" ∷ (ws ++ codes "$." ∷ [])
claim_spelling (proved label ws steps) = label ∷ codes "$p" ∷ (ws ++ codes "$=" ∷ (steps ++ codes "$." ∷ []))

-- the words of a $d or $e
abbrev pub piece_spelling : Piece → List Word
piece_spelling (distinct ws) = codes "$d" ∷ (ws ++ codes "$." ∷ [])
piece_spelling (hypothesis label ws) = label ∷ codes "$e" ∷ (ws ++ codes "$." ∷ [])

-- the words of a statement
abbrev pub spelling : Statement → List Word
spelling (constants ws) = codes "$c" ∷ (ws ++ codes "$." ∷ [])
spelling (variables ws) = codes "$v" ∷ (ws ++ codes "$." ∷ [])
spelling (float label c v) = label ∷ codes "$f" ∷ c ∷ v ∷ codes "$." ∷ []
spelling (alone claim) = claim_spelling claim
spelling (block pieces claim) = codes "${" ∷ (flat_map piece_spelling pieces ++ (claim_spelling claim ++ codes "$}" ∷ []))

-- ---- what they declare where their tests pass

-- the words of a $c, one after the other
abbrev pub DeclaresConstants : Known → List Word → Known → Type 0
DeclaresConstants k [] after = k ≡ after
DeclaresConstants k (w ∷ ws) after = Pass (symbol_tests k (length k.tables.constants) w) × DeclaresConstants (with_constant k w) ws after

-- the words of a $v
abbrev pub DeclaresVariables : Known → List Word → Known → Type 0
DeclaresVariables k [] after = k ≡ after
DeclaresVariables k (w ∷ ws) after = Pass (symbol_tests k (length k.tables.variables) w) × DeclaresVariables (with_variable k w) ws after

-- words behind `front` symbols of an expression, and the whole expression
abbrev pub ReadsAfter : Tables → List Symbol → List Word → List Symbol → Type 0
ReadsAfter t front [] e = front ≡ e
ReadsAfter t front (w ∷ ws) e = (s : Symbol) × (symbol_of t (length front) w ≡ Ok s) × ReadsAfter t (front ++ s ∷ []) ws e

-- the words of a $d behind the $f of the variables vs, at least two of all, and the block that they leave
abbrev pub Restricts : Tables → Block → List ℕ → List Word → Block → Type 0
Restricts t b vs [] after = (2 ≤ length vs) × (b ≡ after)
Restricts t b vs (w ∷ ws) after = (j : ℕ) × (distinct_of t vs b.pairs w ≡ Ok j) × Restricts t (with_distinct b vs j) (vs ++ j ∷ []) ws after

-- the words of the proof of L behind `front` steps, and all steps
abbrev pub StepsAfter : Tables → Word → List Hypothesis → List Step → List Word → List Step → Type 0
StepsAfter t label hyps front [] steps = front ≡ steps
StepsAfter t label hyps front (w ∷ ws) steps =
    (s : Step) × (step_of t label hyps (length front) w ≡ Ok s) × StepsAfter t label hyps (front ++ s ∷ []) ws steps

-- an assertion behind what its block holds
abbrev pub Claims : Known → Block → Claim → Assertion → Type 0
Claims k b (asserted label ws) a =
    IsTrue (is_label label) × Pass (assertion_label_tests k label) × (ws ≢ [])
    × ((e : List Symbol) × ReadsAfter k.tables [] ws e × (axiom_of b label e ≡ a))
Claims k b (proved label ws steps) a =
    IsTrue (is_label label) × Pass (assertion_label_tests k label) × (ws ≢ []) × (steps ≢ [])
    × ((e : List Symbol) × (ss : List Step) × ReadsAfter k.tables [] ws e × StepsAfter k.tables label b.hyps [] steps ss
    × (theorem_of b label e ss ≡ a))

-- a $d or $e in a block, with what is known and what the block holds behind it
abbrev pub Holds : Known → Block → Piece → Known → Block → Type 0
Holds k b (distinct ws) after held = (k ≡ after) × Restricts k.tables b [] ws held
Holds k b (hypothesis label ws) after held =
    IsTrue (is_label label) × Pass (hypothesis_label_tests k b label) × (ws ≢ [])
    × ((e : List Symbol) × ReadsAfter k.tables [] ws e × (with_hypothesis_label k label ≡ after) × (with_hypothesis b label e ≡ held))

-- pieces one after the other
abbrev pub HoldAll : Known → Block → List Piece → Known → Block → Type 0
HoldAll k b [] after held = (k ≡ after) × (b ≡ held)
HoldAll k b (p ∷ ps) after held = (next : Known) × (now : Block) × Holds k b p next now × HoldAll next now ps after held

-- a statement that passes its tests, and what is known behind it
abbrev pub Declares : Known → Statement → Known → Type 0
Declares k (constants ws) after = IsTrue (in_prelude k) × (ws ≢ []) × DeclaresConstants k ws after
Declares k (variables ws) after = IsTrue (in_prelude k) × (ws ≢ []) × DeclaresVariables k ws after
Declares k (float label c v) after =
    IsTrue (in_prelude k) × IsTrue (is_label label) × Pass (float_label_tests k label)
    × ((i j : ℕ) × (type_of k.tables c ≡ Ok i) × (variable_of k.tables v ≡ Ok j) × (with_float k label i j ≡ after))
Declares k (alone claim) after = (a : Assertion) × Claims k no_block claim a × (with_assertion k a ≡ after)
Declares k (block pieces claim) after =
    (next : Known) × (held : Block) × (a : Assertion) × HoldAll k no_block pieces next held × Claims next held claim a
    × (with_assertion next a ≡ after)

-- statements one after the other
abbrev pub DeclareAll : Known → List Statement → Known → Type 0
DeclareAll k [] after = k ≡ after
DeclareAll k (s ∷ ss) after = (next : Known) × Declares k s next × DeclareAll next ss after

-- ---- texts

-- the words of a text outside of comments
abbrev pub HasWords : List ℕ → List Word → Type 0
HasWords bytes words = without_comments false (words_of (tokens bytes)) ≡ Some words

-- the text has lawful bytes, and its words outside of comments are those of statements that declare the database
pub record Spells (bytes : List ℕ) (db : Contents) : Type 0 where
  pub clean : IsClean bytes
  pub statements : List Statement
  pub words_are : HasWords bytes (flat_map spelling statements)
  pub known : Known
  pub declared : DeclareAll nothing statements known
  pub whole : database_of known ≡ db

-- words are those of one statement that declares, over a whole prelude, the assertion alone
pub record DeclareUnit (t : Tables) (ws : List Word) (a : Assertion) : Type 0 where
  pub statement : Statement
  pub parts : ws ≡ spelling statement
  pub known : Known
  pub declared : Declares (prelude_alone t) statement known
  pub single : known.units.assertions ≡ a ∷ []

-- the text has lawful bytes, and its words outside of comments declare the assertion alone
pub record SpellsUnit (t : Tables) (bytes : List ℕ) (a : Assertion) : Type 0 where
  pub clean : IsClean bytes
  pub words : List Word
  pub words_are : HasWords bytes words
  pub unit : DeclareUnit t words a
