-- The canonical layout: one line for each statement, words separated by one space, what stands in a block indented by two.
use Rattle.std.specs.Prelude.{ℕ, suc, List, [], ◌∷◌, ◌++◌, map, slice_index_or}
use Rattle.std.specs.List.{flat_map}
use Rattle.std.specs.Prelude.{codes}
use Rattle.mmsyntax.specs.declared.statement.Symbol.{Symbol}
use Rattle.mmsyntax.specs.declared.statement.Symbol.TheVariants.{Const, Var}
use Rattle.mmsyntax.specs.declared.statement.Kind.{Kind}
use Rattle.mmsyntax.specs.declared.statement.Kind.TheVariants.{Axiom, Theorem}
use Rattle.mmsyntax.specs.declared.statement.Step.{Step}
use Rattle.mmsyntax.specs.declared.statement.Step.TheVariants.{Float, Hyp, Cite}
use Rattle.mmsyntax.specs.declared.statement.Float.{Float as FloatOf}
use Rattle.mmsyntax.specs.declared.statement.Assertion.{Assertion}
use Rattle.mmtext.specs.Words.{Word}
use Rattle.mmsyntax.specs.Tables.{Contents, Tables}
pub use Rattle.mmsyntax.specs.Dotted.{hypothesis_label}
use Rattle.mmsyntax.specs.Grammar.{Claim, asserted, proved, Piece, distinct, hypothesis, Statement, constants, variables, float, alone}
use Rattle.mmsyntax.specs.Grammar.{block}
use Rattle.mmsyntax.specs.Grammar.{claim_spelling, piece_spelling, spelling, Spells, SpellsUnit}

-- ---- words

-- the word at a place
abbrev pub word_at : List Word → ℕ → Word
word_at ws i = slice_index_or ws i []

-- what stands for a $f at a place where there is none
abbrev pub no_float : FloatOf
no_float = record { label = []; type_code = 0; variable = 0 }

-- the $f at a place
abbrev pub float_at : List FloatOf → ℕ → FloatOf
float_at fs j = slice_index_or fs j no_float

-- the word of a symbol
abbrev pub symbol_word : Tables → Symbol → Word
symbol_word t (Const i) = word_at t.constants i
symbol_word t (Var j) = word_at t.variables (float_at t.floats j).variable

-- the word of a step in the proof of an assertion with a label; steps count hypotheses from 0
abbrev pub step_word : Tables → Word → Step → Word
step_word t label (Float j) = (float_at t.floats j).label
step_word t label (Hyp n) = hypothesis_label label (suc n)
step_word t label (Cite w) = w

-- ---- statements

-- one $c with all constants, if there are any
abbrev pub constants_of : List Word → List Statement
constants_of [] = []
constants_of (w ∷ ws) = constants (w ∷ ws) ∷ []

-- one $v with all variables, if there are any
abbrev pub variables_of : List Word → List Statement
variables_of [] = []
variables_of (w ∷ ws) = variables (w ∷ ws) ∷ []

-- a $f as a statement
abbrev pub float_statement : Tables → FloatOf → Statement
float_statement t f = float f.label (word_at t.constants f.type_code) (word_at t.variables f.variable)

-- one $d for each pair, in order
abbrev pub distinct_pieces : Tables → List (ℕ × ℕ) → List Piece
distinct_pieces t ps = map (λ p. distinct (symbol_word t (Var p.0) ∷ symbol_word t (Var p.1) ∷ [])) ps

-- one $e for each hypothesis of the assertion with a label, behind n others
abbrev pub hypothesis_pieces : Tables → Word → ℕ → List (List Symbol) → List Piece
hypothesis_pieces t label n [] = []
hypothesis_pieces t label n (e ∷ es) =
    hypothesis (hypothesis_label label (suc n)) (map (symbol_word t) e) ∷ hypothesis_pieces t label (suc n) es

-- an assertion of a kind, with the words of its statement and of its steps
abbrev pub claim_of_kind : Kind → Word → List Word → List Word → Claim
claim_of_kind Axiom label ws steps = asserted label ws
claim_of_kind Theorem label ws steps = proved label ws steps

-- an assertion as a $a or a $p
abbrev pub claim_of : Tables → Assertion → Claim
claim_of t a = claim_of_kind a.kind a.label (map (symbol_word t) a.statement) (map (step_word t a.label) a.proof)

-- alone where nothing stands before it, and else in a block
abbrev pub unit_of : List Piece → Claim → Statement
unit_of [] claim = alone claim
unit_of (p ∷ ps) claim = block (p ∷ ps) claim

-- an assertion as a statement
abbrev pub unit_statement : Tables → Assertion → Statement
unit_statement t a = unit_of (distinct_pieces t a.pairs ++ hypothesis_pieces t a.label 0 a.hyps) (claim_of t a)

-- all constants, all variables, each $f: a symbol is declared before it is used (section 4.1.3)
abbrev pub canonical_prelude : Tables → List Statement
canonical_prelude t = constants_of t.constants ++ (variables_of t.variables ++ map (float_statement t) t.floats)

-- ---- lines

-- each word with a space before it
abbrev pub spaced : List Word → List ℕ
spaced ws = flat_map (λ w. 32 ∷ w) ws

-- words with one space between, and a line feed
abbrev pub line : List Word → List ℕ
line [] = 10 ∷ []
line (w ∷ ws) = w ++ (spaced ws ++ 10 ∷ [])

-- a line in a block
abbrev pub indented : List Word → List ℕ
indented ws = 32 ∷ 32 ∷ line ws

-- the lines of a statement
abbrev pub statement_text : Statement → List ℕ
statement_text (block pieces claim) =
    line (codes "${" ∷ [])
    ++ (flat_map (λ p. indented (piece_spelling p)) pieces ++ (indented (claim_spelling claim) ++ line (codes "$}" ∷ [])))
statement_text s = line (spelling s)

-- the lines of a prelude
abbrev pub prelude_text : Tables → List ℕ
prelude_text t = flat_map statement_text (canonical_prelude t)

-- the lines of an assertion
abbrev pub assertion_text : Tables → Assertion → List ℕ
assertion_text t a = statement_text (unit_statement t a)

-- the lines of the prelude, then those of each assertion; no line of an empty database
abbrev pub text_of : Contents → List ℕ
text_of db = prelude_text db.prelude ++ flat_map (assertion_text db.prelude) db.assertions

-- ---- what has a spelling

-- some text is spelled by the database
pub record HasSpelling (db : Contents) : Type 0 where
  pub text : List ℕ
  pub spells : Spells text db

-- some text declares these tables and no assertion
abbrev pub IsSoundPrelude : Tables → Type 0
IsSoundPrelude t = HasSpelling (record { prelude = t; assertions = [] })

-- some text is spelled, over a prelude, by the assertion alone
pub record HasUnitSpelling (t : Tables) (a : Assertion) : Type 0 where
  pub text : List ℕ
  pub spells : SpellsUnit t text a
