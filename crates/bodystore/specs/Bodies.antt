-- Bodies: what stands in the store for a label, a statement and a proof, as lists of words. The layout is this project's own.
use Rattle.std.specs.Prelude.{ℕ, ◌+◌, ◌*◌, ◌/◌, ◌%◌, ◌^◌, ◌<◌, ◌==◌, if◌then◌else◌, List, ◌∷◌, ◌++◌, length, map, All}
use Rattle.std.specs.List.{flat_map}
use Rattle.mmsyntax.specs.declared.statement.Symbol.{Symbol}
use Rattle.mmsyntax.specs.declared.statement.Symbol.TheVariants.{Const, Var}
use Rattle.mmsyntax.specs.declared.statement.Kind.{Kind}
use Rattle.mmsyntax.specs.declared.statement.Kind.TheVariants.{Axiom, Theorem}
use Rattle.mmsyntax.specs.declared.statement.Assertion.{Assertion}
use Rattle.bodystore.specs.declared.statement.Statement.{Statement}
use Rattle.bodystore.specs.declared.stored.StoredStep.{StoredStep}
use Rattle.bodystore.specs.declared.stored.StoredStep.TheVariants.{Float, Hyp, Slot}

-- ---- labels

-- a label is one word for each byte
abbrev pub label_body : List ℕ → List ℕ
label_body label = label

-- ---- statements

-- the constant i is 2 i, the variable of the $f number j is 2 j + 1
abbrev pub symbol_word : Symbol → ℕ
symbol_word (Const i) = 2 * i
symbol_word (Var j) = 2 * j + 1

abbrev pub kind_word : Kind → ℕ
kind_word Axiom = 0
kind_word Theorem = 1

-- a pair of $f is one word: the first times 2^32, and the second
abbrev pub pair_word : ℕ × ℕ → ℕ
pair_word p = p.0 * 2 ^ 32 + p.1

-- an expression: its length and its symbols
abbrev pub expression_words : List Symbol → List ℕ
expression_words e = length e ∷ map symbol_word e

-- expressions one after another
abbrev pub expressions_words : List (List Symbol) → List ℕ
expressions_words es = flat_map expression_words es

-- the kind, the number of pairs, the number of hypotheses; each pair, each hypothesis, and the statement
abbrev pub statement_body : Statement → List ℕ
statement_body s =
    kind_word s.kind ∷ length s.pairs ∷ length s.hyps
    ∷ (map pair_word s.pairs ++ (expressions_words s.hyps ++ expression_words s.statement))

-- all of an assertion but its label and its proof
abbrev pub statement_of : Assertion → Statement
statement_of a = record { kind = a.kind; pairs = a.pairs; hyps = a.hyps; statement = a.statement }

-- ---- proofs

-- the $f at the place i is 3 i, the hypothesis at the place k is 3 k + 1, the assertion in the slot s is 3 s + 2
abbrev pub step_word : StoredStep → ℕ
step_word (Float i) = 3 * i
step_word (Hyp k) = 3 * k + 1
step_word (Slot s) = 3 * s + 2

-- the step of a word; some step, where no step has the word
abbrev pub stored_step : ℕ → StoredStep
stored_step w =
    let place = w / 3 % 2 ^ 32 in if w % 3 == 0 then Float place else (if w % 3 == 1 then Hyp place else Slot place)

-- a proof is one word for each step
abbrev pub proof_body : List StoredStep → List ℕ
proof_body steps = map step_word steps

-- ---- what the values of the code are: the places of symbols are below 2^31, all others below 2^32

abbrev pub IsSmallSymbol : Symbol → Type 0
IsSmallSymbol (Const i) = i < 2 ^ 31
IsSmallSymbol (Var j) = j < 2 ^ 31

abbrev pub IsSmallPair : ℕ × ℕ → Type 0
IsSmallPair p = (p.0 < 2 ^ 32) × (p.1 < 2 ^ 32)

pub record IsSmallStatement (s : Statement) : Type 0 where
  pub pairs : All IsSmallPair s.pairs
  pub hyps : All (All IsSmallSymbol) s.hyps
  pub statement : All IsSmallSymbol s.statement

abbrev pub IsSmallStep : StoredStep → Type 0
IsSmallStep (Float i) = i < 2 ^ 32
IsSmallStep (Hyp k) = k < 2 ^ 32
IsSmallStep (Slot s) = s < 2 ^ 32
