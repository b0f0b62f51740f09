-- When an assertion that is put into a source can be written: its label and its symbols are words, and its proof denotes a tree (Metamath
-- book, sections 4.1.1 and 4.1.4).
use Rattle.std.specs.Prelude.{◌≡◌, ◌||◌, ℕ, Bool, List, [], ◌++◌, length, map, filter, take, All, Option, IfSome, IsTrue, is_some, slice_get}
use Rattle.std.specs.Prelude.{slice_index_or, codes}
use Rattle.std.specs.List.{range_with_len}
use Rattle.std.specs.Option.{option_map, option_and_then, unwrap_or}
use Rattle.std.specs.Str.{bytes_eq}
use Rattle.std.specs.Borrow.{Bor}
use Rattle.std.specs.HashMap.{HashMap, get_by}
use Rattle.std.specs.declared.random_state.RandomState.{RandomState}
use mathlib.Core.Bool.{not}
use Rattle.mmtext.specs.Words.{Word}
use Rattle.mmsyntax.specs.Dotted.{hypothesis_label}
use Rattle.mmsyntax.specs.Tables.{Tables}
use Rattle.mmsyntax.specs.declared.statement.Assertion.{Assertion}
use Rattle.mmsyntax.specs.declared.statement.Kind.TheVariants.{Theorem}
use Rattle.mmsyntax.specs.declared.statement.Step.{Step}
use Rattle.mmsyntax.specs.declared.statement.Symbol.{Symbol}
use Rattle.mmsyntax.specs.declared.statement.Symbol.TheVariants.{Const, Var}
use Rattle.mmframes.specs.Frames.{frame}
use Rattle.source.specs.Scopes.{Hypothesis, typing, premise, Scope, is_in}
use Rattle.source.specs.Views.{seen_words}
use Rattle.taking.specs.Listings.{premise_labels}
use Rattle.items.specs.Layout.{is_word}
use Rattle.sourcewriting.specs.declared.adding.SymbolWords.{SymbolWords}
use Rattle.sourcewriting.specs.declared.adding.Statement.{Statement}
use Rattle.sourcewriting.specs.declared.adding.Vocabulary.{Vocabulary}
use Rattle.sourcewriting.specs.Counting.{Takes}
use Rattle.sourcewriting.specs.Leaving.{StepTakes, CanBePut, CanBePutWith}
use Rattle.sourcewriting.specs.Named.{IsName}

-- ---- its symbols

-- something is so of each symbol of an assertion: of those of its pairs, of its $e and of its statement
pub record HasSymbols (P : Symbol → Type 0) (a : Assertion) : Type 0 where
  pub pairs : All (λ p. P (Var p.0) × P (Var p.1)) a.pairs
  pub premises : All (λ e. All P e) a.hyps
  pub statement : All P a.statement

-- the word of a symbol in the source, if there is such a symbol
abbrev pub word_of : SymbolWords → Symbol → Option Word
word_of ws (Const i) = slice_get (seen_words ws.constants.items) i
word_of ws (Var j) = slice_get (seen_words ws.variables.items) j

-- and it can be written
abbrev pub IsSpelled : SymbolWords → Symbol → Type 0
IsSpelled ws x = IfSome (word_of ws x) (λ w. IsTrue (is_word w))

-- a symbol of a library as it reads in the source, if there is such a symbol: a variable by its $f
abbrev pub symbol_then : (Word → Word) → Tables → Symbol → Option Word
symbol_then reads t (Const i) = option_map reads (slice_get t.constants i)
symbol_then reads t (Var j) = option_map reads (option_and_then (λ f. slice_get t.variables f.variable) (slice_get t.floats j))

-- that of a variable by its place, and ? where there is none
abbrev pub variable_word : (Word → Word) → List Word → ℕ → Word
variable_word reads variables i = unwrap_or (option_map reads (slice_get variables i)) (codes "?")

abbrev pub IsSpelledThen : (Word → Word) → Tables → Symbol → Type 0
IsSpelledThen reads t x = IfSome (symbol_then reads t x) (λ w. IsTrue (is_word w))

-- ---- the labels of its $e

-- the first so many of L.1, L.2, .., up to a number, that aren't taken
unfoldable pub first_free : (Word → Bool) → Word → ℕ → ℕ → List Word
first_free is_taken label most count = take count (filter (λ w. not (is_taken w)) (map (hypothesis_label label) (range_with_len 1 most)))

-- those of the $e of an assertion with a label: the numbers are below 2^32 - 1
abbrev pub labels_given : (Word → Bool) → Word → Assertion → List Word
labels_given is_taken label a = first_free is_taken label 4294967294 (length a.hyps)

-- what the source or the edited library has as a name
abbrev pub is_name : Scope → HashMap (Bor (List ℕ)) (Bor Assertion) RandomState → Word → Bool
is_name s edited w = (is_in s.symbols w || is_in s.labels w) || is_some (get_by (λ k. bytes_eq w k.now) edited)

-- its mandatory hypotheses: $f by their places, and $e with these labels
abbrev pub hypotheses_put : List Word → List ℕ → List Word → List Hypothesis
hypotheses_put floats places premises =
    map (λ i. typing (slice_index_or floats i (codes "?")) [] []) places ++ map (λ w. premise w []) premises

abbrev pub mandatory_labels : List Word → List ℕ → List Word → List Word
mandatory_labels floats places premises = map (λ i. slice_index_or floats i (codes "?")) places ++ premises

-- ---- all of it

-- an assertion can be written under a label, with these hypotheses: its label is a name, its symbols are words, and if it is a theorem its
-- proof can be put
pub record CanBeAdded (step_takes : ℕ → Step → ℕ → Type 0) (takes : List Hypothesis → Word → ℕ → Type 0) (spelled : Symbol → Type 0)
    (is_compressed : Bool) (label : Word) (hypotheses : List Hypothesis) (a : Assertion)
    : Type 0 where
  pub named : IsName label
  pub symbols : HasSymbols spelled a
  pub proof : a.kind ≡ Theorem
      → CanBePut (step_takes (length (premise_labels hypotheses))) (takes hypotheses) is_compressed hypotheses a.proof

-- by what it is written with: the mandatory hypotheses of an assertion whose $e have these labels
abbrev pub hypotheses_with : Vocabulary → Assertion → List Word → List Hypothesis
hypotheses_with v a premises = hypotheses_put (seen_words v.names.now.floats.items) (frame v.prelude.now a).floats premises

-- if it is a theorem, its proof can be put
abbrev pub CanBeProved : Scope → Vocabulary → Statement → List Word → Type 0
CanBeProved s v x premises =
    let a = x.assertion.now in a.kind ≡ Theorem → CanBePutWith s v.names.now x.is_compressed (hypotheses_with v a premises) a.proof

-- all of it
abbrev pub CanBeWritten : Scope → Vocabulary → Statement → Type 0
CanBeWritten s v x =
    let a = x.assertion.now in
    let m = v.names.now in
    CanBeAdded (StepTakes s m) (Takes s m) (IsSpelled v.words.now) x.is_compressed x.label.now
    (hypotheses_with v a (labels_given (is_name s v.edited.now) x.label.now a)) a
