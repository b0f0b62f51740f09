-- Each token outside of comments in its place in the grammar: where it leads, or its fault. Each row of the table of tests is a function.
use Rattle.std.specs.Prelude.{ℕ, Bool, true, false, List, [], ◌∷◌, ◌++◌, length, Option, Some, None, Result, Ok, Err}
use Rattle.std.specs.Prelude.{if◌then◌else◌, is_some}
use Rattle.mmsyntax.specs.declared.statement.Symbol.{Symbol}
use Rattle.mmsyntax.specs.declared.statement.Step.{Step}
use Rattle.mmsyntax.specs.declared.statement.Assertion.{Assertion}
use Rattle.mmtext.specs.declared.fault.FaultKind.{FaultKind}
use Rattle.mmtext.specs.declared.fault.FaultKind.TheVariants.{BadToken, OutOfProfile}
use Rattle.mmtext.specs.declared.fault.TextFault.{TextFault}
use Rattle.mmtext.specs.declared.mark.Mark.{Mark}
use Rattle.mmtext.specs.declared.mark.Mark.TheVariants as mark
use Rattle.mmtext.specs.Words.{Word, is_label}
use Rattle.mmtext.specs.Text.{Token, mark_of}
use Rattle.mmsyntax.specs.Tables.{Tables, Contents}
use Rattle.mmtext.specs.Languages.{Language, fault, Faulty}
use Rattle.mmsyntax.specs.Rows.{Known, nothing, prelude_alone, Tests, first_fault, in_prelude, symbol_tests, float_label_tests}
use Rattle.mmsyntax.specs.Rows.{assertion_label_tests, symbol_of, type_of, variable_of, with_constant, with_variable, with_float}
use Rattle.mmsyntax.specs.Rows.{with_hypothesis_label, with_assertion}
use Rattle.mmsyntax.specs.Blocks.{Block, no_block, distinct_of, with_distinct, hypothesis_label_tests, with_hypothesis, axiom_of}
use Rattle.mmsyntax.specs.Blocks.{theorem_of}
use Rattle.mmsyntax.specs.Steps.{step_of}
use Rattle.mmsyntax.specs.declared.limits.TheConstants.{MOST_BYTES}

-- ---- places

-- outermost, or in a block that holds this much
pub data Scope : Type 0 where
  outside : Scope
  inside : Block → Scope

-- what the block of an assertion holds
abbrev pub block_of : Scope → Block
block_of outside = no_block
block_of (inside b) = b

-- a place in the grammar
pub data Place : Type 0 where
  -- the start of a statement
  at_start : Scope → Place
  -- in a block, behind its assertion
  at_close : Place
  -- behind a label
  after_label : Scope → Token → Place
  -- behind $c or $v, and whether a symbol stood
  in_constants : Bool → Place
  in_variables : Bool → Place
  -- behind a label and $f, then the type, then the variable
  float_type : Word → Place
  float_variable : Word → ℕ → Place
  float_end : Word → ℕ → Word → ℕ → Place
  -- behind $d and variables
  in_distinct : Block → List ℕ → Place
  -- behind a label, $e and symbols
  in_hypothesis : Block → Word → List Symbol → Place
  -- behind a label, $a or $p, and symbols
  in_axiom : Scope → Word → List Symbol → Place
  in_theorem : Scope → Word → List Symbol → Place
  -- behind $= and steps
  in_proof : Scope → Word → List Symbol → List Step → Place

-- what is known, and the place
pub record Position : Type 0 where
  pub known : Known
  pub place : Place

-- no fault: what is known, and the place
abbrev pub at : Known → Place → Result Position TextFault
at k p = Ok (record { known = k; place = p })

-- the fault of the first test that fails, at the token t, and else what follows
abbrev pub faulted : Token → Option FaultKind → Result Position TextFault → Result Position TextFault
faulted t (Some kind) next = fault t kind
faulted t None next = next

-- the fault of the first of these tests that fails, and else what follows
abbrev pub tested : Token → Tests → Result Position TextFault → Result Position TextFault
tested t ts next = faulted t (first_fault ts) next

-- what a word gives, or its fault
abbrev pub given : {A : Type 0} → Token → Result A FaultKind → (A → Result Position TextFault) → Result Position TextFault
given t (Ok x) next = next x
given t (Err kind) next = fault t kind

-- ---- the start of a statement

-- a label token (section 4.1.1)
abbrev pub labelled : Known → Scope → Token → Result Position TextFault
labelled k s t = if is_label t.text then at k (after_label s t) else fault t BadToken

-- outermost: $c, $v, ${ or a label (section 4.1.3)
abbrev pub outermost_row : Known → Token → Mark → Result Position TextFault
outermost_row k t mark.Constants = if in_prelude k then at k (in_constants false) else fault t OutOfProfile
outermost_row k t mark.Variables = if in_prelude k then at k (in_variables false) else fault t OutOfProfile
outermost_row k t mark.Opening = at k (at_start (inside no_block))
outermost_row k t mark.Disjoint = fault t OutOfProfile
outermost_row k t mark.Plain = labelled k outside t
outermost_row k t _ = fault t BadToken

-- in a block, before its assertion: $d or a label
abbrev pub block_row : Known → Block → Token → Mark → Result Position TextFault
block_row k b t mark.Disjoint = at k (in_distinct b [])
block_row k b t mark.Constants = fault t OutOfProfile
block_row k b t mark.Variables = fault t OutOfProfile
block_row k b t mark.Opening = fault t OutOfProfile
block_row k b t mark.Plain = labelled k (inside b) t
block_row k b t _ = fault t BadToken

-- in a block, behind its assertion: $}
abbrev pub close_row : Known → Token → Mark → Result Position TextFault
close_row k t mark.Closing = at k (at_start outside)
close_row k t mark.Constants = fault t OutOfProfile
close_row k t mark.Variables = fault t OutOfProfile
close_row k t mark.Opening = fault t OutOfProfile
close_row k t mark.Disjoint = fault t OutOfProfile
close_row k t mark.Plain = fault t (if is_label t.text then OutOfProfile else BadToken)
close_row k t _ = fault t BadToken

-- ---- behind a label

-- the keyword; the tests of a label come once its keyword has passed, and their fault is at the label
abbrev pub keyword_row : Known → Scope → Token → Token → Mark → Result Position TextFault
keyword_row k outside label t mark.Floating =
    if in_prelude k then tested label (float_label_tests k label.text) (at k (float_type label.text)) else fault t OutOfProfile
keyword_row k (inside b) label t mark.Floating = fault t OutOfProfile
keyword_row k outside label t mark.Essential = fault t OutOfProfile
keyword_row k (inside b) label t mark.Essential =
    tested label (hypothesis_label_tests k b label.text) (at k (in_hypothesis b label.text []))
keyword_row k s label t mark.Axiom = tested label (assertion_label_tests k label.text) (at k (in_axiom s label.text []))
keyword_row k s label t mark.Provable = tested label (assertion_label_tests k label.text) (at k (in_theorem s label.text []))
keyword_row k s label t _ = fault t BadToken

-- ---- $c, $v and $f

-- a symbol in $c, or the $. behind one
abbrev pub constant_row : Known → Bool → Token → Mark → Result Position TextFault
constant_row k true t mark.End = at k (at_start outside)
constant_row k some t m =
    tested t (symbol_tests k (length k.tables.constants) t.text) (at (with_constant k t.text) (in_constants true))

-- the same in $v
abbrev pub variable_row : Known → Bool → Token → Mark → Result Position TextFault
variable_row k true t mark.End = at k (at_start outside)
variable_row k some t m =
    tested t (symbol_tests k (length k.tables.variables) t.text) (at (with_variable k t.text) (in_variables true))

-- behind label and $f: the type, which is a constant (section 4.1.3)
abbrev pub type_row : Known → Word → Token → Result Position TextFault
type_row k label t = given t (type_of k.tables t.text) (λ i. at k (float_variable label i))

-- the variable behind the type
abbrev pub float_variable_row : Known → Word → ℕ → Token → Result Position TextFault
float_variable_row k label i t = given t (variable_of k.tables t.text) (λ v. at k (float_end label i t.text v))

-- the $. behind the variable
abbrev pub float_end_row : Known → Word → ℕ → ℕ → Token → Mark → Result Position TextFault
float_end_row k label i v t mark.End = at (with_float k label i v) (at_start outside)
float_end_row k label i v t _ = fault t BadToken

-- ---- $d and $e

-- one more variable of a $d
abbrev pub next_variable : Known → Block → List ℕ → Token → Result Position TextFault
next_variable k b vs t = given t (distinct_of k.tables vs b.pairs t.text) (λ j. at k (in_distinct (with_distinct b vs j) (vs ++ j ∷ [])))

-- a variable of a $d, or the $. behind two
abbrev pub distinct_row : Known → Block → List ℕ → Token → Mark → Result Position TextFault
distinct_row k b (i ∷ j ∷ vs) t mark.End = at k (at_start (inside b))
distinct_row k b vs t m = next_variable k b vs t

-- one more symbol of a $e, $a or $p
abbrev pub next_symbol : Known → List Symbol → Token → (List Symbol → Place) → Result Position TextFault
next_symbol k e t place = given t (symbol_of k.tables (length e) t.text) (λ s. at k (place (e ++ s ∷ [])))

-- a symbol of a $e, or the $. behind one
abbrev pub hypothesis_row : Known → Block → Word → List Symbol → Token → Mark → Result Position TextFault
hypothesis_row k b label (s ∷ e) t mark.End =
    at (with_hypothesis_label k label) (at_start (inside (with_hypothesis b label (s ∷ e))))
hypothesis_row k b label e t m = next_symbol k e t (λ x. in_hypothesis b label x)

-- ---- $a and $p

-- behind an assertion: its block has to be closed
abbrev pub behind : Scope → Place
behind outside = at_start outside
behind (inside b) = at_close

-- a symbol of a $a, or the $. behind one
abbrev pub axiom_row : Known → Scope → Word → List Symbol → Token → Mark → Result Position TextFault
axiom_row k s label (x ∷ e) t mark.End = at (with_assertion k (axiom_of (block_of s) label (x ∷ e))) (behind s)
axiom_row k s label e t m = next_symbol k e t (λ x. in_axiom s label x)

-- a symbol of a $p, or the $= behind one
abbrev pub theorem_row : Known → Scope → Word → List Symbol → Token → Mark → Result Position TextFault
theorem_row k s label (x ∷ e) t mark.Proof = at k (in_proof s label (x ∷ e) [])
theorem_row k s label e t m = next_symbol k e t (λ x. in_theorem s label x)

-- one more step of a proof
abbrev pub next_step : Known → Scope → Word → List Symbol → List Step → Token → Result Position TextFault
next_step k s label e steps t =
    given t (step_of k.tables label (block_of s).hyps (length steps) t.text) (λ x. at k (in_proof s label e (steps ++ x ∷ [])))

-- a step of a proof, or the $. behind one
abbrev pub proof_row : Known → Scope → Word → List Symbol → List Step → Token → Mark → Result Position TextFault
proof_row k s label e (x ∷ steps) t mark.End =
    at (with_assertion k (theorem_of (block_of s) label e (x ∷ steps))) (behind s)
proof_row k s label e steps t m = next_step k s label e steps t

-- ---- all places

-- the row of each place
abbrev pub in_place : Known → Place → Token → Mark → Result Position TextFault
in_place k (at_start outside) t m = outermost_row k t m
in_place k (at_start (inside b)) t m = block_row k b t m
in_place k at_close t m = close_row k t m
in_place k (after_label s label) t m = keyword_row k s label t m
in_place k (in_constants some) t m = constant_row k some t m
in_place k (in_variables some) t m = variable_row k some t m
in_place k (float_type label) t m = type_row k label t
in_place k (float_variable label i) t m = float_variable_row k label i t
in_place k (float_end label i w v) t m = float_end_row k label i v t m
in_place k (in_distinct b vs) t m = distinct_row k b vs t m
in_place k (in_hypothesis b label e) t m = hypothesis_row k b label e t m
in_place k (in_axiom s label e) t m = axiom_row k s label e t m
in_place k (in_theorem s label e) t m = theorem_row k s label e t m
in_place k (in_proof s label e steps) t m = proof_row k s label e steps t m

-- where a token leads that stands outside of comments, or its fault
unfoldable pub row : Position → Token → Result Position TextFault
row p t = in_place p.known p.place t (mark_of t.text)

-- ---- databases

-- what is known, as a database
abbrev pub database_of : Known → Contents
database_of k = record { prelude = k.tables; assertions = k.units.assertions }

-- a database may end outermost, between statements
abbrev pub whole : Known → Place → Option Contents
whole k (at_start outside) = Some (database_of k)
whole k _ = None

-- the language of databases: nothing is known at the start
abbrev pub database_language : Language Position Contents
database_language = record {
  most_bytes = MOST_BYTES;
  start = record { known = nothing; place = at_start outside };
  row = row;
  said = λ p. whole p.known p.place;
}

-- the fault of a text as a database
abbrev pub FaultyDatabase : List ℕ → TextFault → Type 0
FaultyDatabase bytes f = Faulty database_language bytes f

-- ---- single units

-- the assertion, if there is one
abbrev pub first_of : List Assertion → Option Assertion
first_of [] = None
first_of (a ∷ as') = Some a

-- a unit ends outermost, with its assertion
abbrev pub unit_at : Known → Place → Option Assertion
unit_at k (at_start outside) = first_of k.units.assertions
unit_at k _ = None

-- behind the unit no token may stand
abbrev pub unit_row : Position → Token → Result Position TextFault
unit_row p t = if is_some (unit_at p.known p.place) then fault t BadToken else row p t

-- the language of one unit, over a prelude that is closed
abbrev pub unit_language : Tables → Language Position Assertion
unit_language t = record {
  most_bytes = MOST_BYTES;
  start = record { known = prelude_alone t; place = at_start outside };
  row = unit_row;
  said = λ p. unit_at p.known p.place;
}
