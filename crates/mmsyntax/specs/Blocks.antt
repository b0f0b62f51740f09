-- What a block holds before its assertion: restricted pairs and hypotheses; the tests of $d and $e, and the assertion that they make
-- (Metamath book, section 4.1.3).
use Rattle.std.specs.Prelude.{ℕ, Bool, ◌||◌, ◌&&◌, ◌==◌, nat_lt, nat_le, List, [], ◌∷◌, ◌++◌, length, map, Option, Some, None}
use Rattle.std.specs.Prelude.{Result, Ok, Err, if◌then◌else◌}
use Rattle.std.specs.List.{list_any}
use Rattle.mmsyntax.specs.declared.statement.Symbol.{Symbol}
use Rattle.mmsyntax.specs.declared.statement.Kind.{Kind}
use Rattle.mmsyntax.specs.declared.statement.Kind.TheVariants.{Axiom, Theorem}
use Rattle.mmsyntax.specs.declared.statement.Step.{Step}
use Rattle.mmsyntax.specs.declared.statement.Assertion.{Assertion}
use Rattle.mmsyntax.specs.declared.symbols.Name.{Name}
use Rattle.mmsyntax.specs.declared.symbols.Name.TheVariants.{Variable}
use Rattle.mmtext.specs.declared.fault.FaultKind.{FaultKind}
use Rattle.mmtext.specs.declared.fault.FaultKind.TheVariants.{BadToken, UnknownSymbol, RepeatedLabel, BadLabel, NoTypeFor, TooLong}
use Rattle.mmtext.specs.Words.{Word, has_dollar}
use Rattle.mmsyntax.specs.Tables.{Tables, meaning}
use Rattle.mmsyntax.specs.Rows.{Known, Tests, is_used}
use Rattle.mmsyntax.specs.declared.limits.TheConstants.{MOST_HYPOTHESES, MOST_PAIRS}

-- ---- blocks

-- a $e, with its label in the text
pub record Hypothesis : Type 0 where
  pub label : Word
  pub expression : List Symbol

-- the restricted pairs, ascending, each once, and the hypotheses in order
pub record Block : Type 0 where
  pub pairs : List (ℕ × ℕ)
  pub hyps : List Hypothesis

-- a block in which nothing stands yet, and what an outermost assertion has before it
abbrev pub no_block : Block
no_block = record { pairs = []; hyps = [] }

-- ---- $d: each pair of the listed variables is restricted (section 4.1.3)

-- whether a pair comes before another: by the first place, then by the second
abbrev pub is_pair_below : ℕ × ℕ → ℕ × ℕ → Bool
is_pair_below p q = nat_lt p.0 q.0 || ((p.0 == q.0) && nat_lt p.1 q.1)

-- whether two pairs are equal
abbrev pub is_same_pair : ℕ × ℕ → ℕ × ℕ → Bool
is_same_pair p q = (p.0 == q.0) && (p.1 == q.1)

-- ascending pairs with one more, in its place
abbrev pub with_pair : ℕ × ℕ → List (ℕ × ℕ) → List (ℕ × ℕ)
with_pair p [] = p ∷ []
with_pair p (q ∷ qs) = if is_same_pair p q then q ∷ qs else (if is_pair_below p q then p ∷ q ∷ qs else q ∷ with_pair p qs)

-- two $f as a pair, the earlier first
abbrev pub in_order : ℕ → ℕ → ℕ × ℕ
in_order i j = if nat_lt i j then (i, j) else (j, i)

-- with the pairs of j and each of some others
abbrev pub with_pairs : ℕ → List ℕ → List (ℕ × ℕ) → List (ℕ × ℕ)
with_pairs j [] ps = ps
with_pairs j (i ∷ is) ps = with_pairs j is (with_pair (in_order i j) ps)

-- the $f of the variable that a word names (section 4.1.3)
abbrev pub typed_named : Option Name → Result ℕ FaultKind
typed_named (Some (Variable i (Some j))) = Ok j
typed_named (Some (Variable i None)) = Err NoTypeFor
typed_named _ = Err UnknownSymbol

-- the variables of one $d differ (section 4.1.3), and an assertion has at most 65,535 pairs
abbrev pub unless_repeated : List ℕ → List (ℕ × ℕ) → Result ℕ FaultKind → Result ℕ FaultKind
unless_repeated vs ps (Ok j) =
    if list_any (λ i. i == j) vs then Err BadToken else (if nat_lt MOST_PAIRS (length (with_pairs j vs ps)) then Err TooLong else Ok j)
unless_repeated vs ps (Err kind) = Err kind

-- a word in a $d behind the $f of the variables vs, where the block has the pairs ps
unfoldable pub distinct_of : Tables → List ℕ → List (ℕ × ℕ) → Word → Result ℕ FaultKind
distinct_of t vs ps w = if has_dollar w then Err BadToken else unless_repeated vs ps (typed_named (meaning t w))

-- the block with the pairs of one more variable of a $d
abbrev pub with_distinct : Block → List ℕ → ℕ → Block
with_distinct b vs j = record b { pairs = with_pairs j vs b.pairs }

-- ---- $e

-- the label of a $e in a block, once its keyword has passed: it is new (section 4.1.3), and a block has at most 1,000
abbrev pub hypothesis_label_tests : Known → Block → Word → Tests
hypothesis_label_tests k b w =
    (nat_lt 260 (length w), BadLabel)
    ∷ (is_used k w, RepeatedLabel)
    ∷ (nat_le MOST_HYPOTHESES (length b.hyps), TooLong)
    ∷ []

-- one more hypothesis
abbrev pub with_hypothesis : Block → Word → List Symbol → Block
with_hypothesis b w e = record b { hyps = b.hyps ++ record { label = w; expression = e } ∷ [] }

-- ---- $a and $p: the assertion at the end of a block has the pairs and the hypotheses of the block (section 4.1.3)

-- an assertion keeps its hypotheses by their places
abbrev pub assertion_of : Block → Word → Kind → List Symbol → List Step → Assertion
assertion_of b w kind e steps =
    record { label = w; kind = kind; pairs = b.pairs; hyps = map (λ h. h.expression) b.hyps; statement = e; proof = steps }

-- a $a
abbrev pub axiom_of : Block → Word → List Symbol → Assertion
axiom_of b w e = assertion_of b w Axiom e []

-- a $p
abbrev pub theorem_of : Block → Word → List Symbol → List Step → Assertion
theorem_of b w e steps = assertion_of b w Theorem e steps
