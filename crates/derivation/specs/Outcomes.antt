-- What the steps of a proof come to: the tree that they list, or their fault. As a relation, and as a function: a forest of trees grows
-- step by step until a test fails (Metamath book, section 4.1.4, and 4.2 on the order of steps, which is reverse Polish).
use Rattle.std.specs.Prelude.{◌≡◌, ℕ, ◌+◌, ◌-◌, ◌&&◌, ◌==◌, Bool, true, false, List, [], ◌∷◌, ◌++◌, Option, None, Some, Result, Ok, Err}
use Rattle.std.specs.Prelude.{MatchResult, length, map, take, drop, slice_get, nat_lt, if◌then◌else◌}
use Rattle.std.specs.List.{list_any, list_all}
use Rattle.std.specs.Cmp.Lexicographic.{pointwise}
use mathlib.Core.Bool.{not}
use Rattle.mmsyntax.specs.declared.statement.Symbol.{Symbol}
use Rattle.mmsyntax.specs.declared.statement.Symbol.TheVariants.{Const, Var}
use Rattle.mmsyntax.specs.declared.statement.Float.{Float as FloatOf}
use Rattle.mmsyntax.specs.declared.statement.Frame.{Frame}
use Rattle.mmsyntax.specs.declared.statement.Assertion.{Assertion}
use Rattle.mmsyntax.specs.declared.statement.Step.{Step}
use Rattle.mmsyntax.specs.declared.statement.Step.TheVariants.{Float, Hyp, Cite}
use Rattle.mmsyntax.specs.Tables.{Tables}
use Rattle.mmsyntax.specs.Blocks.{in_order, is_same_pair}
use Rattle.mmframes.specs.Substitution.{subst, replacement}
use Rattle.derivation.specs.declared.fault.ProofFault.{ProofFault}
use Rattle.derivation.specs.declared.fault.ProofFaultKind.{ProofFaultKind}
use Rattle.derivation.specs.declared.fault.ProofFaultKind.TheVariants.{UnknownStep, StackShort, WrongType, HypothesisDiffers}
use Rattle.derivation.specs.declared.fault.ProofFaultKind.TheVariants.{NotDisjoint, NotOneLeft, StatementDiffers, TooLong}
use Rattle.derivation.specs.Derivation.{Expression, Citable, Tree, Trees, float, hyp, node, none, some, Derives, listing, arity}
use Rattle.derivation.specs.Derivation.{substitution, conclusion}
use Rattle.derivation.specs.Faults.{HasFault, last}
use Rattle.mmsyntax.specs.declared.limits.TheConstants.{MOST_SYMBOLS}

-- ---- the relation

-- a result is the tree of which the steps are the listing, where it derives the statement, or the fault
abbrev pub IsOutcome : Citable → Tables → Assertion → Result Tree ProofFault → Type 0
IsOutcome lib p a r = MatchResult r (λ tree. (listing tree ≡ a.proof) × Derives lib p a tree a.statement) (λ fault. HasFault lib p a fault)

-- ---- the tests of a citation

-- an expression begins with the type of a $f
abbrev pub begins_with_type : Option FloatOf → Option Symbol → Bool
begins_with_type (Some f) (Some (Const c)) = c == f.type_code
begins_with_type _ _ = false

-- each $f has an expression of its type, in order
abbrev pub types_fit : Tables → List ℕ → List Expression → Bool
types_fit p [] es = true
types_fit p (i ∷ is) [] = false
types_fit p (i ∷ is) (e ∷ es) = begins_with_type (slice_get p.floats i) (slice_get e 0) && types_fit p is es

-- two symbols are equal
abbrev pub same_symbol : Symbol → Symbol → Bool
same_symbol (Const c) (Const d) = c == d
same_symbol (Var i) (Var j) = i == j
same_symbol _ _ = false

-- two expressions are equal
abbrev pub same_expression : Expression → Expression → Bool
same_expression d e = pointwise same_symbol d e

-- each $e is the expression in its place, after substitution
abbrev pub hypotheses_fit : Frame → List Expression → Bool
hypotheses_fit f es = pointwise same_expression (map (subst (substitution f.floats es)) f.hyps) (drop (length f.floats) es)

-- two symbols are no variables, or variables that differ and are one of the restricted pairs
abbrev pub symbols_apart : List (ℕ × ℕ) → Symbol → Symbol → Bool
symbols_apart pairs (Var u) (Var v) = not (u == v) && list_any (λ q. is_same_pair q (in_order u v)) pairs
symbols_apart pairs _ _ = true

-- all symbols of the one expression are apart from all of the other
abbrev pub are_apart : List (ℕ × ℕ) → Expression → Expression → Bool
are_apart pairs d e = list_all (λ x. list_all (symbols_apart pairs x) e) d

-- the substitutes of each mandatory pair are apart
abbrev pub pairs_fit : Assertion → Frame → List Expression → Bool
pairs_fit a f es =
    list_all (λ q. are_apart a.pairs (replacement (substitution f.floats es) q.0) (replacement (substitution f.floats es) q.1)) f.pairs

-- the expression that a citation gives over these, one for each mandatory hypothesis; or the first test that fails
abbrev pub cited : Tables → Assertion → Frame → List Expression → Result Expression ProofFaultKind
cited p a f es =
    if not (types_fit p f.floats es) then Err WrongType else (
    if not (hypotheses_fit f es) then Err HypothesisDiffers else (
    if not (pairs_fit a f es) then Err NotDisjoint else (
    if nat_lt MOST_SYMBOLS (length (conclusion f es)) then Err TooLong else Ok (conclusion f es))))

-- ---- one step

-- a tree, and the expression that it derives
pub record Grown : Type 0 where
  pub tree : Tree
  pub gives : Expression

-- the trees alone
abbrev pub trees_of : List Grown → Trees
trees_of [] = none
trees_of (g ∷ gs) = some g.tree (trees_of gs)

-- the expressions alone
abbrev pub expressions_of : List Grown → List Expression
expressions_of gs = map (λ g. g.gives) gs

-- one more tree, unless its step names nothing
abbrev pub with_leaf : List Grown → Tree → Option Expression → Result (List Grown) ProofFaultKind
with_leaf gs tree (Some e) = Ok (gs ++ record { tree = tree; gives = e } ∷ [])
with_leaf gs tree None = Err UnknownStep

-- what the $f at a place derives
abbrev pub float_gives : ℕ → Option FloatOf → Option Expression
float_gives i (Some f) = Some (Const f.type_code ∷ Var i ∷ [])
float_gives i None = None

-- one tree in place of those above the lowest `below`
abbrev pub with_node : List Grown → ℕ → List ℕ → Result Expression ProofFaultKind → Result (List Grown) ProofFaultKind
with_node gs below label (Ok e) = Ok (take below gs ++ record { tree = node label (trees_of (drop below gs)); gives = e } ∷ [])
with_node gs below label (Err kind) = Err kind

-- a node of the cited frame over the last trees
abbrev pub with_citation : Tables → Assertion → List Grown → List ℕ → Option Frame → Result (List Grown) ProofFaultKind
with_citation p a gs label None = Err UnknownStep
with_citation p a gs label (Some f) =
    if nat_lt (length gs) (arity f) then Err StackShort
    else with_node gs (length gs - arity f) label (cited p a f (last (arity f) (expressions_of gs)))

-- the forest behind one more step, or the first test that fails
abbrev pub grown : Citable → Tables → Assertion → List Grown → Step → Result (List Grown) ProofFaultKind
grown lib p a gs (Float i) = with_leaf gs (float i) (float_gives i (slice_get p.floats i))
grown lib p a gs (Hyp k) = with_leaf gs (hyp k) (slice_get a.hyps k)
grown lib p a gs (Cite label) = with_citation p a gs label (lib label)

-- ---- all steps

-- what follows a forest, or the fault of the step behind n others
abbrev pub then_grow : ℕ → Result (List Grown) ProofFaultKind → (List Grown → Result (List Grown) ProofFault)
    → Result (List Grown) ProofFault
then_grow n (Ok gs) next = next gs
then_grow n (Err kind) next = Err (record { step = n + 1; kind = kind })

-- the forest that steps behind n others make of a forest, or the fault of the first that fails a test
unfoldable pub all_grown : Citable → Tables → Assertion → ℕ → List Grown → List Step → Result (List Grown) ProofFault
all_grown lib p a n gs [] = Ok gs
all_grown lib p a n gs (step ∷ steps) = then_grow n (grown lib p a gs step) (λ hs. all_grown lib p a (n + 1) hs steps)

-- the one tree that is left, if it derives the statement, behind n steps
abbrev pub left_over : Expression → ℕ → List Grown → Result Tree ProofFault
left_over statement n (g ∷ []) =
    if same_expression g.gives statement then Ok g.tree else Err (record { step = n; kind = StatementDiffers })
left_over statement n _ = Err (record { step = n; kind = NotOneLeft })

-- what is left over of a forest, or the fault before it
abbrev pub ended : Expression → ℕ → Result (List Grown) ProofFault → Result Tree ProofFault
ended statement n (Ok gs) = left_over statement n gs
ended statement n (Err fault) = Err fault

-- the tree or the fault of an assertion's steps
unfoldable pub outcome : Citable → Tables → Assertion → Result Tree ProofFault
outcome lib p a = ended a.statement (length a.proof) (all_grown lib p a 0 [] a.proof)
