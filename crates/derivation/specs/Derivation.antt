-- Trees of a proof, what each derives, and the steps that it lists (Metamath book, section 4.1.4).
use Rattle.std.specs.Prelude.{◌≡◌, ◌≢◌, ℕ, ◌+◌, ◌≤◌, List, [], ◌∷◌, ◌++◌, Option, Some, All, Contains, length, map, zip, drop}
use Rattle.std.specs.Prelude.{slice_get}
use Rattle.mmsyntax.specs.declared.statement.Symbol.{Symbol}
use Rattle.mmsyntax.specs.declared.statement.Symbol.TheVariants.{Const, Var}
use Rattle.mmsyntax.specs.declared.statement.Float.{Float as FloatOf}
use Rattle.mmsyntax.specs.declared.statement.Frame.{Frame}
use Rattle.mmsyntax.specs.declared.statement.Assertion.{Assertion}
use Rattle.mmsyntax.specs.declared.statement.Kind.TheVariants.{Theorem}
use Rattle.mmsyntax.specs.declared.statement.Step.{Step}
use Rattle.mmsyntax.specs.declared.statement.Step.TheVariants.{Float, Hyp, Cite}
use Rattle.mmsyntax.specs.Tables.{Tables}
use Rattle.mmsyntax.specs.Blocks.{in_order}
use Rattle.mmframes.specs.Substitution.{subst, replacement}
use Rattle.mmsyntax.specs.declared.limits.TheConstants.{MOST_SYMBOLS}

-- an expression
abbrev pub Expression : Type 0
Expression = List Symbol

-- the frame of each assertion that may be cited, by its label
abbrev pub Citable : Type 0
Citable = List ℕ → Option Frame

-- a tree of a proof: a $f of the prelude, a $e of the assertion being proved, or a cited assertion over subtrees
mutual
  pub data Tree : Type 0 where
    float : ℕ → Tree
    hyp : ℕ → Tree
    node : List ℕ → Trees → Tree

  pub data Trees : Type 0 where
    none : Trees
    some : Tree → Trees → Trees

-- ---- the leaves

-- what the $f at a place derives: its type, then its variable
abbrev pub FloatGives : Tables → ℕ → Expression → Type 0
FloatGives p i e = (f : FloatOf) × (slice_get p.floats i ≡ Some f) × (e ≡ Const f.type_code ∷ Var i ∷ [])

-- ---- the tests of a citation

-- an expression begins with the type of the $f at a place
abbrev pub HasType : Tables → ℕ → Expression → Type 0
HasType p i e = (f : FloatOf) × (slice_get p.floats i ≡ Some f) × (slice_get e 0 ≡ Some (Const f.type_code))

-- each $f has an expression of its type, in order
abbrev pub HaveTypes : Tables → List ℕ → List Expression → Type 0
HaveTypes p [] es = Unit {0}
HaveTypes p (i ∷ is) [] = ⊥
HaveTypes p (i ∷ is) (e ∷ es) = HasType p i e × HaveTypes p is es

-- each $f with its substitute: the expression without its type, which may be empty
abbrev pub substitution : List ℕ → List Expression → List (ℕ × Expression)
substitution floats es = zip floats (map (drop 1) es)

-- two variables differ and are one of the restricted pairs
pub record IsApart (pairs : List (ℕ × ℕ)) (u v : ℕ) : Type 0 where
  pub differ : u ≢ v
  pub paired : Contains pairs (in_order u v)

-- two expressions share no variable, and each two variables, one of each, are one of the restricted pairs
pub record AreApart (pairs : List (ℕ × ℕ)) (d e : Expression) : Type 0 where
  pub apart : (u v : ℕ) → Contains d (Var u) → Contains e (Var v) → IsApart pairs u v

-- how many mandatory hypotheses a frame has
abbrev pub arity : Frame → ℕ
arity f = length f.floats + length f.hyps

-- each of the first expressions has the type of its mandatory $f
abbrev pub TypesFit : Tables → Frame → List Expression → Type 0
TypesFit p f es = HaveTypes p f.floats es

-- each of the others is its $e after substitution
abbrev pub HypothesesFit : Frame → List Expression → Type 0
HypothesesFit f es = map (subst (substitution f.floats es)) f.hyps ≡ drop (length f.floats) es

-- the substitutes of each mandatory pair are apart, by the pairs of the assertion being proved
abbrev pub PairsFit : Assertion → Frame → List Expression → Type 0
PairsFit a f es =
    All (λ q. AreApart a.pairs (replacement (substitution f.floats es) q.0) (replacement (substitution f.floats es) q.1)) f.pairs

-- the statement after substitution
abbrev pub conclusion : Frame → List Expression → Expression
conclusion f es = subst (substitution f.floats es) f.statement

-- in a proof of a, a citation of the frame f over the expressions es gives the expression e
pub record Gives (p : Tables) (a : Assertion) (f : Frame) (es : List Expression) (e : Expression) : Type 0 where
  pub one_each : length es ≡ arity f
  pub types : TypesFit p f es
  pub hypotheses : HypothesesFit f es
  pub pairs : PairsFit a f es
  pub is_conclusion : e ≡ conclusion f es
  pub short : length e ≤ MOST_SYMBOLS

-- ---- trees

abbrev mutual
  -- a tree derives an expression, in a proof of the assertion a over what may be cited
  pub Derives : Citable → Tables → Assertion → Tree → Expression → Type 0
  Derives lib p a (float i) e = FloatGives p i e
  Derives lib p a (hyp k) e = slice_get a.hyps k ≡ Some e
  Derives lib p a (node label trees) e =
      (f : Frame) × (es : List Expression) × (lib label ≡ Some f) × DeriveEach lib p a trees es × Gives p a f es e

  -- trees derive expressions, one each, in order
  pub DeriveEach : Citable → Tables → Assertion → Trees → List Expression → Type 0
  DeriveEach lib p a none es = es ≡ []
  DeriveEach lib p a (some tree trees) es =
      (e : Expression) × (later : List Expression) × (es ≡ e ∷ later) × Derives lib p a tree e × DeriveEach lib p a trees later

abbrev mutual
  -- the steps of a tree, in reverse Polish order: those of its subtrees, then its own
  pub listing : Tree → List Step
  listing (float i) = Float i ∷ []
  listing (hyp k) = Hyp k ∷ []
  listing (node label trees) = listings trees ++ Cite label ∷ []

  -- the steps of trees, one after another
  pub listings : Trees → List Step
  listings none = []
  listings (some tree trees) = listing tree ++ listings trees

-- steps are the listing of a tree that derives an expression
abbrev pub Proves : Citable → Tables → Assertion → List Step → Expression → Type 0
Proves lib p a steps e = (tree : Tree) × (listing tree ≡ steps) × Derives lib p a tree e

-- steps are the listing of a forest: of trees that derive expressions, one each
abbrev pub ListForest : Citable → Tables → Assertion → List Step → List Expression → Type 0
ListForest lib p a steps es = (trees : Trees) × (listings trees ≡ steps) × DeriveEach lib p a trees es

-- the steps of a theorem are the listing of a tree that derives its statement; an axiom has nothing to check
abbrev pub Checks : Citable → Tables → Assertion → Type 0
Checks lib p a = a.kind ≡ Theorem → Proves lib p a a.proof a.statement
