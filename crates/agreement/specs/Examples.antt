-- Examples that compute: a library whose proof checks as it verifies in the source, and one with two equal labels, whose proof doesn't.
use Rattle.std.specs.Prelude.{List, [], ◌∷◌, codes, Some, None}
use Rattle.mmtext.specs.Words.{Word}
use Rattle.mmsyntax.specs.declared.statement.Symbol.TheVariants.{Const}
use Rattle.mmsyntax.specs.declared.statement.Kind.TheVariants.{Axiom, Theorem}
use Rattle.mmsyntax.specs.declared.statement.Step.TheVariants.{Cite}
use Rattle.mmsyntax.specs.declared.statement.Assertion.{Assertion as Unit'}
use Rattle.mmsyntax.specs.Tables.{Tables, Contents}
use Rattle.source.specs.Statements.{Proof, normal, compressed, Statements, constants, asserted, proved}
use Rattle.source.specs.Scopes.{Assertion, Scope, nothing, behind_all}
use Rattle.source.specs.Sources.{Declares}
use Rattle.source.specs.Examples.{these, scopes, r, m, n, t}
use Rattle.taking.specs.Reasons.{Choice}
use Rattle.taking.specs.Taken.{Takes}
use Rattle.taking.specs.Examples.{whole, library, taken_m, taken_t, both_chosen}
use Rattle.derivation.specs.Derivation.{Proves}
use Rattle.derivation.specs.Databases.{citable_at, AllCheck}
use Rattle.agreement.specs.Taken.{IsTakenWithProof, DerivesShort}
use Rattle.agreement.specs.Laws.{LabelsDiffer}

-- ---- the example of what is taken

-- $c wff |- $. $v p x s r $. wp $f wff p $. wr $f wff x $. ws $f wff s $. xr $f wff r $.
-- ${ $d p s $. m.1 $e |- p $. m $a |- x $. $} ${ t.1 $e |- r $. t $p |- p $= xr wp t.1 m $. $}
abbrev pub two : Contents
two = record { prelude = library; assertions = taken_m ∷ taken_t ∷ [] }

-- $= ( m ) BCAD $.
abbrev pub proof_of_t : Proof
proof_of_t = compressed (codes "m" ∷ []) (codes "BC" ∷ codes "AD" ∷ [])

-- where the arguments of m change places, and the local $f of r is another
abbrev pub TwoAgree : Type 0
TwoAgree =
    Declares scopes whole × Takes whole both_chosen two [] ((r, codes "x") ∷ []) × LabelsDiffer two
    × IsTakenWithProof whole both_chosen (m ∷ n ∷ []) t proof_of_t × DerivesShort (m ∷ n ∷ []) t proof_of_t
    × Proves (citable_at two 1) library taken_t taken_t.proof taken_t.statement

-- ---- equal labels

abbrev pub yes : Word
yes = codes "|-"

abbrev pub proof_of_b : Proof
proof_of_b = normal (codes "a.2" ∷ [])

-- $c |- A B $. a $a |- $. a.1 $a |- A $. a.2 $a |- B $. b $p |- B $= a.2 $.
abbrev pub dotted : Statements
dotted =
    these (constants (yes ∷ codes "A" ∷ codes "B" ∷ []) ∷ asserted (codes "a") (yes ∷ [])
    ∷ asserted (codes "a.1") (yes ∷ codes "A" ∷ []) ∷ asserted (codes "a.2") (yes ∷ codes "B" ∷ [])
    ∷ proved (codes "b") (yes ∷ codes "B" ∷ []) proof_of_b ∷ [])

abbrev pub dotted_source : Scope
dotted_source = behind_all nothing dotted

abbrev pub stating : Word → List Word → Assertion
stating label ws = record { label = label; hypotheses = []; pairs = []; statement = ws; proof = None; active = [] }

abbrev pub before_b : List Assertion
before_b =
    stating (codes "a") (yes ∷ []) ∷ stating (codes "a.1") (yes ∷ codes "A" ∷ []) ∷ stating (codes "a.2") (yes ∷ codes "B" ∷ []) ∷ []

abbrev pub b : Assertion
b = record (stating (codes "b") (yes ∷ codes "B" ∷ [])) { proof = Some proof_of_b }

abbrev pub all_chosen : Choice
all_chosen = record { chosen = codes "a" ∷ codes "a.1" ∷ codes "a.2" ∷ codes "b" ∷ []; front = []; long = [] }

-- $c |- A B $. a $a |- $. x $a |- A $. x $a |- B $. b $p |- B $= x $.
abbrev pub three_constants : Tables
three_constants = record { constants = yes ∷ codes "A" ∷ codes "B" ∷ []; variables = []; floats = [] }

abbrev pub taken_a : Unit'
taken_a = record { label = codes "a"; kind = Axiom; pairs = []; hyps = []; statement = Const 0 ∷ []; proof = [] }

abbrev pub taken_b : Unit'
taken_b = record {
  label = codes "b";
  kind = Theorem;
  pairs = [];
  hyps = [];
  statement = Const 0 ∷ Const 2 ∷ [];
  proof = Cite (codes "x") ∷ [];
}

abbrev pub one_label_twice : Contents
one_label_twice = record {
  prelude = three_constants;
  assertions =
      taken_a ∷ record taken_a { label = codes "x"; statement = Const 0 ∷ Const 1 ∷ [] }
      ∷ record taken_a { label = codes "x"; statement = Const 0 ∷ Const 2 ∷ [] } ∷ taken_b ∷ [];
}

-- what is changed to one fresh label is taken too, and then b cites the first of the two
abbrev pub EqualLabelsDisagree : Type 0
EqualLabelsDisagree =
    Declares dotted dotted_source
    × Takes dotted_source all_chosen one_label_twice [] ((codes "a.1", codes "x") ∷ (codes "a.2", codes "x") ∷ [])
    × IsTakenWithProof dotted_source all_chosen before_b b proof_of_b × DerivesShort before_b b proof_of_b
    × (AllCheck one_label_twice → ⊥)
