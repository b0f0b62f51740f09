-- Examples that compute: the definitions are neither empty nor too strong.
use Rattle.std.specs.Prelude.{◌≡◌, ℕ, Bool, true, false, List, [], ◌∷◌, ◌++◌, map, codes, Some, None}
use Rattle.mmtext.specs.Words.{Word}
use Rattle.mmtext.specs.Text.{tokens}
use Rattle.mmtext.specs.Comments.{words_of, without_comments}
use Rattle.source.specs.declared.letters.Code.TheVariants.{Number, Mark, Unknown}
use Rattle.source.specs.Statements.{Proof, normal, compressed, Statement, constants, variables, float, hypothesis, distinct, asserted}
use Rattle.source.specs.Statements.{proved, block, Statements, none, some, spellings}
use Rattle.source.specs.Scopes.{Hypothesis, typing, premise, Assertion, Scope, nothing, behind_all, mandatory_pairs}
use Rattle.std.specs.Prelude.{Result, Ok, Err}
use Rattle.mmtext.specs.declared.fault.FaultKind.{FaultKind}
use Rattle.mmtext.specs.declared.fault.FaultKind.TheVariants.{BadToken, RepeatedLabel, Unfinished, UnknownLabel, NotActive}
use Rattle.mmtext.specs.declared.fault.TextFault.{TextFault}
use Rattle.mmtext.specs.Languages.{token_reading}
use Rattle.source.specs.Faults.{source_language}
use Rattle.source.specs.Tests.{are_lawful}
use Rattle.source.specs.Sources.{Declares}
use Rattle.source.specs.Letters.{codes_of}
use Rattle.source.specs.Proofs.{Tree, node, over, denoted, leaves_one}

-- statements of a list
abbrev pub these : List Statement → Statements
these [] = none
these (s ∷ ss) = some s (these ss)

-- ---- scopes

-- $c wff |- $. $v p $. wp $f wff p $.
-- ${ h $e |- p $. $v r s $. wr $f wff r $. ws $f wff s $. ${ $d p s $. m $a |- r $. $} n $a |- s $. $}
-- ${ $v r $. xr $f wff r $. g $e |- r $. t $p |- p $= ( m ) BCAD $. $}
abbrev pub p : Word
p = codes "p"

abbrev pub r : Word
r = codes "r"

abbrev pub s : Word
s = codes "s"

abbrev pub wff : Word
wff = codes "wff"

abbrev pub yes : Word
yes = codes "|-"

abbrev pub prelude : List Statement
prelude =
    constants (wff ∷ yes ∷ []) ∷ variables (p ∷ []) ∷ float (codes "wp") wff p ∷ []

abbrev pub nested : Statement
nested =
    block (these (hypothesis (codes "h") (yes ∷ p ∷ []) ∷ variables (r ∷ s ∷ []) ∷ float (codes "wr") wff r ∷ float (codes "ws") wff s
    ∷ block (these (distinct (p ∷ s ∷ []) ∷ asserted (codes "m") (yes ∷ r ∷ []) ∷ []))
    ∷ asserted (codes "n") (yes ∷ s ∷ []) ∷ []))

abbrev pub again : Statement
again =
    block (these (variables (r ∷ []) ∷ float (codes "xr") wff r ∷ hypothesis (codes "g") (yes ∷ r ∷ [])
    ∷ proved (codes "t") (yes ∷ p ∷ []) (compressed (codes "m" ∷ []) (codes "BC" ∷ codes "AD" ∷ [])) ∷ []))

abbrev pub scopes : Statements
scopes = these (prelude ++ nested ∷ again ∷ [])

-- hypotheses
abbrev pub wp : Hypothesis
wp = typing (codes "wp") wff p

abbrev pub wr : Hypothesis
wr = typing (codes "wr") wff r

abbrev pub ws : Hypothesis
ws = typing (codes "ws") wff s

abbrev pub xr : Hypothesis
xr = typing (codes "xr") wff r

abbrev pub h : Hypothesis
h = premise (codes "h") (yes ∷ p ∷ [])

abbrev pub g : Hypothesis
g = premise (codes "g") (yes ∷ r ∷ [])

-- a dummy pair of an inner block, and hypotheses of both kinds mixed
abbrev pub m : Assertion
m = record {
  label = codes "m";
  hypotheses = wp ∷ h ∷ wr ∷ [];
  pairs = (p, s) ∷ [];
  statement = yes ∷ r ∷ [];
  proof = None;
  active = wp ∷ h ∷ wr ∷ ws ∷ [];
}

-- behind the inner block its pair is gone
abbrev pub n : Assertion
n = record {
  label = codes "n";
  hypotheses = wp ∷ h ∷ ws ∷ [];
  pairs = [];
  statement = yes ∷ s ∷ [];
  proof = None;
  active = wp ∷ h ∷ wr ∷ ws ∷ [];
}

-- behind the outer block its $e is gone, and r has another $f
abbrev pub t : Assertion
t = record {
  label = codes "t";
  hypotheses = wp ∷ xr ∷ g ∷ [];
  pairs = [];
  statement = yes ∷ p ∷ [];
  proof = Some (compressed (codes "m" ∷ []) (codes "BC" ∷ codes "AD" ∷ []));
  active = wp ∷ xr ∷ g ∷ [];
}

-- the text has these words
abbrev pub scopes_text : List ℕ
scopes_text = codes "$c wff |- $. $v p $. $( all p $) wp $f wff p $. ${ h $e |- p $. $v r s $. wr $f wff r $. ws $f wff s $. ${ $d p s $. m $a |- r $. $} n $a |- s $. $} ${ $v r $. xr $f wff r $. g $e |- r $. t $p |- p $= ( m ) BC AD $. $}"

abbrev pub ScopesAreSpelled : Type 0
ScopesAreSpelled = without_comments false (words_of (tokens scopes_text)) ≡ Some (spellings scopes)

-- the table of tests reads it token by token
abbrev pub ScopesAreRead : Type 0
ScopesAreRead = token_reading source_language scopes_text ≡ Ok (behind_all nothing scopes)

-- the fault of a text
abbrev pub read : List ℕ → Result Scope TextFault
read text = token_reading source_language text

abbrev pub failed : ℕ → FaultKind → Result Scope TextFault
failed place kind = Err (record { place = place; kind = kind })

abbrev pub FaultsAreFound : Type 0
FaultsAreFound =
    map read (
    codes "$c a $. ${ $v x $. $} $c x $."
    ∷ codes "$c a $. ${ $c b $. $}"
    ∷ codes "$c a $. ${ $v x $. f $f a x $. $} g $a a x $."
    ∷ codes "$c a $. ${ h $e a $. $} p $p a $= h $."
    ∷ codes "$c a $. p $p a $= p $."
    ∷ codes "$c a $. $v x $. f $f a x $. p $p a x $= ( f ) A $."
    ∷ codes "$c a $. $v x $. f $f a x $. p $p a x $= ( ) AZ $."
    ∷ codes "$c a $. $v x $. f $f a x $. p $p a x $= ( ) A ? $."
    ∷ codes "$c a $. $v x $. f $f a x $. p $p a x $= ? f $."
    ∷ codes "$c a $. $v x $. $d x x $."
    ∷ codes "$c a $. ${ ${ $}"
    ∷ codes "$c a $. $}"
    ∷ [])
    ≡ failed 25 RepeatedLabel ∷ failed 11 BadToken ∷ failed 41 NotActive ∷ failed 34 NotActive ∷ failed 18 UnknownLabel
    ∷ failed 42 BadToken ∷ failed 44 BadToken ∷ failed 48 BadToken ∷ failed 44 BadToken ∷ failed 21 BadToken ∷ failed 16 Unfinished
    ∷ failed 8 BadToken ∷ []

abbrev pub ScopesDeclare : Type 0
ScopesDeclare = Declares scopes (behind_all nothing scopes) × ((behind_all nothing scopes).assertions ≡ m ∷ n ∷ t ∷ [])

abbrev pub DummyPairIsKept : Type 0
DummyPairIsKept = mandatory_pairs m ≡ []

-- what is refused behind nested: its variable, its $e, a constant that was a variable, a label of a closed block
abbrev pub refuses : Statement → Bool
refuses x = are_lawful nothing (these (prelude ++ nested ∷ x ∷ []))

abbrev pub ClosedIsRefused : Type 0
ClosedIsRefused =
    map refuses (
    asserted (codes "z") (yes ∷ r ∷ [])
    ∷ proved (codes "z") (yes ∷ p ∷ []) (normal (codes "h" ∷ []))
    ∷ constants (r ∷ [])
    ∷ asserted (codes "h") (yes ∷ p ∷ [])
    ∷ variables (codes "m" ∷ [])
    ∷ block (these (constants (codes "k" ∷ []) ∷ []))
    ∷ distinct (p ∷ p ∷ [])
    ∷ float (codes "z") wff p
    ∷ proved (codes "z") (yes ∷ p ∷ []) (normal (codes "z" ∷ []))
    ∷ proved (codes "z") (yes ∷ p ∷ []) (compressed (codes "wp" ∷ []) (codes "A" ∷ []))
    ∷ variables (r ∷ [])
    ∷ asserted (codes "z") (yes ∷ p ∷ [])
    ∷ []) ≡ false ∷ false ∷ false ∷ false ∷ false ∷ false ∷ false ∷ false ∷ false ∷ false ∷ true ∷ true ∷ []

-- ---- letters

abbrev pub LettersCount : Type 0
LettersCount =
    map codes_of (codes "T" ∷ codes "UA" ∷ codes "YT" ∷ codes "UUA" ∷ codes "AZB" ∷ codes "A?" ∷ [])
    ≡ Some (Number 20 ∷ []) ∷ Some (Number 21 ∷ []) ∷ Some (Number 120 ∷ []) ∷ Some (Number 121 ∷ [])
    ∷ Some (Number 1 ∷ Mark ∷ Number 2 ∷ []) ∷ Some (Number 1 ∷ Unknown ∷ []) ∷ []

abbrev pub LettersFail : Type 0
LettersFail =
    map codes_of (codes "AU" ∷ codes "AUZ" ∷ codes "AU?" ∷ codes "a" ∷ [])
    ≡ None ∷ None ∷ None ∷ None ∷ []

-- ---- proofs

-- $c wff ( ) $. $v x y $. fx $f wff x $. fy $f wff y $. ax $a wff ( x y ) $. d $p wff ( ( x x ) ( x x ) ) $= .. $.
abbrev pub fx : Hypothesis
fx = typing (codes "fx") wff (codes "x")

abbrev pub fy : Hypothesis
fy = typing (codes "fy") wff (codes "y")

abbrev pub ax : Assertion
ax = record {
  label = codes "ax";
  hypotheses = fx ∷ fy ∷ [];
  pairs = [];
  statement = wff ∷ codes "(" ∷ codes "x" ∷ codes "y" ∷ codes ")" ∷ [];
  proof = None;
  active = fx ∷ fy ∷ [];
}

abbrev pub double : Proof → Assertion
double proof = record {
  label = codes "d";
  hypotheses = fx ∷ [];
  pairs = [];
  statement =
      wff ∷ codes "(" ∷ codes "(" ∷ codes "x" ∷ codes "x" ∷ codes ")" ∷ codes "(" ∷ codes "x" ∷ codes "x" ∷ codes ")" ∷ codes ")" ∷ [];
  proof = Some proof;
  active = fx ∷ fy ∷ [];
}

abbrev pub leaf : Word → Tree
leaf w = node w (over [])

abbrev pub pairing : Tree → Tree → Tree
pairing a b = node (codes "ax") (over (a ∷ b ∷ []))

abbrev pub doubled : Tree
doubled = pairing (pairing (leaf (codes "fx")) (leaf (codes "fx"))) (pairing (leaf (codes "fx")) (leaf (codes "fx")))

-- the marked subproof again
abbrev pub MarkDenotes : Type 0
MarkDenotes = denoted (ax ∷ []) (double (compressed (codes "ax" ∷ []) (codes "AAB" ∷ codes "ZCB" ∷ []))) ≡ Some doubled

-- the same by labels
abbrev pub LabelsDenote : Type 0
LabelsDenote =
    denoted (ax ∷ []) (double (normal (codes "fx" ∷ codes "fx" ∷ codes "ax" ∷ codes "fx" ∷ codes "fx" ∷ codes "ax" ∷ codes "ax" ∷ [])))
    ≡ Some doubled

-- a number past all, an entry that is left, an entry that is not there, and none
abbrev pub BrokenDenoteNone : Type 0
BrokenDenoteNone =
    map (λ letters. denoted (ax ∷ []) (double (compressed (codes "ax" ∷ []) (letters ∷ []))))
    (codes "AABZDB" ∷ codes "AA" ∷ codes "AB" ∷ [] ∷ [])
    ≡ None ∷ None ∷ None ∷ None ∷ []

-- ---- marks and steps that aren't there

-- c $a wff ( ) $. takes nothing
abbrev pub c : Assertion
c = record {
  label = codes "c";
  hypotheses = [];
  pairs = [];
  statement = wff ∷ codes "(" ∷ codes ")" ∷ [];
  proof = None;
  active = fx ∷ fy ∷ [];
}

-- whether the proof of d is one, behind ax and c
abbrev pub proves : Proof → Bool
proves proof = leaves_one (ax ∷ c ∷ []) (fx ∷ fy ∷ []) (fx ∷ []) proof

-- numbers: A is fx, B is ax, C is c, D is fy, and marked subproofs follow
abbrev pub proves_by : List ℕ → Bool
proves_by letters = proves (compressed (codes "ax" ∷ c.label ∷ codes "fy" ∷ []) (letters ∷ []))

-- behind an assertion that takes two or none, and behind another mark
abbrev pub MarksStandThere : Type 0
MarksStandThere = map proves_by (codes "AABZEB" ∷ codes "CZEB" ∷ codes "AABZZFB" ∷ []) ≡ true ∷ true ∷ true ∷ []

-- behind a mandatory hypothesis, one in parentheses, a marked subproof, and ?
abbrev pub MarksStandNowhereElse : Type 0
MarksStandNowhereElse =
    map proves_by (codes "AZEB" ∷ codes "DZEB" ∷ codes "CZEZB" ∷ codes "?ZEB" ∷ []) ≡ false ∷ false ∷ false ∷ false ∷ []

-- ? is one entry
abbrev pub UnknownStepsAreThere : Type 0
UnknownStepsAreThere =
    map proves_by (codes "?" ∷ codes "A?B" ∷ codes "CZ?B" ∷ []) ≡ true ∷ true ∷ true ∷ []
    × (map proves (normal (codes "?" ∷ []) ∷ normal (codes "fx" ∷ codes "?" ∷ codes "ax" ∷ []) ∷ []) ≡ true ∷ true ∷ [])

-- an entry is not there, one is left, the number behind ? is cut, and one in front of it; so in normal proofs
abbrev pub UnknownStepsAreOne : Type 0
UnknownStepsAreOne =
    map proves_by (codes "?B" ∷ codes "A?" ∷ codes "?U" ∷ codes "U?" ∷ []) ≡ false ∷ false ∷ false ∷ false ∷ []
    × (map proves (normal (codes "?" ∷ codes "ax" ∷ []) ∷ normal (codes "?" ∷ codes "?" ∷ []) ∷ []) ≡ false ∷ false ∷ [])
