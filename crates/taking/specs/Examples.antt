-- Examples of what is taken, that compute: the definitions are neither empty nor too strong.
use Rattle.std.specs.Prelude.{◌≡◌, [], ◌∷◌, codes, Some, None}
use Rattle.mmsyntax.specs.declared.statement.Symbol.TheVariants.{Const, Var}
use Rattle.mmsyntax.specs.declared.statement.Kind.TheVariants.{Axiom, Theorem}
use Rattle.mmsyntax.specs.declared.statement.Float.{Float as FloatOf}
use Rattle.mmsyntax.specs.declared.statement.Step.TheVariants.{Float, Hyp, Cite}
use Rattle.mmsyntax.specs.declared.statement.Assertion.{Assertion as Unit'}
use Rattle.mmsyntax.specs.Tables.{Tables}
use Rattle.source.specs.Scopes.{Scope, nothing, behind_all}
use Rattle.source.specs.Statements.{normal}
use Rattle.source.specs.Examples.{scopes, wff, yes, p, r, s, m, n, t}
use Rattle.taking.specs.declared.reason.Reason.TheVariants.{Unfinished, InFront, CitesUnchosen, LongExpression}
use Rattle.taking.specs.Names.{Map, HasPlaces, KeepsNames}
use Rattle.taking.specs.Says.{SaysSame}
use Rattle.taking.specs.Listings.{IsListed}
use Rattle.taking.specs.Reasons.{Choice, reason}
use Rattle.taking.specs.Taken.{Takes, chosen_of}

-- what stands behind all of the source's example:
-- $c wff |- $. $v p $. wp $f wff p $.
-- ${ h $e |- p $. $v r s $. wr $f wff r $. ws $f wff s $. ${ $d p s $. m $a |- r $. $} n $a |- s $. $}
-- ${ $v r $. xr $f wff r $. g $e |- r $. t $p |- p $= ( m ) BCAD $. $}
abbrev pub whole : Scope
whole = behind_all nothing scopes

-- ---- two assertions are taken

-- $c wff |- $. $v p x s r $. wp $f wff p $. wr $f wff x $. ws $f wff s $. xr $f wff r $.
-- ${ $d p s $. m.1 $e |- p $. m $a |- x $. $} ${ t.1 $e |- r $. t $p |- p $= xr wp t.1 m $. $}
abbrev pub wp : FloatOf
wp = record { label = codes "wp"; type_code = 0; variable = 0 }

abbrev pub wr : FloatOf
wr = record { label = codes "wr"; type_code = 0; variable = 1 }

abbrev pub ws : FloatOf
ws = record { label = codes "ws"; type_code = 0; variable = 2 }

abbrev pub xr : FloatOf
xr = record { label = codes "xr"; type_code = 0; variable = 3 }

abbrev pub library : Tables
library = record {
  constants = wff ∷ yes ∷ [];
  variables = p ∷ codes "x" ∷ s ∷ r ∷ [];
  floats = wp ∷ wr ∷ ws ∷ xr ∷ [];
}

-- two local $f of one variable are two
abbrev pub places : Map
places = record {
  constants = wff ∷ yes ∷ [];
  floats = codes "wp" ∷ codes "wr" ∷ codes "ws" ∷ codes "xr" ∷ [];
  variables = p ∷ r ∷ s ∷ r ∷ [];
  labels = (codes "m", codes "m") ∷ (codes "t", codes "t") ∷ [];
}

-- the pair of a dummy variable is kept
abbrev pub taken_m : Unit'
taken_m = record {
  label = codes "m";
  kind = Axiom;
  pairs = (0, 2) ∷ [];
  hyps = (Const 1 ∷ Var 0 ∷ []) ∷ [];
  statement = Const 1 ∷ Var 1 ∷ [];
  proof = [];
}

-- the local $f of r is another by its place; the arguments change places: wp, h, wr become wp, wr, h
abbrev pub taken_t : Unit'
taken_t = record {
  label = codes "t";
  kind = Theorem;
  pairs = [];
  hyps = (Const 1 ∷ Var 3 ∷ []) ∷ [];
  statement = Const 1 ∷ Var 0 ∷ [];
  proof = Float 3 ∷ Float 0 ∷ Hyp 0 ∷ Cite (codes "m") ∷ [];
}

abbrev pub both_chosen : Choice
both_chosen = record { chosen = codes "m" ∷ codes "t" ∷ []; front = []; long = [] }

abbrev pub NamesHavePlaces : Type 0
NamesHavePlaces = HasPlaces places library whole (chosen_of both_chosen whole) × KeepsNames places library whole

abbrev pub TakenSaySame : Type 0
TakenSaySame = SaysSame places library m taken_m × SaysSame places library t taken_t

abbrev pub TakenIsListed : Type 0
TakenIsListed = IsListed places (m ∷ n ∷ []) t taken_t

abbrev pub TakesTwo : Type 0
TakesTwo =
    Takes whole both_chosen (record { prelude = library; assertions = taken_m ∷ taken_t ∷ [] }) [] ((r, codes "x") ∷ [])

-- ---- one is taken: without what it cites t is an axiom, and told; only its own active $f are taken

-- $c wff |- $. $v p r $. wp $f wff p $. xr $f wff r $. ${ t.1 $e |- r $. t $a |- p $. $}
abbrev pub xr_alone : FloatOf
xr_alone = record { label = codes "xr"; type_code = 0; variable = 1 }

abbrev pub library_alone : Tables
library_alone = record { constants = wff ∷ yes ∷ []; variables = p ∷ r ∷ []; floats = wp ∷ xr_alone ∷ [] }

abbrev pub places_alone : Map
places_alone = record {
  constants = wff ∷ yes ∷ [];
  floats = codes "wp" ∷ codes "xr" ∷ [];
  variables = p ∷ r ∷ [];
  labels = (codes "t", codes "t") ∷ [];
}

abbrev pub taken_alone : Unit'
taken_alone = record {
  label = codes "t";
  kind = Axiom;
  pairs = [];
  hyps = (Const 1 ∷ Var 1 ∷ []) ∷ [];
  statement = Const 1 ∷ Var 0 ∷ [];
  proof = [];
}

abbrev pub TakesOne : Type 0
TakesOne =
    Takes whole (record { chosen = codes "t" ∷ []; front = []; long = [] })
    (record { prelude = library_alone; assertions = taken_alone ∷ [] }) ((codes "t", CitesUnchosen) ∷ []) []

-- ---- reasons: the first that holds

abbrev pub standing_in_front : Choice
standing_in_front = record { chosen = codes "t" ∷ []; front = codes "t" ∷ []; long = codes "t" ∷ [] }

-- with ? behind, t is unfinished, whatever else holds; with m chosen there is no reason but too long an expression, and without it t cites
-- what isn't chosen, in front of the choice or not
abbrev pub ReasonsAreInOrder : Type 0
ReasonsAreInOrder =
    (reason standing_in_front (m ∷ n ∷ []) (record t { proof = Some (normal (codes "xr" ∷ codes "?" ∷ [])) }) ≡ Some Unfinished)
    × (reason standing_in_front (m ∷ n ∷ []) t ≡ Some InFront)
    × (reason (record standing_in_front { front = [] }) (m ∷ n ∷ []) t ≡ Some CitesUnchosen)
    × (reason both_chosen (m ∷ n ∷ []) t ≡ None)
    × (reason (record both_chosen { long = codes "t" ∷ [] }) (m ∷ n ∷ []) t ≡ Some LongExpression)
    × (reason standing_in_front (m ∷ n ∷ []) m ≡ None)
