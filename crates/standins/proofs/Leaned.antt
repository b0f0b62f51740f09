-- A library with its stand-ins: without any it is the library.
use Rattle.std.proofs.Common.{◌≡◌, ◌<◌, ◌≤◌, ◌-◌, ◌*◌, ◌^◌, ℕ, Bool, true, false, cond, List, [], ◌∷◌, ◌++◌, length, map, Option, Some, None, refl, ap, ap₂, arith}
use Rattle.std.specs.Prelude.{All, find}
use Rattle.std.specs.List.{Contains, flat_map, range_with_len}
use Rattle.std.specs.Option.{option_map}
use Rattle.std.specs.Str.{bytes_eq}
use Rattle.std.proofs.lemmas.List.{length-append, length-map, map-id}
use Rattle.std.proofs.lemmas.List.Elements.{All-contains, All-filter}
use Rattle.std.proofs.lemmas.List.FromFn.{length-range_with_len, get_or-range_with_len}
use Rattle.mmtext.specs.Words.{Word}
use Rattle.mmsyntax.specs.declared.statement.Assertion.{Assertion}
use Rattle.mmsyntax.specs.declared.limits.TheConstants.{MOST_DECLARED}
use Rattle.mmsyntax.specs.Tables.{Contents}
use Rattle.mmsyntax.specs.Assertions.{IsUnit}
use Rattle.mmsyntax.specs.Layout.{HasSpelling}
use Rattle.mmsyntax.proofs.Canonical.{sound_tables}
use Rattle.mmsyntax.proofs.Declarable.{declarable}
use Rattle.mmframes.specs.Frames.{frame, is_mandatory}
use Rattle.derivation.specs.Databases.{AllCheck}
use Rattle.giving.specs.Staying.{Change}
use Rattle.standins.specs.StandIns.{StandIn, axiom_as, axiom_for, axioms_in, leaning, raise_by, with_stand_ins}
use Rattle.standins.specs.Views.{IsUnopened, axiom_found, axiom_pairs}
use Rattle.standins.specs.declared.opening.Unopened.{Unopened}
use Rattle.standins.specs.declared.opening.Unopened.TheVariants.{Unlawful, NoMemory}

-- ---- which theorems

found_both : (b : Bool) (x : StandIn) (o : Option Change) (q : Option StandIn) → option_map (λ c. c.1) o ≡ option_map (λ y. y.cited) q
    → option_map (λ (c : Change). c.1) (cond b (Some (x.theorem, x.cited)) o) ≡ option_map (λ (y : StandIn). y.cited) (cond b (Some x) q)
found_both true x o q same = refl
found_both false x o q same = same

-- a look-up finds the axiom
pub found_axiom : (ss : List StandIn) (w : Word) → axiom_found (axiom_pairs ss) w ≡ axiom_for ss w
found_axiom [] w = refl
found_axiom (x ∷ ss) w =
    found_both (bytes_eq w x.theorem) x (find (λ (c : Change). bytes_eq w c.0) (axiom_pairs ss))
    (find (λ (y : StandIn). bytes_eq w y.theorem) ss) (found_axiom ss w)

-- ---- without any

no_axioms : (xs : List Assertion) → flat_map (λ a. axiom_as a None) xs ≡ []
no_axioms [] = refl
no_axioms (a ∷ xs) = no_axioms xs

pub with_none : (db : Contents) → with_stand_ins db [] ≡ db
with_none db =
    ap₂ (λ (xs ys : List Assertion). record { prelude = db.prelude; assertions = xs ++ ys }) (no_axioms db.assertions)
    (map-id db.assertions)

-- ---- ranks

pub none_raised : (db : Contents) → raise_by db [] ≡ 0
none_raised db = ap (λ (xs : List Assertion). 100 * length xs) (no_axioms db.assertions)

-- each axiom in front counts
pub raised_by : (db : Contents) (ss : List StandIn)
    → 100 * (length (with_stand_ins db ss).assertions - length db.assertions) ≡ raise_by db ss
raised_by db ss =
    let theorems = map (λ (a : Assertion). leaning db.prelude a (axiom_for ss a.label)) db.assertions in
    omega (arith, length-append (axioms_in db ss) theorems, length-map db.assertions (λ a. leaning db.prelude a (axiom_for ss a.label)))

-- ---- small places

all_range : (n : ℕ) → All (λ k. k < n) (range_with_len 0 n)
all_range n = λ i d lt.
    let long = length-range_with_len 0 n in
    let within : i < n = omega (arith, long, lt) in
    omega (arith, get_or-range_with_len 0 n i d within)

module _ (db : Contents) (spelled : HasSpelling db) where
  few_floats : length db.prelude.floats ≤ MOST_DECLARED
  few_floats = (sound_tables db.prelude (declarable db spelled).prelude).floats_fit

  -- of the mandatory $f
  pub floats_small : (a : Assertion) → All (λ place. place < 2 ^ 30) (frame db.prelude a).floats
  floats_small a =
      let few = few_floats in
      let t = db.prelude in
      All-filter (is_mandatory t a) (λ place. place < 2 ^ 30) (range_with_len 0 (length t.floats)) (λ i d lt.
      let below = all_range (length t.floats) i d lt in omega arith)

  -- of the hypotheses
  pub hypotheses_small : (a : Assertion) → Contains db.assertions a → length (frame db.prelude a).hyps ≤ 2 ^ 30
  hypotheses_small a at =
      let few = (All-contains (IsUnit db.prelude) db.assertions a (declarable db spelled).units at).fits.few_hyps in omega arith

-- ---- why it isn't opened

pub why_unopened : (db : Contents) (ss : List StandIn) (why : Unopened)
    → ((why ≡ NoMemory → ⊥) → AllCheck (with_stand_ins db ss) → ⊥) → IsUnopened db ss why
why_unopened db ss Unlawful fails = λ spelled checks. fails (λ e. absurd cc) checks
why_unopened db ss NoMemory fails = tt
