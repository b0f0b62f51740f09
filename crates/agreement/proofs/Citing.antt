-- A citation gives an expression in the source just where it gives it in the library, unless it is too long.
use Rattle.std.proofs.Common.{◌≡◌, ◌≤◌, ◌<◌, ℕ, suc, Bool, true, false, List, [], ◌∷◌, map, length, drop, refl, sym, ap, ◌∙◌, subst}
use Rattle.std.proofs.Common.{arith, length-append, Ok, Err}
use Rattle.std.proofs.Math.Seq.{drop-append_seam}
use mathlib.Core.Bool.{not}
use Rattle.std.specs.Prelude.{Option, Some, ◌↔◌, Result, All, if◌then◌else◌}
use Rattle.std.specs.List.{AllByRecursion}
use Rattle.std.proofs.lemmas.List.Elements.{All-from_recursion, recursion_from_All}
use Rattle.mmsyntax.specs.declared.statement.Symbol.{Symbol}
use Rattle.mmsyntax.specs.declared.statement.Assertion.{Assertion as Unit'}
use Rattle.mmsyntax.specs.Tables.{Tables}
use Rattle.mmsyntax.specs.declared.limits.TheConstants.{MOST_SYMBOLS}
use Rattle.mmframes.specs.Frames.{frame}
use Rattle.mmframes.specs.Substitution as by_place
use Rattle.source.specs.Scopes.{Hypothesis, typing, premise, Assertion, is_mandatory}
use Rattle.derivation.specs.declared.fault.ProofFaultKind.{ProofFaultKind}
use Rattle.derivation.specs.declared.fault.ProofFaultKind.TheVariants.{WrongType, HypothesisDiffers, NotDisjoint, TooLong}
use Rattle.derivation.specs.Derivation.{HaveTypes, TypesFit, HypothesesFit, PairsFit, AreApart, Gives, arity, conclusion}
use Rattle.derivation.specs.Faults.{FailsTest}
use Rattle.derivation.specs.Derivation as derivation
use Rattle.taking.specs.Names.{Map, float_in}
use Rattle.taking.specs.Says.{each, symbol_in, expression_in, premises, IsFloatTaken}
use Rattle.taking.specs.Listings.{at_floats, at_premises, in_profile_order}
use Rattle.verifying.specs.Citations.{Expression, types_fit, hypotheses_fit, pairs_fit, substitution}
use Rattle.verifying.specs.Citations.{subst as subst_words}
use Rattle.verifying.specs.Verifies.{cited}
use Rattle.agreement.proofs.Actives.{labels_of_floats}
use Rattle.agreement.proofs.Said.{IsOwn, IsSaid, all_kept}
use Rattle.agreement.proofs.Frames.{floats_are}
use Rattle.agreement.proofs.Substituted.{each_cons, each_short, each_long, IsSound, AreIn, statement_replaced}
use Rattle.agreement.proofs.Tests.{types_agree, all_hypotheses_agree, premises_kept}
use Rattle.agreement.proofs.Pairs.{pairs_alike}

-- ---- lengths

pub each_length : {A B : Type 0} (f : A → Option B) (xs : List A) (ys : List B) → each f xs ≡ Some ys → length xs ≡ length ys
each_length f [] [] h = refl
each_length f [] (y ∷ ys) h = absurd (each_long f y ys h)
each_length f (x ∷ xs) [] h = absurd (each_short f x xs h)
each_length f (x ∷ xs) (y ∷ ys) h = ap suc (each_length f xs ys (each_cons f x xs y ys h).1)

floats_length : {A : Type 0} (hs : List Hypothesis) (zs : List A) → length hs ≡ length zs
    → length (at_floats hs zs) ≡ length (labels_of_floats hs)
floats_length [] [] h = refl
floats_length [] (z ∷ zs) h = absurd (omega arith)
floats_length (k ∷ hs) [] h = absurd (omega arith)
floats_length (typing label c v ∷ hs) (z ∷ zs) h = ap suc (floats_length hs zs (omega arith))
floats_length (premise label ws ∷ hs) (z ∷ zs) h = floats_length hs zs (omega arith)

premises_length : {A : Type 0} (hs : List Hypothesis) (zs : List A) → length hs ≡ length zs
    → length (at_premises hs zs) ≡ length (premises hs)
premises_length [] [] h = refl
premises_length [] (z ∷ zs) h = absurd (omega arith)
premises_length (k ∷ hs) [] h = absurd (omega arith)
premises_length (premise label ws ∷ hs) (z ∷ zs) h = ap suc (premises_length hs zs (omega arith))
premises_length (typing label c v ∷ hs) (z ∷ zs) h = premises_length hs zs (omega arith)

-- ---- the three tests of a source

unless_failed : (b : Bool) (kind : ProofFaultKind) (later : Result Expression ProofFaultKind) (e : Expression)
    → (if not b then Err kind else later) ≡ Ok e → (b ≡ true) × (later ≡ Ok e)
unless_failed true kind later e h = (refl, h)
unless_failed false kind later e h = absurd cc

if_passed : (b : Bool) (kind : ProofFaultKind) (later : Result Expression ProofFaultKind) → b ≡ true
    → (if not b then Err kind else later) ≡ later
if_passed b kind later h = ap (λ q. if not q then Err kind else later) h

-- the mandatory hypotheses of what is taken
pub hypotheses_sound : (m : Map) (t : Tables) (c : Assertion) (b : Unit') → IsSaid m t c b
    → AllByRecursion (IsSound m t c.active) c.hypotheses
hypotheses_sound m t c b sc =
    subst (AllByRecursion (IsSound m t c.active)) sc.mandatory
    (all_kept (IsSound m t c.active) (is_mandatory c.active c.statement) c.active (both c.active sc.own sc.taken))
  where
    both : (hs : List Hypothesis) → AllByRecursion (IsOwn c.active) hs → AllByRecursion (IsFloatTaken m t) hs
        → AllByRecursion (IsSound m t c.active) hs
    both [] p q = tt
    both (h ∷ hs) p q = ((p.0, q.0), both hs p.1 q.1)

module _ (m : Map) (t : Tables) (x c : Assertion) (a b : Unit') (sx : IsSaid m t x a) (sc : IsSaid m t c b) where
  -- one expression for each mandatory hypothesis
  pub one_for_each : {A : Type 0} (zs : List A) → length c.hypotheses ≡ length zs
      → length (in_profile_order c.hypotheses zs) ≡ arity (frame t b)
  one_for_each zs n =
      let floats : length (at_floats c.hypotheses zs) ≡ length (frame t b).floats =
      floats_length c.hypotheses zs n ∙ each_length (float_in m) (labels_of_floats c.hypotheses) sc.places.are sc.places.places
      ∙ ap length (sym (floats_are m t c b sc)) in
      let same : premises c.hypotheses ≡ premises c.active =
      ap premises (sym sc.mandatory) ∙ premises_kept c.active c.statement c.active in
      let hyps : length (at_premises c.hypotheses zs) ≡ length b.hyps =
      premises_length c.hypotheses zs n ∙ ap length same
      ∙ each_length (expression_in m c.active) (premises c.active) b.hyps sc.says.hyps in
      omega (arith, length-append (at_floats c.hypotheses zs) (at_premises c.hypotheses zs), floats, hyps)

  module _ (es : List Expression) (zs : List (List Symbol)) (long : length c.hypotheses ≡ length es)
      (ins : AreIn m t x c a b sx sc es zs) where
    -- the expressions in the order of the library
    abbrev pub ordered : List (List Symbol)
    ordered = in_profile_order c.hypotheses zs

    sound : AllByRecursion (IsSound m t c.active) c.hypotheses
    sound = hypotheses_sound m t c b sc

    as_long : length c.hypotheses ≡ length zs
    as_long = long ∙ each_length (expression_in m x.active) es zs ins

    types : (types_fit c es ≡ true) ↔ TypesFit t (frame t b) ordered
    types =
        subst (λ is. (types_fit c es ≡ true) ↔ HaveTypes t is ordered) (sym (floats_are m t c b sc))
        (types_agree m t x c a b sx sc c.hypotheses es zs (at_premises c.hypotheses zs) sc.places.are long ins sc.places.places sound)

    behind_floats : drop (length sc.places.are) ordered ≡ at_premises c.hypotheses zs
    behind_floats =
        ap (λ n. drop n ordered)
        (sym (floats_length c.hypotheses zs as_long
        ∙ each_length (float_in m) (labels_of_floats c.hypotheses) sc.places.are sc.places.places))
        ∙ drop-append_seam (at_floats c.hypotheses zs) (at_premises c.hypotheses zs)

    hypotheses : (hypotheses_fit c es ≡ true) ↔ HypothesesFit (frame t b) ordered
    hypotheses =
        let here = all_hypotheses_agree m t x c a b sx sc es zs (at_premises c.hypotheses zs) long ins sound in
        subst
        (λ is. (hypotheses_fit c es ≡ true)
        ↔ (map (by_place.subst (derivation.substitution is ordered)) b.hyps ≡ drop (length is) ordered))
        (sym (floats_are m t c b sc))
        (λ h. here.0 h ∙ sym behind_floats, λ e. here.1 (e ∙ behind_floats))

    pairs : (pairs_fit x c es ≡ true) ↔ PairsFit a (frame t b) ordered
    pairs =
        let put : List ℕ → ℕ → List Symbol = λ is j. by_place.replacement (derivation.substitution is ordered) j in
        let here = pairs_alike m t x c a b sx sc es zs (at_premises c.hypotheses zs) long ins sound in
        let P = λ (is : List ℕ) (q : ℕ × ℕ). AreApart a.pairs (put is q.0) (put is q.1) in
        subst (λ is. (pairs_fit x c es ≡ true) ↔ All (P is) (frame t b).pairs) (sym (floats_are m t c b sc)) (
          λ h. All-from_recursion (P sc.places.are) (frame t b).pairs (here.0 h),
          λ h. here.1 (recursion_from_All (P sc.places.are) (frame t b).pairs h),
        )

    -- what a citation would give
    made : List Symbol
    made = by_place.subst (derivation.substitution (frame t b).floats ordered) b.statement

    made_is : expression_in m x.active (subst_words (substitution c es) c.statement) ≡ Some made
    unfolding made
    made_is =
        subst
        (λ is. expression_in m x.active (subst_words (substitution c es) c.statement)
        ≡ Some (by_place.subst (derivation.substitution is ordered) b.statement))
        (sym (floats_are m t c b sc)) (statement_replaced m t x c a b sx sc es zs (at_premises c.hypotheses zs) long ins sound)

    -- in the library, and what it is there
    pub record PassesThere (e : Expression) : Type 0 where
      pub gives : List Symbol
      pub is : expression_in m x.active e ≡ Some gives
      pub types : TypesFit t (frame t b) ordered
      pub hypotheses : HypothesesFit (frame t b) ordered
      pub pairs : PairsFit a (frame t b) ordered
      pub is_conclusion : gives ≡ conclusion (frame t b) ordered
      pub many : length e ≡ length gives

    pub passes_there : (e : Expression) → cited x c es ≡ Ok e → PassesThere e
    unfolding made
    passes_there e h =
        let one = unless_failed (types_fit c es) WrongType _ e h in
        let two = unless_failed (hypotheses_fit c es) HypothesisDiffers _ e one.1 in
        let three = unless_failed (pairs_fit x c es) NotDisjoint (Ok (subst_words (substitution c es) c.statement)) e two.1 in
        let same : subst_words (substitution c es) c.statement ≡ e = cc in
        let is : expression_in m x.active e ≡ Some made = ap (expression_in m x.active) (sym same) ∙ made_is in
        record {
          gives = made;
          is = is;
          types = types.0 one.0;
          hypotheses = hypotheses.0 two.0;
          pairs = pairs.0 three.0;
          is_conclusion = refl;
          many = each_length (symbol_in m x.active) e made is;
        }

    -- it is given, unless it is too long
    pub gives_there : (e : Expression) (p : PassesThere e) → length e ≤ MOST_SYMBOLS → Gives t a (frame t b) ordered p.gives
    gives_there e p short = record {
      one_each = one_for_each zs as_long;
      types = p.types;
      hypotheses = p.hypotheses;
      pairs = p.pairs;
      is_conclusion = p.is_conclusion;
      short = subst (λ n. n ≤ MOST_SYMBOLS) p.many short;
    }

    pub too_long_there : (e : Expression) (p : PassesThere e) → MOST_SYMBOLS < length e → FailsTest t a (frame t b) ordered TooLong
    too_long_there e p long =
        (p.types, p.hypotheses, p.pairs, subst (λ n. MOST_SYMBOLS < n) (p.many ∙ ap length p.is_conclusion) long)

    -- in the source, and how long it is
    pub record GivesHere (z : List Symbol) : Type 0 where
      pub gives : Expression
      pub is : expression_in m x.active gives ≡ Some z
      pub given : cited x c es ≡ Ok gives
      pub short : length gives ≤ MOST_SYMBOLS

    pub gives_here : (z : List Symbol) → Gives t a (frame t b) ordered z → GivesHere z
    unfolding made
    gives_here z g =
        let e = subst_words (substitution c es) c.statement in
        let is : expression_in m x.active e ≡ Some z = made_is ∙ ap (λ q. Some q) (sym g.is_conclusion) in
        let many = each_length (symbol_in m x.active) e z is in
        record {
          gives = e;
          is = is;
          given =
              if_passed (types_fit c es) WrongType _ (types.1 g.types)
              ∙ if_passed (hypotheses_fit c es) HypothesisDiffers _ (hypotheses.1 g.hypotheses)
              ∙ if_passed (pairs_fit x c es) NotDisjoint (Ok e) (pairs.1 g.pairs);
          short = subst (λ n. n ≤ MOST_SYMBOLS) (sym many) g.short;
        }
