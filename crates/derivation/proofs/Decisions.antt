-- Each test of a citation tells what it is the test of.
use Rattle.std.proofs.Common.{◌≡◌, ℕ, zero, suc, ◌<◌, ◌≤◌, Bool, true, false, cond, List, [], ◌∷◌, ◌⊎◌, inl, inr, Option, None, Some, All}
use Rattle.std.proofs.Common.{Contains}
use Rattle.std.proofs.Common.{length, slice_get, Result, Ok, Err, refl, sym, ap, ◌∙◌, arith, eqb}
use Rattle.std.specs.Prelude.{◌||◌}
use Rattle.std.specs.Bool.{Decides}
use Rattle.std.specs.List.{list_any, list_all}
use mathlib.Core.Bool.{not}
use Rattle.std.proofs.lemmas.Bool.Decides.{Decides-eqb, Decides-ltb, Decides-and, Decides-or, Decides-not, Decides-like, Decides-by_and}
use Rattle.std.proofs.lemmas.Bool.Decides.{not_from_Decides}
use Rattle.std.proofs.lemmas.Slice.Eq.{slice_eq-Decides}
use Rattle.std.proofs.lemmas.List.Elements.{Contains-get_or, All-contains}
use Rattle.mmsyntax.specs.declared.statement.Symbol.{Symbol}
use Rattle.mmsyntax.specs.declared.statement.Symbol.TheVariants.{Const, Var}
use Rattle.mmsyntax.specs.declared.statement.Float.{Float as FloatOf}
use Rattle.mmsyntax.specs.Tables.{Tables}
use Rattle.mmsyntax.specs.Blocks.{in_order, is_same_pair}
use Rattle.mmsyntax.specs.declared.statement.Frame.{Frame}
use Rattle.mmsyntax.specs.declared.statement.Assertion.{Assertion}
use Rattle.derivation.specs.declared.fault.ProofFaultKind.{ProofFaultKind}
use Rattle.derivation.specs.declared.fault.ProofFaultKind.TheVariants.{WrongType, HypothesisDiffers, NotDisjoint, TooLong}
use Rattle.mmframes.specs.Substitution.{replacement}
use Rattle.derivation.specs.Derivation.{Expression, Gives, IsApart, AreApart, HaveTypes, TypesFit, HypothesesFit, PairsFit, conclusion}
use Rattle.derivation.specs.Derivation.{arity}
use Rattle.derivation.specs.Derivation.{substitution}
use Rattle.derivation.specs.Faults.{FailsTest}
use Rattle.derivation.specs.Outcomes.{begins_with_type, types_fit, same_symbol, same_expression, hypotheses_fit, symbols_apart}
use Rattle.derivation.specs.Outcomes.{are_apart, pairs_fit, cited}

-- ---- types

begins : (o : Option FloatOf) (s : Option Symbol)
    → Decides (begins_with_type o s) ((f : FloatOf) × (o ≡ Some f) × (s ≡ Some (Const f.type_code)))
begins None s = (λ h. absurd cc, λ h. let e = h.1 in absurd cc)
begins (Some f) None = (λ h. absurd cc, λ h. let e = h.2 in absurd cc)
begins (Some f) (Some (Var j)) = (λ h. absurd cc, λ h. let e = h.2 in absurd cc)
begins (Some f) (Some (Const c)) =
    Decides-like (eqb c f.type_code) (λ k. (f, refl, ap (λ x. Some (Const x)) k))
    (λ h. let float : f ≡ h.0 = cc in let code : c ≡ h.0.type_code = cc in code ∙ ap (λ g. g.type_code) (sym float))
    (Decides-eqb c f.type_code)

types-decide : (p : Tables) (floats : List ℕ) (es : List Expression) → Decides (types_fit p floats es) (HaveTypes p floats es)
types-decide p [] es = (λ _. tt, λ _. refl)
types-decide p (i ∷ is) [] = (λ h. absurd cc, λ h. absurd h)
types-decide p (i ∷ is) (e ∷ es) =
    Decides-and (begins_with_type (slice_get p.floats i) (slice_get e 0)) (types_fit p is es)
    (begins (slice_get p.floats i) (slice_get e 0)) (types-decide p is es)

-- ---- expressions

symbols-decide : (x y : Symbol) → Decides (same_symbol x y) (x ≡ y)
symbols-decide (Const c) (Const d) = (λ e. ap Const ((Decides-eqb c d).0 e), λ e. let same : c ≡ d = cc in (Decides-eqb c d).1 same)
symbols-decide (Const c) (Var k) = (λ e. cc, λ e. cc)
symbols-decide (Var j) (Const d) = (λ e. cc, λ e. cc)
symbols-decide (Var j) (Var k) = (λ e. ap Var ((Decides-eqb j k).0 e), λ e. let same : j ≡ k = cc in (Decides-eqb j k).1 same)

pub expressions-decide : (d e : Expression) → Decides (same_expression d e) (d ≡ e)
expressions-decide d e = slice_eq-Decides symbols-decide d e _ refl

hypotheses-decide : (f : Frame) (es : List Expression) → Decides (hypotheses_fit f es) (HypothesesFit f es)
hypotheses-decide f es = slice_eq-Decides expressions-decide _ _ _ refl

-- ---- pairs

pub pairs-decide : (q r : ℕ × ℕ) → Decides (is_same_pair q r) (q ≡ r)
pairs-decide q r =
    Decides-like (is_same_pair q r) (λ h. λ i. (h.0 i, h.1 i)) (λ e. (ap (λ x. x.0) e, ap (λ x. x.1) e))
    (Decides-and (eqb q.0 r.0) (eqb q.1 r.1) (Decides-eqb q.0 r.0) (Decides-eqb q.1 r.1))

pub contains-decides : {X : Type 0} (test : X → X → Bool) → ((x y : X) → Decides (test x y) (x ≡ y)) → (xs : List X) (y : X)
    → Decides (list_any (λ x. test x y) xs) (Contains xs y)
contains-decides test each [] y = (λ h. absurd cc, λ h. let lt = h.1 in absurd (omega arith))
contains-decides test each (x ∷ xs) y =
    Decides-like (test x y || list_any (λ z. test z y) xs) to from
    (Decides-or (test x y) (list_any (λ z. test z y) xs) (each x y) (contains-decides test each xs y))
  where
    to : (x ≡ y) ⊎ Contains xs y → Contains (x ∷ xs) y
    to (inl e) = (0, omega arith, e)
    to (inr h) = (suc h.0, omega (arith, h.1), h.2)

    from : Contains (x ∷ xs) y → (x ≡ y) ⊎ Contains xs y
    from (zero, lt, e) = inl e
    from (suc k, lt, e) = inr (k, omega arith, e)

-- where both symbols are variables, they are apart
Apart : List (ℕ × ℕ) → Symbol → Symbol → Type 0
Apart pairs x y = (u v : ℕ) → x ≡ Var u → y ≡ Var v → IsApart pairs u v

apart-decides : (pairs : List (ℕ × ℕ)) (x y : Symbol) → Decides (symbols_apart pairs x y) (Apart pairs x y)
unfolding Apart
apart-decides pairs (Const c) y = (λ _ u v e k. absurd cc, λ _. refl)
apart-decides pairs (Var i) (Const d) = (λ _ u v e k. absurd cc, λ _. refl)
apart-decides pairs (Var i) (Var j) =
    Decides-like (symbols_apart pairs (Var i) (Var j))
    (λ h u v e k. let left : i ≡ u = cc in let right : j ≡ v = cc in rw (← left, ← right) (record { differ = h.0; paired = h.1 }))
    (λ h. let apart = h i j refl refl in (apart.differ, apart.paired))
    (Decides-and (not (eqb i j)) (list_any (λ q. is_same_pair q (in_order i j)) pairs) (Decides-not (eqb i j) (Decides-eqb i j))
    (contains-decides is_same_pair pairs-decide pairs (in_order i j)))

apart-all : (pairs : List (ℕ × ℕ)) (d e : Expression) → Decides (are_apart pairs d e) (AreApart pairs d e)
unfolding Apart
apart-all pairs d e =
    Decides-like (are_apart pairs d e)
    (λ h. record {
      apart = λ u v cu cv. All-contains (λ y. Apart pairs (Var u) y) e (Var v)
          (All-contains (λ x. All (λ y. Apart pairs x y) e) d (Var u) h cu) cv u v refl refl;
    })
    (λ h. λ k x lt. λ m y lt'. λ u v ex ey. h.apart u v (rw ex at (Contains-get_or d k x lt)) (rw ey at (Contains-get_or e m y lt')))
    (Decides-by_and (λ x. list_all (symbols_apart pairs x) e) (λ x. All (λ y. Apart pairs x y) e)
    (list_all (λ x. list_all (symbols_apart pairs x) e))
    (λ x. Decides-by_and (symbols_apart pairs x) (λ y. Apart pairs x y) (list_all (symbols_apart pairs x))
    (λ y. apart-decides pairs x y) refl (λ _ _. refl) e) refl (λ _ _. refl) d)

pairs_fit-decides : (a : Assertion) (f : Frame) (es : List Expression) → Decides (pairs_fit a f es) (PairsFit a f es)
pairs_fit-decides a f es =
    let s = substitution f.floats es in
    let test : ℕ × ℕ → Bool = λ q. are_apart a.pairs (replacement s q.0) (replacement s q.1) in
    Decides-by_and test (λ q. AreApart a.pairs (replacement s q.0) (replacement s q.1)) (list_all test)
    (λ q. apart-all a.pairs (replacement s q.0) (replacement s q.1)) refl (λ _ _. refl) f.pairs

-- ---- citations

-- what a citation comes to: the expression that it gives, or the first test that fails
abbrev pub IsCited : Tables → Assertion → Frame → List Expression → Result Expression ProofFaultKind → Type 0
IsCited p a f es (Ok e) = Gives p a f es e
IsCited p a f es (Err kind) = FailsTest p a f es kind

unless : (C : Result Expression ProofFaultKind → Type 0) {P : Type 0} (b : Bool) (kind : ProofFaultKind)
    (later : Result Expression ProofFaultKind) → Decides b P → ((P → ⊥) → C (Err kind)) → (P → C later) → C (cond (not b) (Err kind) later)
unless C true kind later d fails passes = passes (d.0 refl)
unless C false kind later d fails passes = fails (not_from_Decides false d refl)

too_long : (p : Tables) (a : Assertion) (f : Frame) (es : List Expression) (b : Bool) → length es ≡ arity f
    → Decides b (65535 < length (conclusion f es)) → TypesFit p f es → HypothesesFit f es → PairsFit a f es
    → IsCited p a f es (cond b (Err TooLong) (Ok (conclusion f es)))
too_long p a f es true n d t h k = (t, h, k, d.0 refl)
too_long p a f es false n d t h k =
    let short : length (conclusion f es) ≤ 65535 = omega (arith, not_from_Decides false d refl) in
    record { one_each = n; types = t; hypotheses = h; pairs = k; is_conclusion = refl; short = short }

pub cited-is : (p : Tables) (a : Assertion) (f : Frame) (es : List Expression) → length es ≡ arity f → IsCited p a f es (cited p a f es)
cited-is p a f es n =
    let C = λ (r : Result Expression ProofFaultKind). IsCited p a f es r in
    unless C (types_fit p f.floats es) WrongType _ (types-decide p f.floats es) (λ no. no)
    (λ t. unless C (hypotheses_fit f es) HypothesisDiffers _ (hypotheses-decide f es) (λ no. (t, no))
    (λ h. unless C (pairs_fit a f es) NotDisjoint _ (pairs_fit-decides a f es) (λ no. (t, h, no))
    (λ k. too_long p a f es _ n (Decides-ltb 65535 (length (conclusion f es))) t h k)))
