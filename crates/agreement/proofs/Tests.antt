-- The tests of types and of hypotheses: a citation passes them in the source just where it passes them in the library.
use Rattle.std.proofs.Common.{◌≡◌, ℕ, true, List, [], ◌∷◌, ◌++◌, map, length, refl, sym, ap, ◌∙◌, subst, inl, inr}
use Rattle.std.proofs.Common.{arith}
use mathlib.Core.Path.{ap₂}
use Rattle.std.specs.Prelude.{Some, ◌↔◌, filter, zip, slice_get}
use Rattle.std.specs.List.{list_any, list_all, AllByRecursion}
use Rattle.std.specs.Str.{bytes_eq}
use Rattle.std.proofs.lemmas.Bool.{cases_Bool, cond-true, cond-false, and_parts, and_from, or_left, or_right}
use Rattle.std.proofs.lemmas.Option.{same_Some}
use Rattle.std.proofs.lemmas.Slice.Eq.{slice_eq-Decides, bytes_eq-Decides}
use Rattle.mmtext.specs.Words.{Word}
use Rattle.mmsyntax.specs.declared.statement.Symbol.{Symbol}
use Rattle.mmsyntax.specs.declared.statement.Assertion.{Assertion as Unit'}
use Rattle.mmsyntax.specs.Tables.{Tables}
use Rattle.mmsyntax.proofs.Names.{bytes_eq-same, same_bytes, same_place}
use Rattle.mmframes.specs.Substitution as by_place
use Rattle.source.specs.Scopes.{Hypothesis, typing, premise, Assertion, stands_in, is_mandatory}
use Rattle.derivation.specs.Derivation.{HasType, HaveTypes}
use Rattle.taking.specs.Names.{Map, constant_in, float_in}
use Rattle.taking.specs.Says.{each, symbol_in, expression_in, premises, IsFloatTaken}
use Rattle.taking.specs.Listings.{at_floats, at_premises}
use Rattle.verifying.specs.Citations.{Expression, same_expression, begins_with, has_type, is_instance}
use Rattle.verifying.specs.Citations.{subst as subst_words}
use Rattle.agreement.proofs.Actives.{labels_of_floats}
use Rattle.agreement.proofs.Symbols.{of_constant, is_constant, one_expression}
use Rattle.agreement.proofs.Said.{IsSaid, all_kept}
use Rattle.agreement.proofs.Substituted.{each_cons, each_short, each_long, IsSound, AreIn, words_put, symbols_put, all_replaced, premise_replaced}

-- ---- hypotheses

abbrev pub IsStanding : List Hypothesis → Hypothesis → Type 0
IsStanding all h = (w : Word) → stands_in w h ≡ true → list_any (stands_in w) all ≡ true

pub all_standing : (hs : List Hypothesis) → AllByRecursion (IsStanding hs) hs
all_standing hs = among hs hs (λ w h. h)
  where
    among : (all hs : List Hypothesis) → ((w : Word) → list_any (stands_in w) hs ≡ true → list_any (stands_in w) all ≡ true)
        → AllByRecursion (IsStanding all) hs
    among all [] f = tt
    among all (h ∷ hs) f = (
      λ w s. f w (or_left (stands_in w h) (list_any (stands_in w) hs) s),
      among all hs (λ w s. f w (or_right (stands_in w h) (list_any (stands_in w) hs) s)),
    )

-- each $e is mandatory
pub premises_kept : (active : List Hypothesis) (statement : List Word) (hs : List Hypothesis)
    → premises (filter (is_mandatory active statement) hs) ≡ premises hs
premises_kept active statement [] = refl
premises_kept active statement (premise label ws ∷ hs) = ap (λ es. ws ∷ es) (premises_kept active statement hs)
premises_kept active statement (typing label c v ∷ hs) =
    let test = is_mandatory active statement in
    let rest = filter test hs in
    elim (cases_Bool (test (typing label c v))) [
      | inl y ↦ ap premises (cond-true (test (typing label c v)) (typing label c v ∷ rest) rest y) ∙ premises_kept active statement hs
      | inr n ↦ ap premises (cond-false (test (typing label c v)) (typing label c v ∷ rest) rest n) ∙ premises_kept active statement hs
    ]

module _ (m : Map) (t : Tables) (x c : Assertion) (a b : Unit') (sx : IsSaid m t x a) (sc : IsSaid m t c b) where
  -- ---- types

  pub begins_agree : (label d v : Word) (k : ℕ) (e : Expression) (z : List Symbol) → IsFloatTaken m t (typing label d v)
      → float_in m label ≡ Some k → expression_in m x.active e ≡ Some z → (begins_with d e ≡ true) ↔ HasType t k z
  begins_agree label d v k [] [] f at i = (λ h. absurd cc, λ h. let no = h.2 in absurd cc)
  begins_agree label d v k [] (y ∷ ys) f at i = absurd (each_long (symbol_in m x.active) y ys i)
  begins_agree label d v k (w ∷ e) [] f at i = absurd (each_short (symbol_in m x.active) w e i)
  begins_agree label d v k (w ∷ e) (y ∷ ys) f at i =
      let parts = each_cons (symbol_in m x.active) w e y ys i in
      let place : f.0 ≡ k = same_Some f.0 k (sym f.2 ∙ at) in
      let there : slice_get t.floats k ≡ Some f.1 = ap (slice_get t.floats) (sym place) ∙ f.3 in (
        λ h. (
          f.1,
          there,
          sym parts.0 ∙ of_constant m x.active w f.1.type_code (ap (constant_in m) (sym (same_bytes d w h)) ∙ f.4),
        ),
        λ h.
            let same : f.1 ≡ h.0 = same_Some f.1 h.0 (sym there ∙ h.1) in
            let is : constant_in m w ≡ Some h.0.type_code = is_constant m x.active w h.0.type_code (parts.0 ∙ h.2) in
            let one : d ≡ w = same_place d w m.constants h.0.type_code (f.4 ∙ ap (λ g. Some g.type_code) same) is in
            ap (bytes_eq d) (sym one) ∙ bytes_eq-same d,
      )

  pub types_agree : (hs : List Hypothesis) (es : List Expression) (zs rest : List (List Symbol)) (js : List ℕ) → length hs ≡ length es
      → AreIn m t x c a b sx sc es zs → each (float_in m) (labels_of_floats hs) ≡ Some js → AllByRecursion (IsSound m t c.active) hs
      → (list_all (λ p. has_type p.0 p.1) (zip hs es) ≡ true) ↔ HaveTypes t js (at_floats hs zs ++ rest)
  types_agree [] es zs rest [] n i p s = (λ h. tt, λ h. refl)
  types_agree [] es zs rest (k ∷ js) n i p s = absurd (each_long (float_in m) k js p)
  types_agree (h ∷ hs) [] zs rest js n i p s = absurd (omega arith)
  types_agree (h ∷ hs) (e ∷ es) [] rest js n i p s = absurd (each_short (expression_in m x.active) e es i)
  types_agree (premise label ws ∷ hs) (e ∷ es) (z ∷ zs) rest js n i p s =
      types_agree hs es zs rest js (omega arith) (each_cons (expression_in m x.active) e es z zs i).1 p s.1
  types_agree (typing label d v ∷ hs) (e ∷ es) (z ∷ zs) rest [] n i p s = absurd (each_short (float_in m) label (labels_of_floats hs) p)
  types_agree (typing label d v ∷ hs) (e ∷ es) (z ∷ zs) rest (k ∷ js) n i p s =
      let ins = each_cons (expression_in m x.active) e es z zs i in
      let at = each_cons (float_in m) label (labels_of_floats hs) k js p in
      let here = begins_agree label d v k e z s.0.1 at.0 ins.0 in
      let later = types_agree hs es zs rest js (omega arith) ins.1 at.1 s.1 in (
        λ h.
            let both = and_parts (begins_with d e) (list_all (λ p. has_type p.0 p.1) (zip hs es)) h in
            (here.0 both.0, later.0 both.1),
        λ h. and_from (begins_with d e) (list_all (λ p. has_type p.0 p.1) (zip hs es)) (here.1 h.0) (later.1 h.1),
      )

  -- ---- $e

  module _ (es : List Expression) (zs rest : List (List Symbol)) (long : length c.hypotheses ≡ length es)
      (ins : AreIn m t x c a b sx sc es zs) (sound : AllByRecursion (IsSound m t c.active) c.hypotheses) where
    abbrev pub put_words : List (Word × Expression)
    put_words = words_put m t x c a b sx sc es zs rest long ins sound

    abbrev pub put_symbols : List (ℕ × List Symbol)
    put_symbols = symbols_put m t x c a b sx sc es zs rest long ins sound

    instance_agrees : (label : Word) (ws : List Word) (ys : List Symbol) (e : Expression) (z : List Symbol)
        → expression_in m c.active ws ≡ Some ys → expression_in m x.active e ≡ Some z → IsStanding c.active (premise label ws)
        → (same_expression (subst_words put_words ws) e ≡ true) ↔ (by_place.subst put_symbols ys ≡ z)
    instance_agrees label ws ys e z h i s =
        let put = all_replaced m t x c a b sx sc es zs rest long ins sound ws ys h
        (premise_replaced m t x c a b sx sc es zs rest long ins sound label ws s) in
        let test = slice_eq-Decides bytes_eq-Decides (subst_words put_words ws) e (same_expression (subst_words put_words ws) e) refl in (
          λ y. same_Some (by_place.subst put_symbols ys) z (sym put ∙ ap (expression_in m x.active) (test.0 y) ∙ i),
          λ same. test.1 (one_expression m x.active t sx.taken (subst_words put_words ws) e z (put ∙ ap (λ q. Some q) same) i),
        )

    hypotheses_agree : (hs : List Hypothesis) (ds : List Expression) (ys us : List (List Symbol)) → length hs ≡ length ds
        → AreIn m t x c a b sx sc ds ys → each (expression_in m c.active) (premises hs) ≡ Some us
        → AllByRecursion (IsStanding c.active) hs
        → (list_all (λ p. is_instance put_words p.0 p.1) (zip hs ds) ≡ true) ↔ (map (by_place.subst put_symbols) us ≡ at_premises hs ys)
    hypotheses_agree [] ds ys [] n i h s = (λ _. refl, λ _. refl)
    hypotheses_agree [] ds ys (u ∷ us) n i h s = absurd (each_long (expression_in m c.active) u us h)
    hypotheses_agree (k ∷ hs) [] ys us n i h s = absurd (omega arith)
    hypotheses_agree (k ∷ hs) (d ∷ ds) [] us n i h s = absurd (each_short (expression_in m x.active) d ds i)
    hypotheses_agree (typing label q v ∷ hs) (d ∷ ds) (y ∷ ys) us n i h s =
        hypotheses_agree hs ds ys us (omega arith) (each_cons (expression_in m x.active) d ds y ys i).1 h s.1
    hypotheses_agree (premise label ws ∷ hs) (d ∷ ds) (y ∷ ys) [] n i h s =
        absurd (each_short (expression_in m c.active) ws (premises hs) h)
    hypotheses_agree (premise label ws ∷ hs) (d ∷ ds) (y ∷ ys) (u ∷ us) n i h s =
        let is = each_cons (expression_in m x.active) d ds y ys i in
        let says = each_cons (expression_in m c.active) ws (premises hs) u us h in
        let here = instance_agrees label ws u d y says.0 is.0 s.0 in
        let later = hypotheses_agree hs ds ys us (omega arith) is.1 says.1 s.1 in
        let first = same_expression (subst_words put_words ws) d in
        let others = list_all (λ p. is_instance put_words p.0 p.1) (zip hs ds) in (
          λ e.
              let both = and_parts first others e in
              ap₂ (λ (p : List Symbol) (ps : List (List Symbol)). p ∷ ps) (here.0 both.0) (later.0 both.1),
          λ e.
              let head : by_place.subst put_symbols u ≡ y = cc in
              let tail : map (by_place.subst put_symbols) us ≡ at_premises hs ys = cc in
              and_from first others (here.1 head) (later.1 tail),
        )

    pub all_hypotheses_agree
        : (list_all (λ p. is_instance put_words p.0 p.1) (zip c.hypotheses es) ≡ true)
        ↔ (map (by_place.subst put_symbols) b.hyps ≡ at_premises c.hypotheses zs)
    all_hypotheses_agree =
        let same : premises c.hypotheses ≡ premises c.active =
        ap premises (sym sc.mandatory) ∙ premises_kept c.active c.statement c.active in
        hypotheses_agree c.hypotheses es zs b.hyps long ins (ap (each (expression_in m c.active)) same ∙ sc.says.hyps)
        (subst (AllByRecursion (IsStanding c.active)) sc.mandatory
        (all_kept (IsStanding c.active) (is_mandatory c.active c.statement) c.active (all_standing c.active)))
