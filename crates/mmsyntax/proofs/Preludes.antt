-- The canonical statements of a sound prelude declare it.
use Rattle.std.proofs.Common.{◌≡◌, ℕ, ◌<◌, ◌≤◌, false, eqb, List, [], ◌∷◌, ◌++◌, length, map, Some, None, Ok, Err, refl, sym, ap, subst}
use Rattle.std.proofs.Common.{◌∙◌, arith, append_assoc, length-append}
use Rattle.std.specs.List.{list_any, AllByRecursion}
use Rattle.std.specs.Str.{bytes_eq}
use Rattle.std.proofs.lemmas.Bool.{cond-false, lt-leb}
use Rattle.std.proofs.lemmas.List.{append-nil, map-append}
use Rattle.mmsyntax.specs.declared.statement.Float.{Float}
use Rattle.mmsyntax.specs.declared.symbols.Name.TheVariants.{Variable}
use Rattle.mmtext.specs.declared.fault.FaultKind.TheVariants.{UnknownSymbol}
use Rattle.mmtext.specs.Words.{Word, has_dollar}
use Rattle.mmsyntax.specs.Tables.{Tables, place_of, float_of, named, meaning}
use Rattle.mmsyntax.specs.Rows.{Known, nothing, is_used, Pass, symbol_tests, float_label_tests, type_named, type_of, variable_named}
use Rattle.mmsyntax.specs.Rows.{variable_of}
use Rattle.mmsyntax.specs.Grammar.{Statement, DeclaresConstants, DeclaresVariables, Declares, DeclareAll}
use Rattle.mmsyntax.specs.Layout.{word_at, constants_of, variables_of, float_statement, canonical_prelude}
use Rattle.mmsyntax.specs.Assertions.{Distinct}
use Rattle.mmsyntax.proofs.Names.{bytes_eq-sym}
use Rattle.mmsyntax.proofs.Distinct.{distinct_front, distinct_left, distinct_right, cross, place_of-item, place_of-absent, float_labels}
use Rattle.mmsyntax.proofs.Distinct.{prelude_names, is_some-meaning, not_used}
use Rattle.mmsyntax.proofs.Sound.{IsSymbolWord, IsLabelWord, bare, IsFloatSound, AreSound, variables_used, any_swap, eqb-sym}
use Rattle.mmsyntax.proofs.Again.{none_cond, plain_at}

-- ---- tests pass

symbol_pass : (k : Known) (n : ℕ) (w : Word) → IsSymbolWord w → is_used k w ≡ false → n < 65535 → Pass (symbol_tests k n w)
symbol_pass k n w s new room = none_cond _ _ _ s.no_dollar
    (none_cond _ _ _ s.short (none_cond _ _ _ s.form (none_cond _ _ _ new (none_cond _ _ _ (lt-leb 65535 n room) refl))))

float_label_pass : (k : Known) (w : Word) → IsLabelWord w → is_used k w ≡ false → length k.tables.floats < 65535
    → Pass (float_label_tests k w)
float_label_pass k w s new room =
    none_cond _ _ _ s.plain (none_cond _ _ _ new (none_cond _ _ _ (lt-leb 65535 (length k.tables.floats) room) refl))

-- a word that differs from all names of the tables before it
is_new : (t : Tables) (before : List Word) (w : Word) (later : List Word) → prelude_names t ≡ before
    → Distinct bytes_eq (before ++ w ∷ later) → is_used (bare t) w ≡ false
is_new t before w later e d =
    not_used (bare t) w (record {
      not_named = is_some-meaning t w ∙ ap (list_any (bytes_eq w)) e
          ∙ distinct_front bytes_eq bytes_eq-sym before later w d;
      not_label = refl;
      not_hypothesis = refl;
    })

pub declare_append : (k m n : Known) (a b : List Statement) → DeclareAll k a m → DeclareAll m b n → DeclareAll k (a ++ b) n
declare_append k m n [] b d e = subst (λ x. DeclareAll x b n) (sym d) e
declare_append k m n (s ∷ a) b d e = (d.0, d.1, declare_append d.0 m n a b d.2 e)

-- ---- $c

abbrev k0 : List Word → Known
k0 cs = bare (record { constants = cs; variables = []; floats = [] })

constants_declare : (front rest later : List Word) → AllByRecursion IsSymbolWord rest → Distinct bytes_eq (front ++ (rest ++ later))
    → length (front ++ rest) ≤ 65535 → DeclaresConstants (k0 front) rest (k0 (front ++ rest))
constants_declare front [] later h d fit = ap k0 (sym (append-nil front))
constants_declare front (w ∷ rest) later h d fit = (
  symbol_pass (k0 front) (length front) w h.0 (is_new (record { constants = front; variables = []; floats = [] }) front w (rest ++ later)
      (append-nil front) d) (omega (arith, length-append front (w ∷ rest))),
  subst (λ cs. DeclaresConstants (k0 (front ++ w ∷ [])) rest (k0 cs)) (append_assoc front (w ∷ []) rest)
      (constants_declare (front ++ w ∷ []) rest later h.1 (subst (Distinct bytes_eq) (sym (append_assoc front (w ∷ []) (rest ++ later))) d)
      (omega (arith, length-append front (w ∷ rest), length-append (front ++ w ∷ []) rest, length-append front (w ∷ [])))),
)

constants_first : (cs later : List Word) → AllByRecursion IsSymbolWord cs → Distinct bytes_eq (cs ++ later) → length cs ≤ 65535
    → DeclareAll nothing (constants_of cs) (k0 cs)
constants_first [] later h d fit = refl
constants_first (w ∷ ws) later h d fit = (k0 (w ∷ ws), (refl, (λ x. absurd cc), constants_declare [] (w ∷ ws) later h d fit), refl)

-- ---- $v

module _ (cs : List Word) where
  abbrev k1 : List Word → Known
  k1 vs = bare (record { constants = cs; variables = vs; floats = [] })

  variables_declare : (front rest later : List Word) → AllByRecursion IsSymbolWord rest
      → Distinct bytes_eq ((cs ++ front) ++ (rest ++ later)) → length (front ++ rest) ≤ 65535
      → DeclaresVariables (k1 front) rest (k1 (front ++ rest))
  variables_declare front [] later h d fit = ap k1 (sym (append-nil front))
  variables_declare front (w ∷ rest) later h d fit = (
    symbol_pass (k1 front) (length front) w h.0 (is_new (record { constants = cs; variables = front; floats = [] }) (cs ++ front) w
        (rest ++ later) (ap (λ x. cs ++ x) (append-nil front)) d) (omega (arith, length-append front (w ∷ rest))),
    subst (λ vs. DeclaresVariables (k1 (front ++ w ∷ [])) rest (k1 vs)) (append_assoc front (w ∷ []) rest)
        (variables_declare (front ++ w ∷ []) rest later h.1
        (subst (Distinct bytes_eq) (sym (append_assoc (cs ++ front) (w ∷ []) (rest ++ later))
        ∙ ap (λ x. x ++ (rest ++ later)) (append_assoc cs front (w ∷ []))) d)
        (omega (arith, length-append front (w ∷ rest), length-append (front ++ w ∷ []) rest, length-append front (w ∷ [])))),
  )

  variables_then : (vs later : List Word) → AllByRecursion IsSymbolWord vs → Distinct bytes_eq (cs ++ (vs ++ later)) → length vs ≤ 65535
      → DeclareAll (k1 []) (variables_of vs) (k1 vs)
  variables_then [] later h d fit = refl
  variables_then (w ∷ ws) later h d fit = (
    k1 (w ∷ ws),
    (
      refl,
      (λ x. absurd cc),
      variables_declare [] (w ∷ ws) later h
          (subst (λ x. Distinct bytes_eq (x ++ ((w ∷ ws) ++ later))) (sym (append-nil cs)) d) fit,
    ),
    refl,
  )

-- ---- $f

type_again : (t : Tables) (w : Word) (i : ℕ) → has_dollar w ≡ false → place_of (bytes_eq w) t.constants ≡ Some i → type_of t w ≡ Ok i
unfolding type_of meaning
type_again t w i plain at = cond-false (has_dollar w) (Err UnknownSymbol) _ plain
    ∙ ap (λ c. type_named (named t.floats c (place_of (bytes_eq w) t.variables) (place_of (λ f. bytes_eq w f.label) t.floats))) at

variable_again : (t : Tables) (w : Word) (v : ℕ) → has_dollar w ≡ false → place_of (bytes_eq w) t.constants ≡ None
    → place_of (bytes_eq w) t.variables ≡ Some v → float_of t.floats v ≡ None → variable_of t w ≡ Ok v
unfolding variable_of meaning
variable_again t w v plain c at free =
    cond-false (has_dollar w) (Err UnknownSymbol) _ plain
    ∙ ap (λ c. variable_named (named t.floats c (place_of (bytes_eq w) t.variables) (place_of (λ f. bytes_eq w f.label) t.floats))) c
    ∙ ap (λ p. variable_named (named t.floats None p (place_of (λ f. bytes_eq w f.label) t.floats))) at
    ∙ ap (λ o. variable_named (Some (Variable v o))) free

module _ (t : Tables) (s : AreSound t) where
  abbrev t2 : List Float → Tables
  t2 fs = record { constants = t.constants; variables = t.variables; floats = fs }

  different : Distinct bytes_eq (t.constants ++ t.variables)
  different = distinct_left bytes_eq (t.constants ++ t.variables) (float_labels t.floats)
      (subst (Distinct bytes_eq) (sym (append_assoc t.constants t.variables (float_labels t.floats))) s.distinct)

  float_free : (front rest : List Float) (f : Float) → Distinct eqb (variables_used (front ++ f ∷ rest)) → float_of front f.variable ≡ None
  float_free front rest f d = place_of-absent (λ g. eqb g.variable f.variable) front
      (any_swap front f.variable ∙ distinct_front eqb eqb-sym (variables_used front) (variables_used rest) f.variable
      (subst (Distinct eqb) (map-append (λ g. g.variable) front (f ∷ rest)) d))

  float_declares : (front rest : List Float) (f : Float) (later : List Word) → IsFloatSound t f
      → Distinct bytes_eq ((t.constants ++ (t.variables ++ float_labels front)) ++ f.label ∷ later)
      → Distinct eqb (variables_used (front ++ f ∷ rest)) → length front < 65535
      → Declares (bare (t2 front)) (float_statement t f) (bare (t2 (front ++ f ∷ [])))
  float_declares front rest f later x d apart room =
      let c = plain_at t.constants f.type_code s.constants_sound x.type_within in
      let v = plain_at t.variables f.variable s.variables_sound x.variable_within in (
        refl,
        x.label.label,
        float_label_pass (bare (t2 front)) f.label x.label
            (is_new (t2 front) (t.constants ++ (t.variables ++ float_labels front)) f.label later refl d) room,
        (
          f.type_code,
          f.variable,
          type_again (t2 front) (word_at t.constants f.type_code) f.type_code c.no_dollar
              (place_of-item t.constants f.type_code (distinct_left bytes_eq t.constants t.variables different) x.type_within),
          variable_again (t2 front) (word_at t.variables f.variable) f.variable v.no_dollar
              (place_of-absent (bytes_eq (word_at t.variables f.variable)) t.constants
              (cross t.constants t.variables f.variable different x.variable_within))
              (place_of-item t.variables f.variable (distinct_right bytes_eq t.constants t.variables different) x.variable_within)
              (float_free front rest f apart),
          refl,
        ),
      )

  floats_declare : (front rest : List Float) → AllByRecursion (IsFloatSound t) rest
      → Distinct bytes_eq ((t.constants ++ (t.variables ++ float_labels front)) ++ float_labels rest)
      → Distinct eqb (variables_used (front ++ rest)) → length (front ++ rest) ≤ 65535
      → DeclareAll (bare (t2 front)) (map (float_statement t) rest) (bare (t2 (front ++ rest)))
  floats_declare front [] h d apart fit = ap (λ fs. bare (t2 fs)) (sym (append-nil front))
  floats_declare front (f ∷ rest) h d apart fit =
      let more : (t.constants ++ (t.variables ++ float_labels front)) ++ f.label ∷ float_labels rest
      ≡ (t.constants ++ (t.variables ++ float_labels (front ++ f ∷ []))) ++ float_labels rest =
      sym (append_assoc (t.constants ++ (t.variables ++ float_labels front)) (f.label ∷ []) (float_labels rest))
      ∙ ap (λ x. x ++ float_labels rest) (append_assoc t.constants (t.variables ++ float_labels front) (f.label ∷ [])
      ∙ ap (λ x. t.constants ++ x) (append_assoc t.variables (float_labels front) (f.label ∷ [])
      ∙ ap (λ x. t.variables ++ x) (sym (map-append (λ g. g.label) front (f ∷ []))))) in (
        bare (t2 (front ++ f ∷ [])),
        float_declares front rest f (float_labels rest) h.0 d apart (omega (arith, length-append front (f ∷ rest))),
        subst (λ fs. DeclareAll (bare (t2 (front ++ f ∷ []))) (map (float_statement t) rest) (bare (t2 fs)))
            (append_assoc front (f ∷ []) rest)
            (floats_declare (front ++ f ∷ []) rest h.1 (subst (Distinct bytes_eq) more d)
            (subst (λ fs. Distinct eqb (variables_used fs)) (sym (append_assoc front (f ∷ []) rest)) apart)
            (omega (arith, length-append front (f ∷ rest), length-append (front ++ f ∷ []) rest, length-append front (f ∷ [])))),
      )

  -- the statements of the prelude declare it, before any assertion
  pub prelude_declares : DeclareAll nothing (canonical_prelude t) (bare t)
  prelude_declares =
      let cs = t.constants in
      let vs = t.variables in
      let ls = float_labels t.floats in
      let d = s.distinct in
      let df : Distinct bytes_eq ((cs ++ (vs ++ [])) ++ ls) =
      subst (λ x. Distinct bytes_eq ((cs ++ x) ++ ls)) (sym (append-nil vs))
      (subst (Distinct bytes_eq) (sym (append_assoc cs vs ls)) d) in
      declare_append nothing (k0 cs) (bare t) (constants_of cs) _ (constants_first cs (vs ++ ls) s.constants_sound d s.constants_fit)
      (declare_append (k1 cs []) (k1 cs vs) (bare t) (variables_of vs) (map (float_statement t) t.floats)
      (variables_then cs vs ls s.variables_sound d s.variables_fit)
      (floats_declare [] t.floats s.floats_sound df s.apart s.floats_fit))
