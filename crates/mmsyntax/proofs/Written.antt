-- The words of canonical statements may stand in a text: none is empty, has white space, or opens a comment.
use Rattle.std.proofs.Common.{◌≡◌, ℕ, suc, ◌+◌, ◌^◌, ◌<◌, ◌≤◌, true, false, List, [], ◌∷◌, ◌++◌, length, map, refl, sym, ap, subst, arith}
use Rattle.std.specs.Prelude.{IsTrue, is_some, codes}
use mathlib.Core.Bool.{not}
use Rattle.std.specs.List.{flat_map, AllByRecursion}
use Rattle.std.specs.Str.{bytes_eq}
use Rattle.std.proofs.lemmas.List.Concat.{flat_map-cons}
use Rattle.std.proofs.lemmas.List.Elements.{recursion_from_All}
use Rattle.mmsyntax.specs.declared.statement.Symbol.{Symbol}
use Rattle.mmsyntax.specs.declared.statement.Symbol.TheVariants.{Var}
use Rattle.mmsyntax.specs.declared.statement.Kind.{Kind}
use Rattle.mmsyntax.specs.declared.statement.Kind.TheVariants.{Axiom, Theorem}
use Rattle.mmsyntax.specs.declared.statement.Step.{Step}
use Rattle.mmsyntax.specs.declared.statement.Step.TheVariants.{Float as FloatStep, Hyp, Cite}
use Rattle.mmsyntax.specs.declared.statement.Float.{Float}
use Rattle.mmsyntax.specs.declared.statement.Assertion.{Assertion}
use Rattle.mmtext.specs.Words.{Word, has_dollar, is_label}
use Rattle.mmtext.specs.Text.{is_printable}
use Rattle.mmsyntax.specs.Tables.{Tables, meaning}
use Rattle.mmsyntax.specs.Steps.{float_named}
use Rattle.mmsyntax.specs.Grammar.{Claim, Piece, Statement, claim_spelling, piece_spelling, spelling}
use Rattle.mmsyntax.specs.Layout.{word_at, hypothesis_label, symbol_word, step_word, constants_of, variables_of, float_statement}
use Rattle.mmsyntax.specs.Layout.{distinct_pieces, hypothesis_pieces, claim_of_kind, claim_of, unit_of, unit_statement, canonical_prelude}
use Rattle.mmsyntax.specs.Assertions.{IsSymbolOf, IsExpression, IsPairOf, IsNameable, IsUnit, is_lawful_label}
use Rattle.mmsyntax.proofs.Distinct.{all_append, all_map}
use Rattle.mmsyntax.proofs.Lines.{IsWord, IsWritten}
use Rattle.mmsyntax.specs.Preludes.{IsSymbolWord, IsFloatSound, AreSound}
use Rattle.mmsyntax.proofs.Numbered.{differ, number_label, number_word}
use Rattle.mmsyntax.proofs.Again.{IsPlainLabel, plain_label, label_word, plain_at, symbol_is_word, float_sound}

-- the statements of the canonical text: the prelude's, then each assertion's
abbrev pub canonical : Tables → List Assertion → List Statement
canonical t xs = canonical_prelude t ++ map (unit_statement t) xs

-- a $ before a byte that opens no comment
pub keyword : (b : ℕ) → is_printable b ≡ true → bytes_eq (36 ∷ b ∷ []) (codes "$(") ≡ false → IsWritten (36 ∷ b ∷ [])
keyword b printable other = (((λ x. absurd cc), (refl, (printable, tt))), other)

end_word : IsWritten (codes "$.")
end_word = keyword 46 refl refl

symbol_written : (w : Word) → IsSymbolWord w → IsWritten w
symbol_written w h = (h.word, differ (λ v. not (has_dollar v)) w (codes "$(") (ap not h.no_dollar) refl)

pub label_written : (w : Word) → IsWord w → is_label w ≡ true → IsWritten w
label_written w h label = (h, differ is_label w (codes "$(") label refl)

all_flat : {A : Type 0} (f : A → List Word) (xs : List A) → AllByRecursion (λ x. AllByRecursion IsWritten (f x)) xs
    → AllByRecursion IsWritten (flat_map f xs)
all_flat f [] h = tt
all_flat f (x ∷ xs) h = subst (AllByRecursion IsWritten) (sym (flat_map-cons f x xs))
    (all_append IsWritten (f x) (flat_map f xs) h.0 (all_flat f xs h.1))

symbols_written : (ws : List Word) → AllByRecursion IsSymbolWord ws → AllByRecursion IsWritten ws
symbols_written [] h = tt
symbols_written (w ∷ ws) h = (symbol_written w h.0, symbols_written ws h.1)

-- words between a keyword and the end
ended : (ws : List Word) → AllByRecursion IsWritten ws → AllByRecursion IsWritten (ws ++ codes "$." ∷ [])
ended ws h = all_append IsWritten ws (codes "$." ∷ []) h (end_word, tt)

-- the words of a statement, and of a piece, may stand in a text
AreWritten : Statement → Type 0
AreWritten st = AllByRecursion IsWritten (spelling st)

ArePieceWords : Piece → Type 0
ArePieceWords p = AllByRecursion IsWritten (piece_spelling p)

constants_written : (cs : List Word) → AllByRecursion IsSymbolWord cs → AllByRecursion AreWritten (constants_of cs)
unfolding AreWritten
constants_written [] h = tt
constants_written (w ∷ ws) h = ((keyword 99 refl refl, ended (w ∷ ws) (symbols_written (w ∷ ws) h)), tt)

variables_written : (vs : List Word) → AllByRecursion IsSymbolWord vs → AllByRecursion AreWritten (variables_of vs)
unfolding AreWritten
variables_written [] h = tt
variables_written (w ∷ ws) h = ((keyword 118 refl refl, ended (w ∷ ws) (symbols_written (w ∷ ws) h)), tt)

module _ (t : Tables) (s : AreSound t) where
  float_written : (f : Float) → IsFloatSound t f → AreWritten (float_statement t f)
  unfolding AreWritten
  float_written f x = (
    label_written f.label x.label.word x.label.label,
    (
      keyword 102 refl refl,
      (
        symbol_written (word_at t.constants f.type_code) (plain_at t.constants f.type_code s.constants_sound x.type_within),
        (
          symbol_written (word_at t.variables f.variable) (plain_at t.variables f.variable s.variables_sound x.variable_within),
          (end_word, tt),
        ),
      ),
    ),
  )

  -- the words of an expression
  expression_written : (e : List Symbol) → IsExpression t e → AllByRecursion IsWritten (map (symbol_word t) e)
  expression_written e h = all_map (IsSymbolOf t) IsWritten (symbol_word t) e
      (λ x y. symbol_written (symbol_word t x) (symbol_is_word t s x y)) (recursion_from_All (IsSymbolOf t) e h.symbols)

  pairs_written : (ps : List (ℕ × ℕ)) → AllByRecursion (IsPairOf (length t.floats)) ps → AllByRecursion ArePieceWords (distinct_pieces t ps)
  unfolding ArePieceWords
  pairs_written [] h = tt
  pairs_written (p ∷ ps) h =
      let lt : p.0 < p.1 = h.0.0 in
      let within : p.1 < length t.floats = h.0.1 in
      let first : p.0 < length t.floats = omega arith in (
        (
          keyword 100 refl refl,
          (
            symbol_written (symbol_word t (Var p.0)) (symbol_is_word t s (Var p.0) first),
            (symbol_written (symbol_word t (Var p.1)) (symbol_is_word t s (Var p.1) within), (end_word, tt)),
          ),
        ),
        pairs_written ps h.1,
      )

  hypotheses_written : (label : Word) → is_label label ≡ true → (n : ℕ) (es : List (List Symbol)) → n + length es ≤ 1000
      → AllByRecursion (IsExpression t) es → AllByRecursion ArePieceWords (hypothesis_pieces t label n es)
  unfolding ArePieceWords
  hypotheses_written label is_l n [] fit h = tt
  hypotheses_written label is_l n (e ∷ es) fit h =
      let small : suc n < 2 ^ 64 = omega arith in
      let w = hypothesis_label label (suc n) in (
        (
          label_written w (number_word label (suc n) is_l small) (number_label label (suc n) is_l small),
          (keyword 101 refl refl, ended (map (symbol_word t) e) (expression_written e h.0)),
        ),
        hypotheses_written label is_l (suc n) es (omega arith) h.1,
      )

  pub step_written : (label : Word) → is_label label ≡ true → (count : ℕ) → count ≤ 1000 → (x : Step) → IsNameable t count x
      → IsWritten (step_word t label x)
  step_written label is_l count few (FloatStep j) lt = let f = (float_sound t s j lt).label in label_written _ f.word f.label
  step_written label is_l count few (Hyp n) lt =
      let within : n < count = lt in
      let small : suc n < 2 ^ 64 = omega arith in
      label_written (hypothesis_label label (suc n)) (number_word label (suc n) is_l small) (number_label label (suc n) is_l small)
  step_written label is_l count few (Cite w) h =
      let p = plain_label w (is_some (float_named (meaning t w))) h in
      label_written w (label_word w (is_some (float_named (meaning t w))) p) p.label

  claim_written : (a : Assertion) (kind : Kind) → IsUnit t a → IsPlainLabel a.label (is_some (meaning t a.label))
      → AllByRecursion IsWritten (claim_spelling
      (claim_of_kind kind a.label (map (symbol_word t) a.statement) (map (step_word t a.label) a.proof)))
  claim_written a Axiom u p =
      let label = label_written a.label (label_word a.label (is_some (meaning t a.label)) p) p.label in
      (label, (keyword 97 refl refl, ended (map (symbol_word t) a.statement) (expression_written a.statement u.fits.statement)))
  claim_written a Theorem u p =
      let ws = map (symbol_word t) a.statement in
      let few : length a.hyps ≤ 1000 = u.fits.few_hyps in
      let steps = all_map (IsNameable t (length a.hyps)) IsWritten (step_word t a.label) a.proof
      (step_written a.label p.label (length a.hyps) few) (recursion_from_All (IsNameable t (length a.hyps)) a.proof u.steps) in
      let label = label_written a.label (label_word a.label (is_some (meaning t a.label)) p) p.label in (
        label,
        (
          keyword 112 refl refl,
          all_append IsWritten ws _ (expression_written a.statement u.fits.statement) (
            keyword 61 refl refl,
            ended (map (step_word t a.label) a.proof) steps,
          ),
        ),
      )

  unit_of_written : (ps : List Piece) (claim : Claim) → AllByRecursion ArePieceWords ps → AllByRecursion IsWritten (claim_spelling claim)
      → AreWritten (unit_of ps claim)
  unfolding AreWritten ArePieceWords
  unit_of_written [] claim h c = c
  unit_of_written (p ∷ ps) claim h c = (
    keyword 123 refl refl,
    all_append IsWritten (flat_map piece_spelling (p ∷ ps)) _ (all_flat piece_spelling (p ∷ ps) h)
        (all_append IsWritten (claim_spelling claim) (codes "$}" ∷ []) c (keyword 125 refl refl, tt)),
  )

  unit_words : (a : Assertion) → IsUnit t a → IsTrue (is_lawful_label t a.label) → AreWritten (unit_statement t a)
  unit_words a u lawful =
      let p = plain_label a.label (is_some (meaning t a.label)) lawful in
      let few : length a.hyps ≤ 1000 = u.fits.few_hyps in
      let pairs = pairs_written a.pairs (recursion_from_All (IsPairOf (length t.floats)) a.pairs u.fits.pairs_within) in
      let hyps = hypotheses_written a.label p.label 0 a.hyps (omega arith) (recursion_from_All (IsExpression t) a.hyps u.fits.hyps) in
      unit_of_written _ (claim_of t a) (all_append ArePieceWords (distinct_pieces t a.pairs)
      (hypothesis_pieces t a.label 0 a.hyps) pairs hyps) (claim_written a a.kind u p)

  pub unit_written : (a : Assertion) → IsUnit t a → IsTrue (is_lawful_label t a.label)
      → AllByRecursion IsWritten (spelling (unit_statement t a))
  unfolding AreWritten
  unit_written a u lawful = unit_words a u lawful

  units_words : (xs : List Assertion) → AllByRecursion (IsUnit t) xs → AllByRecursion (λ a. IsTrue (is_lawful_label t a.label)) xs
      → AllByRecursion AreWritten (map (unit_statement t) xs)
  units_words [] u l = tt
  units_words (a ∷ xs) u l = (unit_words a u.0 l.0, units_words xs u.1 l.1)

  statements_written : (xs : List Assertion) → AllByRecursion (IsUnit t) xs → AllByRecursion (λ a. IsTrue (is_lawful_label t a.label)) xs
      → AllByRecursion AreWritten (canonical t xs)
  statements_written xs u l =
      all_append AreWritten (canonical_prelude t) (map (unit_statement t) xs)
      (all_append AreWritten (constants_of t.constants) _ (constants_written t.constants s.constants_sound)
      (all_append AreWritten (variables_of t.variables) _ (variables_written t.variables s.variables_sound)
      (all_map (IsFloatSound t) AreWritten (float_statement t) t.floats float_written s.floats_sound)))
      (units_words xs u l)

  flat_written : (ss : List Statement) → AllByRecursion AreWritten ss → AllByRecursion IsWritten (flat_map spelling ss)
  unfolding AreWritten
  flat_written ss h = all_flat spelling ss h

  pub canonical_written : (xs : List Assertion) → AllByRecursion (IsUnit t) xs → AllByRecursion (λ a. IsTrue (is_lawful_label t a.label)) xs
      → AllByRecursion IsWritten (flat_map spelling (canonical t xs))
  canonical_written xs u l = flat_written (canonical t xs) (statements_written xs u l)
