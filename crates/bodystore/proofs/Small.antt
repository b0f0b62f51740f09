-- What fits a prelude is small, and bodies have words.
use Rattle.std.proofs.Common.{ℕ, List, [], ◌∷◌, length, refl, arith}
use Rattle.std.specs.Prelude.{All}
use Rattle.std.proofs.lemmas.List.Elements.{All-weaker}
use Rattle.mmsyntax.specs.declared.statement.Symbol.{Symbol}
use Rattle.mmsyntax.specs.declared.statement.Symbol.TheVariants.{Const, Var}
use Rattle.mmsyntax.specs.Tables.{Tables}
use Rattle.mmsyntax.specs.Preludes.{AreSound}
use Rattle.mmsyntax.specs.Assertions.{IsSymbolOf, IsExpression, IsPairOf}
use Rattle.mmsyntax.proofs.Declarable.{sound_where_apart}
use Rattle.bodystore.specs.Bodies.{IsSmallPair, IsSmallSymbol}
use Rattle.bodystore.specs.Laws.{StatementBodiesHaveWords, ProofBodiesHaveWords, FittingAreSmall}

-- ---- words

pub statements_have_words : StatementBodiesHaveWords
statements_have_words s h = cc

pub proofs_have_words : ProofBodiesHaveWords
proofs_have_words [] some h = some refl
proofs_have_words (x ∷ xs) some h = cc

-- ---- small

module _ (t : Tables) (sound : AreSound t) where
  small_symbol : (x : Symbol) → IsSymbolOf t x → IsSmallSymbol x
  small_symbol (Const i) h = let few = sound.constants_fit in omega (arith, h, few)
  small_symbol (Var j) h = let few = sound.floats_fit in omega (arith, h, few)

  small_expression : (e : List Symbol) → IsExpression t e → All IsSmallSymbol e
  small_expression e h = All-weaker (IsSymbolOf t) IsSmallSymbol small_symbol e h.symbols

  small_pair : (p : ℕ × ℕ) → IsPairOf (length t.floats) p → IsSmallPair p
  small_pair p h =
      let few = sound.floats_fit in
      let low = h.0 in
      let high = h.1 in
      (omega (arith, few, low, high), omega (arith, few, high))

pub fitting_small : FittingAreSmall
fitting_small t a prelude fits =
    let sound = (sound_where_apart t).0 prelude in
    record {
      pairs = All-weaker (IsPairOf (length t.floats)) IsSmallPair (small_pair t sound) a.pairs fits.pairs_within;
      hyps = All-weaker (IsExpression t) (All IsSmallSymbol) (small_expression t sound) a.hyps fits.hyps;
      statement = small_expression t sound a.statement fits.statement;
    }
