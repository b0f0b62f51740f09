-- Substitution symbol by symbol, and the tests of a citation.
use Rattle.std.proofs.Common.{◌≡◌, ◌≢◌, ◌↔◌, ℕ, suc, ◌+◌, ◌*◌, ◌<◌, ◌≤◌, List, [], ◌∷◌, ◌++◌, length, drop, get_or, refl}
use Rattle.std.proofs.Common.{ap, append-nil, add-one, arith}
use Rattle.std.proofs.Math.Seq.{drop-cons}
use Rattle.std.proofs.lemmas.List.{append_cancel_left}
use Rattle.std.specs.Bool.{Decides}
use Rattle.std.proofs.lemmas.Bool.Decides.{Decides-eqb}
use Rattle.mmsyntax.specs.contracts.symbol_word.SymbolWordPartialEq.TheImpl.{eq-value}
use Rattle.mmsyntax.specs.declared.statement.Symbol.{Symbol}
use Rattle.mmsyntax.specs.declared.statement.Symbol.TheVariants.{Const, Var}
use Rattle.mmsyntax.specs.Tables.{Tables}
use Rattle.mmframes.specs.Substitution.{subst, replacement}
use Rattle.derivation.specs.Derivation.{Expression, TypesFit, HypothesesFit, PairsFit, conclusion, arity}
use Rattle.derivation.specs.Faults.{FailsTest, last}
use Rattle.derivation.specs.Moves.{IsTooLongOrNoMemory, FailsOnLast}
use Rattle.derivation.specs.declared.fault.ProofFaultKind.{ProofFaultKind}
use Rattle.derivation.specs.declared.fault.ProofFaultKind.TheVariants.{UnknownStep, StackShort, WrongType, HypothesisDiffers, NotDisjoint}
use Rattle.derivation.specs.declared.fault.ProofFaultKind.TheVariants.{NotOneLeft, StatementDiffers, TooLong, NoMemory}
use Rattle.mmsyntax.specs.declared.statement.Assertion.{Assertion}
use Rattle.mmsyntax.specs.declared.statement.Frame.{Frame}

-- substituting in one symbol and in the rest
pub subst-cons : (s : List (ℕ × Expression)) (x : Symbol) (e : Expression) → subst s (x ∷ e) ≡ subst s (x ∷ []) ++ subst s e
subst-cons s (Const c) e = refl
subst-cons s (Var j) e = rw (append-nil (replacement s j)) refl

-- what is left of an expression from a place on
pub subst-drop : (s : List (ℕ × Expression)) (e : Expression) (i : ℕ) (d : Symbol) → i < length e
    → subst s (drop i e) ≡ subst s (get_or e i d ∷ []) ++ subst s (drop (i + 1) e)
subst-drop s e i d lt = rw (drop-cons e i d, add-one) (subst-cons s (get_or e i d) (drop (suc i) e))

-- an expression in which nothing is replaced
pub subst-none : (s : List (ℕ × Expression)) (e : Expression) → length s ≡ 0 → subst s e ≡ e
subst-none s [] none = refl
subst-none s (Const c ∷ e) none = ap (λ d. Const c ∷ d) (subst-none s e none)
subst-none [] (Var j ∷ e) none = ap (λ d. Var j ∷ d) (subst-none [] e none)
subst-none (x ∷ xs) (Var j ∷ e) none = cc

-- `==` at the words of symbols
pub symbol_decides : (a b : Symbol) → Decides (eq-value.it a b) (a ≡ b)
symbol_decides (Const c) (Const d) =
    let words = Decides-eqb (2 * c) (2 * d) in
    (λ e. let h = words.0 e in ap Const (omega (arith, h)), λ e. let is : c ≡ d = cc in words.1 (ap (λ n. 2 * n) is))
symbol_decides (Const c) (Var k) =
    let words = Decides-eqb (2 * c) (2 * k + 1) in
    (λ e. let h = words.0 e in absurd (omega (arith, h)), λ e. cc)
symbol_decides (Var j) (Const d) =
    let words = Decides-eqb (2 * j + 1) (2 * d) in
    (λ e. let h = words.0 e in absurd (omega (arith, h)), λ e. cc)
symbol_decides (Var j) (Var k) =
    let words = Decides-eqb (2 * j + 1) (2 * k + 1) in
    (λ e. let h = words.0 e in ap Var (omega (arith, h)), λ e. let is : j ≡ k = cc in words.1 (ap (λ n. 2 * n + 1) is))

-- the next piece stands at the front of what is left, or there is no match
pub piece-matches : (all piece after next later rest : Expression) (G : Type 0) → all ≡ piece ++ after → next ≡ piece → rest ≡ next ++ later
    → (all ≡ rest) ↔ G → (after ≡ later) ↔ G
piece-matches all piece after next later rest G a n r h =
    (λ e. h.0 cc, λ g. let whole = h.1 g in append_cancel_left next after later cc)

pub piece-fails : (all piece after next rest : Expression) (G : Type 0) → all ≡ piece ++ after → next ≡ piece
    → ((later : Expression) → rest ≢ next ++ later) → (all ≡ rest) ↔ G → G → ⊥
piece-fails all piece after next rest G a n apart h g = let whole = h.1 g in apart after cc

pub too-long-only : (p : Tables) (a : Assertion) (f : Frame) (args : List Expression) (kind : ProofFaultKind) → TypesFit p f args
    → HypothesesFit f args → PairsFit a f args → IsTooLongOrNoMemory kind (65535 < length (conclusion f args)) → kind ≢ NoMemory
    → FailsTest p a f args kind
too-long-only p a f args TooLong t h d x n = (t, h, d, x)
too-long-only p a f args NoMemory t h d x n = absurd (n refl)
too-long-only p a f args UnknownStep t h d x n = absurd x
too-long-only p a f args StackShort t h d x n = absurd x
too-long-only p a f args WrongType t h d x n = absurd x
too-long-only p a f args HypothesisDiffers t h d x n = absurd x
too-long-only p a f args NotDisjoint t h d x n = absurd x
too-long-only p a f args NotOneLeft t h d x n = absurd x
too-long-only p a f args StatementDiffers t h d x n = absurd x

pub FailsOnLast-test : (p : Tables) (a : Assertion) (f : Frame) (es : List Expression) (kind : ProofFaultKind) → arity f ≤ length es
    → FailsTest p a f (last (arity f) es) kind → FailsOnLast p a f es kind
FailsOnLast-test p a f es StackShort le h = absurd h
FailsOnLast-test p a f es kind le h = (le, h)
