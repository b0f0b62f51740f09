-- Which symbol a word stands for: a constant or a variable (Metamath book, section 4.1.1) by its place. The layout of the word is this
-- project's own.
use Rattle.std.specs.Prelude.{◌≡◌, Option, Some, None, ℕ, ◌+◌, ◌*◌, ◌/◌, ◌%◌, ◌<◌, ◌^◌, ◌==◌, if◌then◌else◌}
use Rattle.std.proofs.Common.{arith}
use Rattle.std.proofs.lemmas.Bool.Decides.{nat_tests}
use Rattle.mmsyntax.specs.declared.statement.Symbol.{Symbol}
use Rattle.mmsyntax.specs.declared.statement.Symbol.TheVariants.{Const, Var}
use Rattle.mmsyntax.specs.declared.symbols.Name.{Name}
use Rattle.mmsyntax.specs.declared.symbols.Name.TheVariants.{Constant, Variable, Label}
use Rattle.mmsyntax.specs.declared.limits.TheConstants.{MOST_DECLARED}

-- the symbol of a word: 2 i is the constant at the place i, 2 j + 1 the variable of the $f at the place j
unfoldable pub symbol_of_word : ℕ → Symbol
symbol_of_word w = if w % 2 == 0 then Const (w / 2) else Var (w / 2)

-- the word of a symbol
abbrev pub word_of_symbol : Symbol → ℕ
word_of_symbol (Const i) = 2 * i
word_of_symbol (Var j) = 2 * j + 1

-- a word is that of its symbol
pub same_word : (w : ℕ) → word_of_symbol (symbol_of_word w) ≡ w
unfolding symbol_of_word
same_word w = grind (arith, nat_tests)

-- a symbol whose place a word has room for
abbrev pub IsSmallPlace : Symbol → Type 0
IsSmallPlace (Const i) = i < 2 ^ 31
IsSmallPlace (Var j) = j < 2 ^ 31

-- what a word names, if that is a symbol, is one of 65,535 constants or of as many $f
abbrev pub NamesFew : Option Name → Type 0
NamesFew None = Unit {0}
NamesFew (Some (Constant i)) = i < MOST_DECLARED
NamesFew (Some (Variable v None)) = Unit {0}
NamesFew (Some (Variable v (Some j))) = j < MOST_DECLARED
NamesFew (Some (Label j)) = Unit {0}
