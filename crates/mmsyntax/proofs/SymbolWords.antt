-- The symbol of a word by its remainder, and of the word of a place.
use Rattle.std.proofs.Common.{◌≡◌, ℕ, ◌+◌, ◌*◌, ◌/◌, ◌%◌, ap, ◌∙◌, arith}
use Rattle.std.proofs.lemmas.Bool.Decides.{nat_tests}
use Rattle.mmsyntax.specs.declared.statement.Symbol.TheVariants.{Const, Var}
use Rattle.mmsyntax.specs.SymbolWords.{symbol_of_word}

-- ---- the symbol of a word by its remainder

pub const_at : (w : ℕ) → w % 2 ≡ 0 → symbol_of_word w ≡ Const (w / 2)
unfolding symbol_of_word
const_at w h = grind (arith, nat_tests)

pub var_at : (w : ℕ) → w % 2 ≡ 1 → symbol_of_word w ≡ Var (w / 2)
unfolding symbol_of_word
var_at w h = grind (arith, nat_tests)

-- ---- the symbol of the word of a place

pub const_word : (i : ℕ) → symbol_of_word (2 * i) ≡ Const i
const_word i =
    let r : (2 * i) % 2 ≡ 0 = omega arith in
    let q : (2 * i) / 2 ≡ i = omega arith in
    const_at (2 * i) r ∙ ap (λ n. Const n) q

pub var_word : (j : ℕ) → symbol_of_word (2 * j + 1) ≡ Var j
var_word j =
    let r : (2 * j + 1) % 2 ≡ 1 = omega arith in
    let q : (2 * j + 1) / 2 ≡ j = omega arith in
    var_at (2 * j + 1) r ∙ ap (λ n. Var n) q
