-- What is left to show of `fault_of_symbol`.
use Rattle.std.proofs.Common.{◌≡◌, ℕ, ◌<◌, List, [], ◌∷◌, length, Option, Bor, arith, rules}
use Rattle.mmtext.specs.Words.{Word}
use Rattle.mmtext.specs.declared.fault.FaultKind.{FaultKind}
use Rattle.mmsyntax.specs.Rows.{first_fault}
use Rattle.source.specs.Scopes.{Scope}
use Rattle.source.specs.Tests.{symbol_tests}
use Rattle.source.specs.Views.{seen_words}
use Rattle.scopes.proofs.faults.fault_of_symbol.Goals as goal

behind_others : (s : Scope) (ws : List (Bor (List ℕ))) (w : Word) (r : Option FaultKind) → 0 < length ws
    → ((first : Word) (front : List Word) → r ≡ first_fault (symbol_tests s (first ∷ front) w))
    → r ≡ first_fault (symbol_tests s (seen_words ws) w)
behind_others s [] w r some h = absurd (omega arith)
behind_others s (b ∷ bs) w r some h = h b.now (seen_words bs)

pub returns : goal.returns
returns c = λ s is.
    behind_others s c.args.others.now c.args.word.now _ (search rules) (λ first front. c.fault_of_later_symbol.ensures s first front is)
