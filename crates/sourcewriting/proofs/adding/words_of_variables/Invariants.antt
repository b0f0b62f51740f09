-- What the loop of `words_of_variables` keeps.
use Rattle.std.proofs.Common.{IsTrue}
use Rattle.std.specs.Prelude.{All}
use Rattle.source.specs.Views.{seen_words}
use Rattle.items.specs.Layout.{is_word}
use Rattle.mmsyntax.specs.declared.statement.Symbol.TheVariants.{Var}
use Rattle.sourcewriting.specs.Added.{IsSpelled}
use Rattle.sourcewriting.proofs.adding.words_of_variables.Given as goal

-- those so far can be written
abbrev pub invariant-loop-variable : goal.invariant-loop-variable
invariant-loop-variable l = All (λ v. IsSpelled l.words (Var v)) l.variables → All (λ w. IsTrue (is_word w)) (seen_words l.made.items)
