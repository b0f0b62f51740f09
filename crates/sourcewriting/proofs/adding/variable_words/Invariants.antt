-- What the loop of `variable_words` keeps.
use Rattle.std.proofs.Common.{◌≡◌, map, take}
use Rattle.source.specs.Views.{seen_words}
use Rattle.giving.specs.Staying.{changed}
use Rattle.sourcewriting.specs.Added.{variable_word}
use Rattle.sourcewriting.proofs.adding.variable_words.Given as goal

-- the words of those that were gone through
abbrev pub invariant-loop-float : goal.invariant-loop-float
invariant-loop-float l =
    seen_words l.words.items ≡ map (λ f. variable_word (changed l.changes) l.variables f.variable) (take l.float-index l.floats)
