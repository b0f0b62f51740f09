-- How many words of the store a transaction takes at most: those of the bodies that its commands stage, each once.
use Rattle.std.specs.Prelude.{ℕ, List, sum_by}
use Rattle.library.specs.declared.command.Command.{Command}
use Rattle.groundwork.specs.Takes.{command_words}
use Rattle.mmsyntax.specs.declared.limits.TheConstants.{MOST_STEPS}

-- its commands take at most these, in whatever library: no proof has more than 16,384 steps
abbrev pub most_words_of : List Command → ℕ
most_words_of cs = sum_by (command_words (λ label. MOST_STEPS)) cs
