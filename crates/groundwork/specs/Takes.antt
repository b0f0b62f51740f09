-- How many words of the store a command takes at most: those of the bodies that it stages, each once.
use Rattle.std.specs.Prelude.{ℕ, ◌+◌, List, length, Option, Some, None}
use Rattle.library.specs.declared.library.Ranked.{Ranked}
use Rattle.library.specs.declared.command.Command.{Command}
use Rattle.library.specs.declared.command.Command.TheVariants.{Add, Reprove, Replace, Rename}
use Rattle.library.specs.Edits.{found}
use Rattle.bodystore.specs.Bodies.{label_body, statement_of, statement_body}
use Rattle.cells.specs.Sight.{Sight, TakesAtMost}
use Rattle.cells.specs.Answers.{ForEachBefore}

-- the words of the bodies that a command stages, where the theorem with a label has so many steps: a proof has a word for each step
abbrev pub command_words : (List ℕ → ℕ) → Command → ℕ
command_words steps_of (Add rank a) = length (label_body a.label) + length (statement_body (statement_of a)) + length a.proof
command_words steps_of (Reprove label steps) = length steps
command_words steps_of (Replace label old new) = steps_of label
command_words steps_of (Rename from to) = length (label_body to)
command_words steps_of _ = 0

abbrev pub steps_in : Option Ranked → ℕ
steps_in None = 0
steps_in (Some e) = length e.assertion.proof

-- how many steps the proof of the assertion with the label has
abbrev pub proof_length : List Ranked → List ℕ → ℕ
proof_length lib label = steps_in (found lib label)

-- a command takes at most these words, each body once, also where it ends early
abbrev pub TakesBodies : {O : Type 0} → Command → Sight O → Sight O → Type 0
TakesBodies c old new = ForEachBefore old new (λ st lib. TakesAtMost (command_words (proof_length lib) c) old new)
