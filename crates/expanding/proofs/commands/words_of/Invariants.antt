-- What the loop of `words_of` keeps: the words of the commands so far.
use Rattle.std.proofs.Common.{◌≡◌, map, take}
use Rattle.source.specs.Views.{seen_words}
use Rattle.expanding.specs.Barred.{words_of}
use Rattle.expanding.specs.Bars.{seen_command}
use Rattle.expanding.proofs.commands.words_of.Given as goal

abbrev pub invariant-loop-command : goal.invariant-loop-command
invariant-loop-command l = seen_words l.words.items ≡ words_of l.verb (map seen_command (take l.command-index l.commands))
