-- What the loop of `quotes_of` keeps: the proofs in the scripts so far.
use Rattle.std.proofs.Common.{take}
use Rattle.expanding.specs.Views.{seen_scripts}
use Rattle.editscripts.specs.Quoted.{AreQuotesOf}
use Rattle.editscripts.specs.Views.{seen_quotes}
use Rattle.editscripts.proofs.quoted.quotes_of.Given as goal

abbrev pub invariant-loop-words : goal.invariant-loop-words
invariant-loop-words l = AreQuotesOf (take l.words-index (seen_scripts l.scripts)) (seen_quotes l.all.items)
