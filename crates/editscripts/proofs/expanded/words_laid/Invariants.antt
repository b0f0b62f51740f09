-- What the loop of `words_laid` keeps: the words of the texts so far.
use Rattle.std.proofs.Common.{◌≡◌, List, take}
use Rattle.std.specs.List.{AllZip}
use Rattle.mmtext.specs.Text.{Token}
use Rattle.expanding.specs.Views.{IsLaid, seen_scripts}
use Rattle.editscripts.proofs.expanded.words_laid.Given as goal

abbrev pub invariant-loop-laid : goal.invariant-loop-laid
invariant-loop-laid l =
    (outs : List (List Token)) → AllZip IsLaid outs l.all → seen_scripts l.words.items ≡ take l.laid-index outs
