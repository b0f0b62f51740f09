-- What the loop of `words_of` keeps: the words of the scripts so far.
use Rattle.std.proofs.Common.{◌≡◌, ◌++◌, map, take}
use Rattle.std.specs.List.{flat_map}
use Rattle.source.specs.Views.{seen_words}
use Rattle.standins.proofs.labels.words_of.Given as goal

abbrev pub invariant-loop-script : goal.invariant-loop-script
invariant-loop-script l =
    seen_words l.found.items
    ≡ map (λ a. a.label) l.database.assertions ++ flat_map (λ ts. map (λ t. t.text.now) ts.items) (take l.script-index l.scripts)
