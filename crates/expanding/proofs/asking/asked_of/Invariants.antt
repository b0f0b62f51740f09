-- What the loop of `asked_of` keeps: the words of the scripts so far.
use Rattle.std.proofs.Common.{◌≡◌, take}
use Rattle.std.specs.List.{flat_map}
use Rattle.source.specs.Views.{seen_words}
use Rattle.expanding.specs.Asking.{asked, is_behind, all_behind, spoken_in}
use Rattle.expanding.specs.Views.{seen_scripts}
use Rattle.expanding.proofs.asking.asked_of.Given as goal

abbrev pub invariant-loop-script : goal.invariant-loop-script
invariant-loop-script g l = record {
  spoken_are : seen_words l.spoken.items ≡ flat_map spoken_in (seen_scripts (take l.script-index l.scripts));
  asked_are : seen_words l.asked.items ≡ asked (seen_scripts (take l.script-index l.scripts));
  named_are : seen_words l.named.items ≡ all_behind is_behind (seen_scripts (take l.script-index l.scripts));
}
