-- What the loop of `quotes_in` keeps, and that it ends: what is given so far, and what the parts that are left give.
use Rattle.std.proofs.Common.{◌≡◌, ◌≤◌, ◌-◌, ◌++◌, List, map, length, drop}
use Rattle.mmtext.specs.Views.{seen}
use Rattle.spreading.specs.Forms.{Part, AreParts}
use Rattle.pasting.specs.Quotes.{quotes_behind}
use Rattle.pasting.specs.Views.{seen_quote}
use Rattle.pasting.proofs.quotes.quotes_in.Given as goal

abbrev pub invariant-loop-at : goal.invariant-loop-at
invariant-loop-at l = record {
  within : l.at ≤ length l.words;
  few : l.begun ≤ l.at;
  told : (done : List Part)
      × ((ps : List Part) → AreParts (map seen (drop l.at l.words)) ps → AreParts (map seen l.words) (done ++ ps))
      × ((ps : List Part) → map seen_quote l.found.items ++ quotes_behind l.begun ps ≡ quotes_behind 0 (done ++ ps));
}

abbrev pub decreases-loop-at : goal.decreases-loop-at
decreases-loop-at l = length l.words - l.at
