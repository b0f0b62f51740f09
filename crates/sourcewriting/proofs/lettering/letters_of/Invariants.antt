-- What the loop of `letters_of` keeps.
use Rattle.std.proofs.Common.{◌≡◌, ◌<◌, ◌+◌, List, length, drop}
use Rattle.sourcewriting.specs.declared.shared.CountedLabel.{CountedLabel}
use Rattle.sourcewriting.specs.Lettered.{AreCounted, AreNumbers, IsLettered}
use Rattle.sourcewriting.specs.Nodes.{AreNodes}
use Rattle.sourcewriting.specs.Reading.{counts_of}
use Rattle.sourcewriting.specs.Walked.{Walked, ArePut}
use Rattle.sourcewriting.proofs.lettering.letters_of.Given as goal

abbrev pub invariant-loop-put : goal.invariant-loop-put
invariant-loop-put l = record {
  again : l.letters.again ≡ l.initial.letters.again;
  read : (cs : List CountedLabel) → AreNodes l.shared → l.root < length l.shared.nodes.items
      → AreNumbers l.shared.words.items (counts_of cs) l.numbers → l.labels ≡ length cs
      → length cs + length l.shared.nodes.items < 268435460
      → (w : Walked) × (end : Walked) × ArePut l.shared (drop l.put-index l.puts) w end × IsLettered l.shared cs l.letters w
      × AreCounted l.shared cs l.letters;
}
