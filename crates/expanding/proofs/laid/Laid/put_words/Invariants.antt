-- What the loop of `put_words` keeps: the words so far are put.
use Rattle.std.proofs.Common.{◌≡◌, ◌++◌, List, map, take}
use Rattle.mmtext.specs.Text.{Token}
use Rattle.mmtext.specs.Views.{seen}
use Rattle.expanding.specs.Views.{IsLaid}
use Rattle.expanding.proofs.laid.Laid.put_words.Given as goal

abbrev pub invariant-loop-word : goal.invariant-loop-word
invariant-loop-word l = record {
  laid : (ts : List Token) → IsLaid ts l.fn.self → IsLaid (ts ++ map seen (take l.word-index l.words)) l.self;
  beginnings : l.self.beginnings.items ≡ l.fn.self.beginnings.items;
}
