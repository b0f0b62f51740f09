-- What the loop of `is_word_between` keeps.
use Rattle.std.proofs.Common.{◌-◌, ◌≤◌, length}
use Rattle.std.specs.Prelude.{IsTrue}
use Rattle.mmtext.specs.Comments.{words_of}
use Rattle.source.specs.Scopes.{is_in}
use Rattle.items.specs.Items.{Item, words}
use Rattle.items.specs.Reading.{Stands, tokens_at}
use Rattle.arranging.proofs.sections.is_word_between.Given as goal

-- the words that are left are some of those that were there
abbrev pub invariant-loop-at : goal.invariant-loop-at
invariant-loop-at l = record {
  within : l.at ≤ length l.text;
  of_text :
      IsTrue (is_in (words_of (tokens_at l.text l.at)) l.word) → IsTrue (is_in (words_of (tokens_at l.text l.from)) l.word);
  of_item :
      (x : Item) → Stands l.text l.from x l.end
      → (y : Item) × Stands l.text l.at y l.end × (IsTrue (is_in (words y) l.word) → IsTrue (is_in (words x) l.word));
}

abbrev pub decreases-loop-at : goal.decreases-loop-at
decreases-loop-at l = length l.text - l.at
