-- What the loop of `numbers_of` keeps.
use Rattle.std.proofs.Common.{◌≡◌, ◌<◌, ◌≤◌, ◌+◌, ◌^◌, ℕ, Some, length}
use Rattle.std.specs.Prelude.{slice_get}
use Rattle.source.specs.Views.{seen_words}
use Rattle.sourcewriting.specs.declared.shared.CountedLabel.{CountedLabel}
use Rattle.sourcewriting.specs.Lettered.{AreUntaken, counts_behind}
use Rattle.sourcewriting.specs.Reading.{HaveMore}
use Rattle.sourcewriting.proofs.wording.numbers_of.Given as goal

abbrev pub invariant-loop-word : goal.invariant-loop-word
invariant-loop-word l = record {
  more : HaveMore l.words l.fn.others.items l.others.items;
  few : length l.others.items ≤ length l.fn.others.items + l.word-index;
  many : length l.numbers.items ≡ l.word-index;
  numbered : length l.mandatory + length l.fn.others.items + length l.words < 2 ^ 64 → AreUntaken (seen_words l.mandatory) l.words
      → (i : ℕ) (c : CountedLabel) → slice_get l.words i ≡ Some c → i < l.word-index
      → (k : ℕ) × (slice_get l.numbers.items i ≡ Some k)
      × (slice_get (counts_behind (seen_words l.mandatory) l.others.items) k ≡ Some (c.label.now, c.takes));
}
