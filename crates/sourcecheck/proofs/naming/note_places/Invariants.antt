-- What the loop of `note_places` keeps.
use Rattle.std.proofs.Common.{◌≡◌}
use Rattle.sourcecheck.proofs.naming.note_places.Given as goal

abbrev pub invariant-loop-place : goal.invariant-loop-place
invariant-loop-place l = record {
  numbers : l.table.numbers ≡ l.initial.table.numbers;
  words : l.table.words ≡ l.initial.table.words;
}
