-- What the loop of `take_letters` keeps: the bytes so far are counted, and each is a letter.
use Rattle.std.proofs.Common.{◌≡◌, ℕ, true, List, ◌++◌, take}
use Rattle.std.specs.List.{list_all}
use Rattle.mmtext.specs.Words.{Word}
use Rattle.source.specs.Scopes.{Hypothesis, Assertion}
use Rattle.source.specs.Tests.{is_letter}
use Rattle.source.specs.Counts.{LettersAreCounted, CountNumbers}
use Rattle.source.proofs.entries.Entries.take_letters.Given as goal

abbrev pub invariant-loop-byte : goal.invariant-loop-byte
invariant-loop-byte l =
    (earlier : List Assertion) (active : List Hypothesis) (labels : List Word) (letters : List ℕ)
    → LettersAreCounted earlier active labels letters l.initial.self → CountNumbers earlier active labels l.hypotheses l.citations
    → LettersAreCounted earlier active labels (letters ++ take l.byte-index l.word) l.self
    × (list_all is_letter (take l.byte-index l.word) ≡ true)
