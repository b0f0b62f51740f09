-- What is left to show of `take_letters`.
use Rattle.std.proofs.Common.{◌++◌, take, sym, ◌∙◌}
use Rattle.std.specs.List.{flat_map}
use Rattle.source.specs.Tests.{numbered_labels}
use Rattle.source.proofs.CountedWords.{numbers_counted, word_goes, word_fails, one_byte}
use Rattle.source.proofs.entries.Entries.take_letters.Goals as goal

pub returns-then-not-branch : goal.returns-then-not-branch
returns-then-not-branch c =
    λ s e labels ls counted is have.
    let numbers = numbers_counted s e labels c.args.hypotheses c.args.citations.now is have in
    let before = c.loop-byte.invariant s.assertions s.hypotheses (numbered_labels s e labels) (flat_map (λ l. l) ls) counted numbers in
    let said = c.in_ok-take_byte.ensures s.assertions s.hypotheses (numbered_labels s e labels)
    (flat_map (λ l. l) ls ++ take c.loop-byte.byte-index c.args.word.now) before.0 numbers in (
      word_fails s e labels ls c.args.word.now c.loop-byte.byte-index c.loop-byte-test.true
          (sym c.if-not-branch.true ∙ said.0),
      λ w. absurd cc,
    )

pub loop-byte-preserved : goal.loop-byte-preserved
loop-byte-preserved c =
    λ earlier active labels letters counted e.
    let before = c.loop-byte.invariant earlier active labels letters counted e in
    let said = c.in_ok-take_byte.ensures earlier active labels (letters ++ take c.loop-byte.byte-index c.args.word.now) before.0 e in
    one_byte earlier active labels letters c.args.word.now c.loop-byte.byte-index c.take_byte.new.self c.loop-byte-test.true before.1
    (sym said.0 ∙ c.if-not-branch.false) (said.1 c.if-not-branch.false)

pub returns : goal.returns
returns c =
    λ s e labels ls counted is have.
    let numbers = numbers_counted s e labels c.args.hypotheses c.args.citations.now is have in
    let all = c.loop-byte.invariant s.assertions s.hypotheses (numbered_labels s e labels) (flat_map (λ l. l) ls) counted numbers in
    let whole = word_goes s e labels ls c.args.word.now c.loop-byte.byte-index c.loop-byte.self c.loop-byte-test.false all.0 all.1 in
    (whole.0, λ _. whole.1)
