use Rattle.std.proofs.Common.{rules}
use Rattle.std.proofs.lemmas.List.Elements.{All-contains}
use Rattle.wordrows.specs.Seats.{IsThere}
use Rattle.wordrows.proofs.Kept.{place_named}
use Rattle.wordrows.proofs.Later.{runs_written}
use Rattle.wordrows.proofs.running.name.Goals as goal

pub returns : goal.returns
returns c =
    let ranges = c.args.playing.now.run.known.seen.ranges in
    let there = All-contains (IsThere ranges) c.args.playing.now.ranges.items c.args.range c.requires.there (search rules) in
    runs_written c.args.words.now c.args.playing.now c.write.new.self c.args.cell _ c.write.ensures.same c.write.ensures.kept
    (λ _. place_named ranges c.args.range _ there c.word-value.ensures) c.requires
