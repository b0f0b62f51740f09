use Rattle.std.proofs.Common.{ap, arith, rules}
use Rattle.std.proofs.lemmas.List.Elements.{All-contains}
use Rattle.wordrows.specs.Seats.{IsThere}
use Rattle.wordrows.proofs.Later.{runs_later, later_known}
use Rattle.wordrows.proofs.running.load.Goals as goal

pub load-requires : goal.load-requires
load-requires c =
    let there = All-contains (IsThere c.args.playing.now.run.known.seen.ranges) c.args.playing.now.ranges.items c.args.range
    c.requires.there
    (search rules) in
    (there.0, there.1, there.2, omega (arith, c.if-index-range.false))

pub returns : goal.returns
returns c =
    let loaded = c.load.ensures.loaded in
    runs_later c.args.words.now c.args.playing.now c.load.new.self (ap (λ x. x.known.home) loaded.is) (ap (λ x. x.mode) loaded.is)
    (later_known c.args.playing.now.run c.load.new.self loaded.grows.2 loaded.stands (ap (λ x. x.slots) loaded.is)) c.requires
