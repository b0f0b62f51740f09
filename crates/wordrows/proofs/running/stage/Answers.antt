use Rattle.std.proofs.Common.{ap, sym}
use Rattle.wordrows.proofs.Later.{runs_later, later_known, later_refused}
use Rattle.wordrows.proofs.running.stage.Goals as goal

pub note_range-known-requires : goal.note_range-known-requires
note_range-known-requires c =
    let same = c.stage.ensures.same in
    let staged = c.in-Ok.ensures.ok in
    record {
      runs = runs_later c.args.words.now c.args.playing.now c.stage.new.self same.0 (ap (λ x. x.mode) same.1)
          (later_known c.args.playing.now.run c.stage.new.self staged.1.grows.2 staged.1.stands (ap (λ x. x.slots) same.1)) c.requires;
      there = (c.args.staged.now, staged.1.finished, sym staged.0);
    }

pub returns-in-Err : goal.returns-in-Err
returns-in-Err c =
    let p = c.args.playing.now in
    let same = c.stage.ensures.same in
    runs_later c.args.words.now p c.stage.new.self same.0 (ap (λ x. x.mode) same.1)
    (later_refused _ p.run c.stage.new.self c.in-Err.ensures.err)
    c.requires
