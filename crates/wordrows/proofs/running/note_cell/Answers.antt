use Rattle.std.proofs.Common.{rules}
use Rattle.wordrows.proofs.Later.{runs_read, runs_same_read}
use Rattle.wordrows.proofs.running.note_cell.Goals as goal

pub returns-in_err-push-clause-runs : goal.returns-in_err-push-clause-runs
returns-in_err-push-clause-runs c = runs_same_read c.args.words.now c.args.playing.now c.push.new.self c.in_err-push.ensures.items
    c.requires.runs

pub returns-clause-runs : goal.returns-clause-runs
returns-clause-runs c =
    runs_read c.args.words.now c.args.playing.now c.push.new.self c.args.cell c.in_ok-push.ensures.items (c.requires.read
    (search rules)) c.requires.runs
