use Rattle.wordrows.proofs.Later.{runs_there, runs_same_there}
use Rattle.wordrows.proofs.running.note_range.Goals as goal

pub returns-in_err-push : goal.returns-in_err-push
returns-in_err-push c = runs_same_there c.args.words.now c.args.playing.now c.push.new.self c.in_err-push.ensures.items c.requires.runs

pub returns : goal.returns
returns c =
    runs_there c.args.words.now c.args.playing.now c.push.new.self c.args.range c.in_ok-push.ensures.items c.requires.there c.requires.runs
