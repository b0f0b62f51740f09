-- What is left to show of `words_of`.
use Rattle.std.proofs.Common.{map}
use Rattle.mmtext.specs.Views.{seen}
use Rattle.locating.proofs.Worded.{words_read, no_words}
use Rattle.locating.proofs.fronts.words_of.Goals as goal

pub returns-in-Ok : goal.returns-in-Ok
returns-in-Ok c = words_read c.args.text.now (map seen c.in-Ok.words.items) c.in-Ok.ensures

pub returns-in_default : goal.returns-in_default
returns-in_default c = no_words c.args.text.now c.in-Err.fault c.in_default.not-NoMemory c.in-Err.ensures
