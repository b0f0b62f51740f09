-- What is left to show of `new`.
use Rattle.std.proofs.Common.{refl}
use Rattle.comments.proofs.Walked.{nothing_walked}
use Rattle.comments.proofs.walking.SourceWalk.new.Goals as goal

pub returns : goal.returns
returns c = λ cs gone source. nothing_walked cs gone source _ refl refl c.new.ensures.items
