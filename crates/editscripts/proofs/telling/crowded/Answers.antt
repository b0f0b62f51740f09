-- What is left to show of `crowded`.
use Rattle.std.proofs.Common.{subst}
use Rattle.mmtext.specs.Views.{seen}
use Rattle.expanding.specs.Refusals.{IsUnranked}
use Rattle.editscripts.proofs.telling.crowded.Goals as goal

pub returns-in_ok-line-in-Crowded : goal.returns-in_ok-line-in-Crowded
returns-in_ok-line-in-Crowded c = λ s flags gaps ts h. record {
  word = seen c.in-Crowded.word;
  crowded = subst (IsUnranked s flags gaps ts) c.in-Crowded.is h;
  says = c.in_ok-line-in-Crowded.ensures;
}
