-- What is left to show of `cited`.
use Rattle.source.specs.Views.{seen_words}
use Rattle.sourcereader.proofs.proof_rows.cited.Goals as goal

pub returns-clause-fault : goal.returns-clause-fault
returns-clause-fault g c = c.cited.ensures.fault (seen_words c.args._expression.now) c.requires
