-- The law `sources_are_said` is a lemma.
use Rattle.source.proofs.SourceLaws.{source_grammar}
use Rattle.source.proofs.laws.sources_are_said.Goals as goal

pub returns : goal.returns
returns c = source_grammar
