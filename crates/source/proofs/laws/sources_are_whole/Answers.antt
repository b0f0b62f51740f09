-- The law `sources_are_whole` is a lemma.
use Rattle.source.proofs.Wholes.{sources_whole}
use Rattle.source.proofs.laws.sources_are_whole.Goals as goal

pub returns : goal.returns
returns c = sources_whole
