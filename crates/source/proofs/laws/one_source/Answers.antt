-- The law `one_source` is a lemma.
use Rattle.source.specs.Sources.{DeclaresText}
use Rattle.source.specs.Faults.{source_language}
use Rattle.mmtext.proofs.TextLaws.{spells_one}
use Rattle.source.proofs.SourceLaws.{source_grammar}
use Rattle.source.proofs.laws.one_source.Goals as goal

pub returns : goal.returns
returns c = spells_one source_language DeclaresText source_grammar
