-- The law `no_source_of_a_fault` is a lemma.
use Rattle.source.specs.Sources.{DeclaresText}
use Rattle.source.specs.Faults.{source_language}
use Rattle.mmtext.proofs.TextLaws.{fails_by_length}
use Rattle.source.proofs.SourceLaws.{source_grammar}
use Rattle.source.proofs.laws.no_source_of_a_fault.Goals as goal

pub returns : goal.returns
returns c = fails_by_length source_language DeclaresText source_grammar
