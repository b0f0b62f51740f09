-- The law `no_fault_of_a_source` is a lemma.
use Rattle.source.specs.Sources.{DeclaresText}
use Rattle.source.specs.Faults.{source_language}
use Rattle.mmtext.proofs.TextLaws.{spells_without_fault}
use Rattle.source.proofs.SourceLaws.{source_grammar}
use Rattle.source.proofs.laws.no_fault_of_a_source.Goals as goal

pub returns : goal.returns
returns c = spells_without_fault source_language DeclaresText source_grammar
