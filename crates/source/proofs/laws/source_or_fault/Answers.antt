-- The law `source_or_fault` is a lemma.
use Rattle.source.specs.Sources.{DeclaresText}
use Rattle.source.specs.Faults.{source_language}
use Rattle.mmtext.proofs.TextLaws.{spells_or_fails}
use Rattle.source.proofs.SourceLaws.{source_grammar}
use Rattle.source.proofs.laws.source_or_fault.Goals as goal

pub returns : goal.returns
returns c = spells_or_fails source_language DeclaresText source_grammar
