-- What is left to show of `read_source`: what the table says is what the grammar says.
use Rattle.mmtext.proofs.TextLaws.{by_grammar}
use Rattle.source.specs.Sources.{DeclaresText}
use Rattle.source.specs.Faults.{source_language}
use Rattle.source.proofs.SourceLaws.{source_grammar}
use Rattle.sourcereader.proofs.reading.read_source.Goals as goal

pub returns : goal.returns
returns g c = by_grammar source_language DeclaresText source_grammar c.args.text.now _ c.read_from.ensures
