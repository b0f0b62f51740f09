-- What is left to show of `read_assertion`.
use Rattle.std.proofs.Common.{subst}
use Rattle.mmtext.specs.Views.{IsReadAs}
use Rattle.mmsyntax.specs.Tables.{Tables}
use Rattle.mmsyntax.specs.Faults.{unit_language}
use Rattle.mmsyntax.specs.Grammar.{SpellsUnit}
use Rattle.mmtext.proofs.TextLaws.{itself_by_grammar}
use Rattle.statementreader.proofs.UnitLaws.{unit_grammar}
use Rattle.statementreader.proofs.units.read_assertion.Goals as goal

-- the reader looks at the symbols of the prelude alone, which are all of it
pub returns : goal.returns
returns c =
    let t = c.args.prelude.now in
    itself_by_grammar (unit_language t) (SpellsUnit t) (unit_grammar t) c.args.text.now _
    (subst (λ (x : Tables). IsReadAs (λ a. a) (unit_language x) c.args.text.now c.read.result) c.symbols.ensures c.read.ensures)
