-- What is left to show of `read_script`.
use Rattle.std.proofs.Common.{refl, rules}
use Rattle.mmtext.proofs.TextLaws.{itself_by_grammar}
use Rattle.scripts.specs.Scripts.{SpellsScript}
use Rattle.scripts.specs.ScriptFaults.{script_language}
use Rattle.scripts.proofs.ScriptLaws.{script_grammar, read_fits}
use Rattle.scripts.proofs.script.read_script.Goals as goal

-- no word is kept yet, so each that is kept is so
pub read-requires : goal.read-requires
read-requires c κs = ((refl, tt), (c.for_text.ensures c.args.prelude.now, search rules))

pub returns-clause-read : goal.returns-clause-read
returns-clause-read c =
    let t = c.args.prelude.now in
    itself_by_grammar (script_language t) (SpellsScript t) (script_grammar t) c.args.text.now _ c.read.ensures

pub returns-clause-fits : goal.returns-clause-fits
returns-clause-fits c =
    let t = c.args.prelude.now in
    read_fits t c.args.text.now _ c.floats-floats.ensures.sound
    (itself_by_grammar (script_language t) (SpellsScript t) (script_grammar t) c.args.text.now _ c.read.ensures)
