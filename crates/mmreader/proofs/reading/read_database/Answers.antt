-- What is left to show of `read_database`.
use Rattle.std.proofs.Common.{◌∙◌, Ok, sym, ap₂, subst}
use Rattle.mmsyntax.specs.Faults.{database_language}
use Rattle.mmsyntax.specs.Grammar.{Spells}
use Rattle.mmsyntax.specs.Layout.{HasSpelling}
use Rattle.mmsyntax.proofs.Declarable.{prelude_sound}
use Rattle.mmtext.proofs.TextLaws.{by_grammar}
use Rattle.mmreader.specs.Readers.{contents_of}
use Rattle.mmreader.proofs.DatabaseLaws.{database_grammar}
use Rattle.mmreader.proofs.reading.read_database.Goals as goal

pub new-requires-in-Ok : goal.new-requires-in-Ok
new-requires-in-Ok c =
    prelude_sound c.in-Ok.symbols c.in-Ok.assertions.items
    record {
      text = c.args.text.now;
      spells = (by_grammar database_language Spells database_grammar c.args.text.now (Ok _) c.in-Ok.ensures).found;
    }

pub new-requires-in-Ok-2 : goal.new-requires-in-Ok-2
new-requires-in-Ok-2 c =
    subst HasSpelling (sym (ap₂ contents_of c.new-in-Ok.ensures c.from_vec.ensures))
    record {
      text = c.args.text.now;
      spells = (by_grammar database_language Spells database_grammar c.args.text.now (Ok _) c.in-Ok.ensures).found;
    }

pub returns-in-Ok : goal.returns-in-Ok
returns-in-Ok c =
    let same = c.new-in-Ok-2.ensures ∙ ap₂ contents_of c.new-in-Ok.ensures c.from_vec.ensures in
    rw same (by_grammar database_language Spells database_grammar c.args.text.now (Ok _) c.in-Ok.ensures)

pub returns-in-Err : goal.returns-in-Err
returns-in-Err c = by_grammar database_language Spells database_grammar c.args.text.now _ c.in-Err.ensures
