use Rattle.outside.proofs.Standing.{adds_no_note, adds_note}
use Rattle.outside.proofs.host.HostWorld.note.Goals as goal

pub returns-then-is_terminal : goal.returns-then-is_terminal
returns-then-is_terminal g c =
    adds_note _ _ _ _ _ c.args.line.now _ c.if-is_terminal.ensures c.say.ensures.put c.say.ensures.lasts c.say.ensures.other

pub returns-else-is_terminal : goal.returns-else-is_terminal
returns-else-is_terminal g c = adds_no_note _ c.args.line.now c.if-is_terminal.ensures
