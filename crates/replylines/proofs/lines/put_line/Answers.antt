-- What is left to show of `put_line`.
use Rattle.std.proofs.Common.{◌∙◌, ap}
use Rattle.serde_json.specs.Written.{has_float}
use Rattle.replylines.proofs.NoFloats.{no_float}
use Rattle.replylines.proofs.lines.put_line.Goals as goal

pub put_value-requires : goal.put_value-requires
put_value-requires c =
    let h = c.args.header in
    ap has_float c.in_ok-value.ensures ∙ no_float h.written c.args.prelude.now h.path.now h.line c.args.commands.now c.args.outcome.now
