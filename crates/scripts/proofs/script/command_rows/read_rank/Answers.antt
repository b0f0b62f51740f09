-- What is left to show of `read_rank`.
use Rattle.std.proofs.Common.{sym, ◌∙◌}
use Rattle.scripts.proofs.Numerals.{numeral_digits}
use Rattle.scripts.proofs.script.command_rows.read_rank.Goals as goal

pub number-requires : goal.number-requires
number-requires c = numeral_digits c.args.token.text.now (sym c.is_numeral.ensures ∙ c.if-not-is_numeral.false)
