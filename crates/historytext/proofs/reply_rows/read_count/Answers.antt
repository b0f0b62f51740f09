-- What is left to show of `read_count`.
use Rattle.std.proofs.Common.{sym, ◌∙◌}
use Rattle.scripts.proofs.Numerals.{numeral_digits}
use Rattle.historytext.proofs.reply_rows.read_count.Goals as goal

pub count-requires : goal.count-requires
count-requires c = numeral_digits c.args.token.text.now (sym c.is_numeral.ensures ∙ c.if-not-is_numeral.false)
