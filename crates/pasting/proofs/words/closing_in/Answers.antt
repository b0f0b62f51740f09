-- What is left to show of `closing_in`.
use Rattle.std.proofs.Common.{◌∙◌, sym, codes}
use Rattle.expanding.proofs.Cutting.{place_seen}
use Rattle.pasting.proofs.words.closing_in.Goals as goal

pub returns-clause-value : goal.returns-clause-value
returns-clause-value c = c.first_place.ensures.value ∙ sym (place_seen (codes ")") c.args.words.now)
