-- What is left to show of `place_in`.
use Rattle.std.proofs.Common.{◌∙◌, [], sym}
use Rattle.mmsyntax.proofs.Names.{same_bytes}
use Rattle.sourcewriting.proofs.Numbering.{word_at_place}
use Rattle.sourcewriting.proofs.wording.place_in.Goals as goal

pub returns-then-eq : goal.returns-then-eq
returns-then-eq c =
    word_at_place c.args.labels.now c.loop-place.place (record { ref_ptr = (0, 0); now = [] }) c.args.label.now c.loop-place-test.true
    (same_bytes _ _ (sym c.eq.ensures ∙ c.if-eq.true))
