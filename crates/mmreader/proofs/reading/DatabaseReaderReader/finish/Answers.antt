use Rattle.std.proofs.Common.{◌≡◌, false, None, refl, sym, ◌∙◌}
use Rattle.mmsyntax.specs.Rows.{Known}
use Rattle.mmsyntax.specs.Faults.{Place, outside, inside, at_start, at_close, after_label, in_constants, in_variables, whole}
use Rattle.mmsyntax.specs.Faults.{float_type, float_variable, float_end, in_distinct, in_hypothesis, in_axiom, in_theorem, in_proof}
use Rattle.mmunits.specs.Views.{known_of}
use Rattle.statementreader.specs.Views.{is_outermost, seen_place}
use Rattle.mmreader.proofs.reading.DatabaseReaderReader.finish.Goals as goal

-- a database ends nowhere but outermost
unended : (k : Known) (p : Place) → is_outermost p ≡ false → None ≡ whole k p
unended k (at_start outside) closed = cc
unended k (at_start (inside b)) closed = refl
unended k at_close closed = refl
unended k (after_label s t) closed = refl
unended k (in_constants b) closed = refl
unended k (in_variables b) closed = refl
unended k (float_type w) closed = refl
unended k (float_variable w n) closed = refl
unended k (float_end w n v m) closed = refl
unended k (in_distinct b vs) closed = refl
unended k (in_hypothesis b w e) closed = refl
unended k (in_axiom s w e) closed = refl
unended k (in_theorem s w e) closed = refl
unended k (in_proof s w e steps) closed = refl

pub returns : goal.returns
returns c =
    unended (known_of c.args.self.symbols c.args.self.units) (seen_place c.args.self.place)
    (sym c.is_outermost-is_whole.ensures ∙ c.if-is_whole.false)
