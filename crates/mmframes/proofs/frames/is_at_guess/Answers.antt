use Rattle.std.proofs.Common.{◌∙◌, sym}
use Rattle.std.proofs.lemmas.Bool.Decides.{Decides-eqb}
use Rattle.mmframes.proofs.Mandatory.{at-has}
use Rattle.mmframes.proofs.frames.is_at_guess.Goals as goal

pub returns-in-Some-get : goal.returns-in-Some-get
returns-in-Some-get c = λ t.
    let read = c.in-Some-get.ensures.lookup in
    at-has c.args.float c.args.floats.now _ 0 read.3.0 (sym (read.3.1 0) ∙ (Decides-eqb _ _).0 t)
