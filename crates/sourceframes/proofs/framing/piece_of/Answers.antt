-- What is left to show of `piece_of`.
use Rattle.std.proofs.Common.{Some, None, ◌++◌, ap, sym, ◌∙◌}
use Rattle.std.specs.Prelude.{Err}
use Rattle.std.proofs.lemmas.Result.{IfOk-weaker}
use Rattle.sourceframes.specs.Names.{words_of, name_in}
use Rattle.sourceframes.specs.Frames.{part_of}
use Rattle.sourceframes.proofs.Framed.{found_place}
use Rattle.sourceframes.proofs.framing.piece_of.Goals as goal

pub returns-in-Some-clause-made : goal.returns-in-Some-clause-made
returns-in-Some-clause-made c =
    IfOk-weaker c.argument_at.result _ _
    (λ p is hs vs more.
    ap (part_of (name_in (words_of c.args.table.now ++ more))) is
    ∙ found_place c.args.word.now c.args.variables.now (Some c.in-Some.place) (sym c.in-Some.is ∙ c.place_of.ensures) hs vs)
    c.argument_at.ensures

pub returns-in_ok-number-in-None-clause-made : goal.returns-in_ok-number-in-None-clause-made
returns-in_ok-number-in-None-clause-made c = λ hs vs more.
    ap (λ w. Err w) (c.in_ok-number-in-None.ensures.named more)
    ∙ found_place c.args.word.now c.args.variables.now None (sym c.in-None.is ∙ c.place_of.ensures) hs vs
