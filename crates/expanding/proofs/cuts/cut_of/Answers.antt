-- What is left to show of `cut_of`.
use Rattle.std.proofs.Common.{◌∙◌, ap}
use Rattle.std.specs.Option.{option_map}
use Rattle.expanding.specs.Views.{seen_cut}
use Rattle.expanding.proofs.Cutting.{uncut, unended, cut_there}
use Rattle.expanding.proofs.cuts.cut_of.Goals as goal

pub returns-in_err-begins : goal.returns-in_err-begins
returns-in_err-begins c = ap (option_map seen_cut) c.from_residual.ensures ∙ uncut c.args.part.now c.in_err-begins.ensures

pub returns-in_err-ends : goal.returns-in_err-ends
returns-in_err-ends c =
    ap (option_map seen_cut) c.from_residual-in_err-ends.ensures
    ∙ unended c.args.part.now c.in_ok-begins.begins c.in_ok-begins.ensures c.split_at.result.0.now c.split_at.result.1.now
    c.split_at.ensures.front c.split_at.ensures.back c.in_err-ends.ensures

pub returns : goal.returns
returns c =
    cut_there c.args.part.now c.in_ok-begins.begins c.in_ok-begins.ensures c.split_at.result.0.now c.split_at.result.1.now
    c.split_at.ensures.front c.split_at.ensures.back c.in_ok-ends.ends c.in_ok-ends.ensures c.split_at-2.result.0.now
    c.split_at-2.result.1.now c.split_at-2.ensures.front c.split_at-2.ensures.back
