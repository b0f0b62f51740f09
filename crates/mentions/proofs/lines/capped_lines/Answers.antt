-- What is left to show of `capped_lines`: the first are told.
use Rattle.std.proofs.Common.{◌∙◌, ◌-◌, ◌++◌, ap, length, map}
use Rattle.std.specs.Prelude.{filter}
use Rattle.std.specs.Str.{bytes_eq}
use Rattle.mmtext.specs.Views.{seen}
use Rattle.mentions.specs.Lines.{mention_line, more_line}
use Rattle.mentions.proofs.Telling.{capped}
use Rattle.mentions.proofs.lines.capped_lines.Goals as goal

pub returns : goal.returns
returns c =
    let labels = c.args.labels.now in
    c.in_ok-put_more.ensures
    ∙ ap (λ ls. ls ++ more_line (length labels - c.min-told.result)) c.in_ok-said.ensures
    ∙ capped (λ w. mention_line c.args.out.now w (filter (λ t. bytes_eq t.text w) (map seen c.args.words.now))) labels c.min-told.result
    c.min-told.ensures
