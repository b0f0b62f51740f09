-- What is left to show of `unverified`.
use Rattle.std.proofs.Common.{◌∙◌, ap}
use Rattle.verifytext.specs.Lines.{refusal_line}
use Rattle.editedsource.proofs.telling.unverified.Goals as goal

pub returns : goal.returns
returns c = (
  λ e. c.in_default.not-NoMemory e,
  c.in_ok-refusal_line.ensures
      ∙ ap (λ path. refusal_line path c.args.text.now c.args.why) (c.as_str.ensures.value ∙ c.in_ok-path.ensures.ok),
)
