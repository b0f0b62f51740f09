-- What is left to show of `place_of`.
use Rattle.std.proofs.Common.{◌∙◌, sym, ap}
use Rattle.expanding.specs.Views.{seen_stretches}
use Rattle.expanding.proofs.Laying.{stood_laid, stood_here, stood_behind}
use Rattle.expanding.proofs.laid.Laid.place_of.Goals as goal

pub returns-then-left-word : goal.returns-then-left-word
returns-then-left-word c = λ ts is.
    let ws = c.as_slice-word-items.result.now in
    sym (stood_here ws c.loop-word.word-index c.args.end c.loop-word.left (record { length = 0; place = 0 }) c.loop-word-test.true
    c.if-left-word.true)
    ∙ (c.loop-word.invariant
    ∙ stood_laid ws ts c.args.end c.args.byte (ap seen_stretches c.as_slice-word-items.ensures.value ∙ is.words))

pub returns : goal.returns
returns c = λ ts is.
    let ws = c.as_slice-word-items.result.now in
    sym (stood_behind ws c.loop-word.word-index c.args.end c.loop-word.left c.loop-word-test.false)
    ∙ (c.loop-word.invariant
    ∙ stood_laid ws ts c.args.end c.args.byte (ap seen_stretches c.as_slice-word-items.ensures.value ∙ is.words))
