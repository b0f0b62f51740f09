-- What is left to show of `words`.
use Rattle.std.proofs.Common.{◌∙◌, ◌++◌, map, sym, ap}
use Rattle.std.proofs.lemmas.List.{append-nil, at_drop_all}
use Rattle.mmtext.specs.Views.{seen}
use Rattle.expanding.specs.Views.{seen_stretches}
use Rattle.expanding.proofs.Laying.{left_in, left_laid}
use Rattle.expanding.proofs.laid.Laid.words.Goals as goal

pub returns : goal.returns
returns c = λ ts is.
    let ws = c.as_slice-word-items.result.now in
    let made = map seen c.loop-word.words.items in
    let none = at_drop_all (λ us. left_in us c.loop-word.rest.now) ws c.loop-word.word-index c.loop-word-test.false in
    sym (append-nil made)
    ∙ (ap (λ us. made ++ us) (sym none)
    ∙ (sym c.loop-word.invariant
    ∙ (ap (left_in ws) is.text ∙ left_laid ws ts (ap seen_stretches c.as_slice-word-items.ensures.value ∙ is.words))))
