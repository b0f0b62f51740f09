-- What is left to show of `number_of`.
use Rattle.std.proofs.Common.{◌≡◌, ◌∙◌, ◌+◌, ◌∷◌, [], length, ap, arith}
use Rattle.std.proofs.lemmas.List.{map-append, length-map}
use Rattle.source.specs.Views.{seen_words}
use Rattle.sourcewriting.specs.declared.shared.CountedLabel.{CountedLabel}
use Rattle.sourcewriting.specs.Reading.{counts_of}
use Rattle.sourcewriting.proofs.Numbering.{number_in_front, number_behind}
use Rattle.sourcewriting.proofs.wording.number_of.Goals as goal

pub returns-in-Some-clause-numbered : goal.returns-in-Some-clause-numbered
returns-in-Some-clause-numbered c = λ few none.
    number_in_front (seen_words c.args.mandatory.now) c.args.others.now.items c.in-Some.place c.args.word.label.now c.args.word.takes
    c.in-Some.ensures none

pub returns-clause-numbered : goal.returns-clause-numbered
returns-clause-numbered c = λ few none.
    let mandatory = seen_words c.args.mandatory.now in
    let old = c.args.others.now.items in
    let word = c.args.word in
    let more = ap counts_of c.in_ok-push.ensures.items
    ∙ map-append (λ (c : CountedLabel). (c.label.now, c.takes)) old (word ∷ []) in
    let long = length-map c.args.mandatory.now (λ w. w.now) in
    let number : c.saturating_add-number.result ≡ length mandatory + length old =
    omega (arith, c.saturating_add-number.ensures, c.len.ensures, c.args.others.now.ok.0, long, few) in
    number_behind mandatory old c.push.new.self.items word.label.now word.takes c.saturating_add-number.result more number
