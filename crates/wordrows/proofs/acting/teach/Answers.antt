use Rattle.std.proofs.Common.{◌∙◌, ◌++◌, ap, refl}
use Rattle.wordrows.proofs.Later.{rests_known, rests_taught}
use Rattle.wordrows.proofs.acting.teach.Goals as goal

pub returns-in_err-extend_from_slice-clause-rests : goal.returns-in_err-extend_from_slice-clause-rests
returns-in_err-extend_from_slice-clause-rests c =
    let learns = c.learn.ensures in
    rests_known c.args.words.now c.args.rest.now c.learn.new.pass c.extend_from_slice.new.self (ap (λ k. k.home) learns.is) learns.own.2
    c.in_err-extend_from_slice.ensures.items c.requires.rests

pub returns-in_err-extend_from_slice-clause-other : goal.returns-in_err-extend_from_slice-clause-other
returns-in_err-extend_from_slice-clause-other c =
    let learns = c.learn.ensures in
    rests_known c.args.words.now c.args.other.now c.learn.new.other c.args.other.now.ranges
    (ap (λ k. k.home) learns.other_is) learns.other.2 refl
    c.requires.other

pub returns-clause-rests : goal.returns-clause-rests
returns-clause-rests c =
    let learns = c.learn.ensures in
    rests_taught c.args.words.now c.args.rest.now c.args.other.now c.learn.new.pass c.extend_from_slice.new.self
    (ap (λ k. k.home) learns.is)
    learns.own.2 learns.told.2 (c.in_ok-extend_from_slice.ensures.items
    ∙ ap (λ xs. c.args.rest.now.ranges.items ++ xs) c.as_slice.ensures.value)
    c.requires.rests c.requires.other

pub returns-clause-other : goal.returns-clause-other
returns-clause-other c =
    let learns = c.learn.ensures in
    rests_known c.args.words.now c.args.other.now c.learn.new.other c.args.other.now.ranges
    (ap (λ k. k.home) learns.other_is) learns.other.2 refl
    c.requires.other
