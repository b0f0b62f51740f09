-- What is left to show of `hypothesis_number`.
use Rattle.std.proofs.Common.{◌<◌, sym, ◌∙◌, arith}
use Rattle.std.specs.Str.Parse.{digits_value}
use Rattle.mmsyntax.proofs.Numerals.{counts, written_some, written_none}
use Rattle.mmsyntax.proofs.DottedWords.{split_at, split_both, no_label, no_dot, no_count, too_many, numbered}
use Rattle.mmsyntax.proofs.dotted.hypothesis_number.Goals as goal

pub returns-in_err-behind_label : goal.returns-in_err-behind_label
returns-in_err-behind_label c =
    c.from_residual.ensures ∙ no_label c.args.label.now c.args.word.now c.in_err-behind_label.ensures.cases

pub returns-in_err-numeral : goal.returns-in_err-numeral
returns-in_err-numeral c =
    let label = c.args.label.now in
    let w = c.args.word.now in
    let rest = c.in_ok-behind_label.behind_label.now in
    let front = c.in_ok-behind_label.ensures.cases in
    c.from_residual-in_err-numeral.ensures
    ∙ no_dot label w rest c.as_slice.result.now c.as_slice.ensures (split_at w label rest front.0 front.1) c.in_err-numeral.ensures.cases

pub returns-then-not-is_number_from_one : goal.returns-then-not-is_number_from_one
returns-then-not-is_number_from_one c =
    let front = c.in_ok-behind_label.ensures.cases in
    let back = c.in_ok-numeral.ensures.cases in
    let numeral = c.in_ok-numeral.numeral.now in
    let is = split_both c.args.label.now c.args.word.now c.in_ok-behind_label.behind_label.now c.as_slice.result.now numeral
    c.as_slice.ensures front.0 front.1 back.0 back.1 in
    no_count c.args.label.now c.args.word.now numeral is (sym c.is_number_from_one.ensures ∙ c.if-not-is_number_from_one.true)

pub number-requires : goal.number-requires
number-requires c =
    (counts c.in_ok-numeral.numeral.now (sym c.is_number_from_one.ensures ∙ c.if-not-is_number_from_one.false)).digits

pub returns-in_err-k : goal.returns-in_err-k
returns-in_err-k c =
    let front = c.in_ok-behind_label.ensures.cases in
    let back = c.in_ok-numeral.ensures.cases in
    let numeral = c.in_ok-numeral.numeral.now in
    let is = split_both c.args.label.now c.args.word.now c.in_ok-behind_label.behind_label.now c.as_slice.result.now numeral
    c.as_slice.ensures front.0 front.1 back.0 back.1 in
    let many = written_none 4294967295 numeral (sym c.in_err-k.ensures) in
    c.from_residual-in_err-k.ensures ∙ too_many c.args.label.now c.args.word.now numeral is (omega arith)

pub returns-then-k-gt-HIGHEST_NUMBER : goal.returns-then-k-gt-HIGHEST_NUMBER
returns-then-k-gt-HIGHEST_NUMBER c =
    let front = c.in_ok-behind_label.ensures.cases in
    let back = c.in_ok-numeral.ensures.cases in
    let numeral = c.in_ok-numeral.numeral.now in
    let is = split_both c.args.label.now c.args.word.now c.in_ok-behind_label.behind_label.now c.as_slice.result.now numeral
    c.as_slice.ensures front.0 front.1 back.0 back.1 in
    let value = written_some 4294967295 numeral c.in_ok-k.k (sym c.in_ok-k.ensures) in
    let high : 1000 < digits_value 10 numeral = let many = c.if-k-gt-HIGHEST_NUMBER.true in omega arith in
    too_many c.args.label.now c.args.word.now numeral is high

pub returns : goal.returns
returns c =
    let front = c.in_ok-behind_label.ensures.cases in
    let back = c.in_ok-numeral.ensures.cases in
    let numeral = c.in_ok-numeral.numeral.now in
    let is = split_both c.args.label.now c.args.word.now c.in_ok-behind_label.behind_label.now c.as_slice.result.now numeral
    c.as_slice.ensures front.0 front.1 back.0 back.1 in
    numbered c.args.label.now c.args.word.now numeral c.in_ok-k.k is (sym c.is_number_from_one.ensures ∙ c.if-not-is_number_from_one.false)
    (written_some 4294967295 numeral c.in_ok-k.k (sym c.in_ok-k.ensures)) c.if-k-gt-HIGHEST_NUMBER.false
