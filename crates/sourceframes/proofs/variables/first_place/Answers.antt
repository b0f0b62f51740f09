-- What is left to show of `first_place`.
use Rattle.std.proofs.Common.{sym, ◌∙◌}
use Rattle.sourceframes.specs.Frames.{is_that, seen_variable}
use Rattle.sourceframes.proofs.Framed.{placed_map, none_of, first_of, still_none}
use Rattle.sourceframes.proofs.variables.first_place.Goals as goal

pub returns-then-is_that : goal.returns-then-is_that
returns-then-is_that c =
    sym (placed_map (is_that c.args.word.now) seen_variable c.args.listed.now
    ∙ first_of (λ v. is_that c.args.word.now (seen_variable v)) c.args.listed.now c.loop-place.place _ c.loop-place-test.true
    c.loop-place.invariant (sym c.is_that.ensures ∙ c.if-is_that.true))

pub loop-place-preserved : goal.loop-place-preserved
loop-place-preserved c =
    still_none (λ v. is_that c.args.word.now (seen_variable v)) c.args.listed.now c.loop-place.place _ c.loop-place-test.true
    c.loop-place.invariant (sym c.is_that.ensures ∙ c.if-is_that.false)

pub returns : goal.returns
returns c =
    sym (placed_map (is_that c.args.word.now) seen_variable c.args.listed.now
    ∙ none_of (λ v. is_that c.args.word.now (seen_variable v)) c.args.listed.now c.loop-place.place c.loop-place-test.false
    c.loop-place.invariant)
