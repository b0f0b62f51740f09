-- What is left to show of `passed_length`.
use Rattle.std.proofs.Common.{length, rules}
use Rattle.mmsyntax.specs.Layout.{no_float}
use Rattle.drafts.proofs.Passed.{no_assertion, first_name, first_named, first_measures}
use Rattle.drafts.proofs.limits.passed_length.Goals as goal

pub returns-in-Some-clause-passed : goal.returns-in-Some-clause-passed
returns-in-Some-clause-passed c = first_name 255 c.args.draft.now.constants c.in-Some.place (search rules)

pub returns-in-Some-long_name-clause-passed : goal.returns-in-Some-long_name-clause-passed
returns-in-Some-long_name-clause-passed c = first_name 255 c.args.draft.now.variables c.in-Some-long_name.place (search rules)

pub returns-in-Some-long_float-clause-passed : goal.returns-in-Some-long_float-clause-passed
returns-in-Some-long_float-clause-passed c =
    first_named no_float (λ f. f.label) 255 c.args.draft.now.floats c.in-Some-long_float.place (search rules)

pub returns-in-Some-long_label-clause-passed : goal.returns-in-Some-long_label-clause-passed
returns-in-Some-long_label-clause-passed c =
    first_measures no_assertion (λ a. length a.label) 255 c.args.draft.now.assertions c.in-Some-long_label.place (search rules)
