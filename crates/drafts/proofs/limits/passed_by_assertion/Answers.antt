-- What is left to show of `passed_by_assertion`.
use Rattle.std.proofs.Common.{length, rules}
use Rattle.std.specs.List.{list_any}
use Rattle.drafts.specs.Limits.{expressions, is_long}
use Rattle.drafts.proofs.Passed.{no_assertion, first_passes, first_measures}
use Rattle.drafts.proofs.limits.passed_by_assertion.Goals as goal

pub returns-in-Some-clause-passed : goal.returns-in-Some-clause-passed
returns-in-Some-clause-passed c =
    first_measures no_assertion (λ a. length a.hyps) 1000 c.args.draft.now.assertions c.in-Some.place (search rules)

pub returns-in-Some-many_symbols-clause-passed : goal.returns-in-Some-many_symbols-clause-passed
returns-in-Some-many_symbols-clause-passed c =
    first_passes no_assertion (λ a. list_any is_long (expressions a)) c.args.draft.now.assertions c.in-Some-many_symbols.place
    (search rules)

pub returns-in-Some-many_pairs-clause-passed : goal.returns-in-Some-many_pairs-clause-passed
returns-in-Some-many_pairs-clause-passed c =
    first_measures no_assertion (λ a. length a.pairs) 65535 c.args.draft.now.assertions c.in-Some-many_pairs.place (search rules)

pub returns-in-Some-many_steps-clause-passed : goal.returns-in-Some-many_steps-clause-passed
returns-in-Some-many_steps-clause-passed c =
    first_measures no_assertion (λ a. length a.proof) 16384 c.args.draft.now.assertions c.in-Some-many_steps.place (search rules)
