-- What is left to show of `passed_limit`.
use Rattle.drafts.specs.Drafts.{contents_of}
use Rattle.drafts.proofs.Passed.{none_passed, if_all_none}
use Rattle.drafts.proofs.limits.passed_limit.Goals as goal

pub returns-clause-none : goal.returns-clause-none
returns-clause-none c =
    let n = c.in_default.ensures in
    let l = c.in_default-passed_length.ensures in
    let a = c.passed_by_assertion.ensures in
    if_all_none c.passed_by_assertion.result
    (λ hyps symbols pairs steps. none_passed (contents_of c.args.draft.now) (record {
      constants = n.constants;
      variables = n.variables;
      floats = n.floats;
      assertions = n.assertions;
      constant_names = l.constants;
      variable_names = l.variables;
      float_labels = l.floats;
      labels = l.labels;
      hyps = hyps;
      symbols = symbols;
      pairs = pairs;
      steps = steps;
    })) a.hyps a.symbols a.pairs a.steps
