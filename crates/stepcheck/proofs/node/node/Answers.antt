use Rattle.std.proofs.Common.{sym, ◌∙◌}
use Rattle.std.proofs.lemmas.Result.{IfOk-weaker, IfErr-weaker}
use Rattle.derivation.proofs.Nodes.{too-long-only}
use Rattle.stepcheck.proofs.node.node.Goals as goal

pub returns-then-not-branch-clause-err : goal.returns-then-not-branch-clause-err
returns-then-not-branch-clause-err c = λ _.
    let types = rw c.as_slice-floats.ensures at (c.have_types.ensures.0 c.if-not-have_types.false) in
    let hyps = rw (c.new-substitution.ensures, c.as_slice.ensures, c.behind-logical.ensures, c.as_slice-floats.ensures) at
    (c.are_substituted.ensures.0 c.if-not-are_substituted.false) in
    let pairs = rw (c.new-substitution.ensures, c.as_slice-floats.ensures, c.as_slice-2.ensures) at c.in_ok-pairs_fit.ensures in
    (types, hyps, λ h. let both = sym c.if-not-branch.true ∙ pairs.1 h in cc)

pub returns-clause-ok : goal.returns-clause-ok
returns-clause-ok c =
    let types = rw c.as_slice-floats.ensures at (c.have_types.ensures.0 c.if-not-have_types.false) in
    let hyps = rw (c.new-substitution.ensures, c.as_slice.ensures, c.behind-logical.ensures, c.as_slice-floats.ensures) at
    (c.are_substituted.ensures.0 c.if-not-are_substituted.false) in
    let pairs = rw (c.new-substitution.ensures, c.as_slice-floats.ensures, c.as_slice-2.ensures) at
    (c.in_ok-pairs_fit.ensures.0 c.if-not-branch.false) in
    IfOk-weaker c.conclude.result _ _ (λ e h. record {
      one_each = c.requires;
      types = types;
      hypotheses = hyps;
      pairs = pairs;
      is_conclusion = rw (c.new-substitution.ensures, c.as_slice-floats.ensures, c.as_slice-3.ensures) at h.0;
      short = h.1;
    }) c.conclude.ensures.value

pub returns-clause-err : goal.returns-clause-err
returns-clause-err c =
    let types = rw c.as_slice-floats.ensures at (c.have_types.ensures.0 c.if-not-have_types.false) in
    let hyps = rw (c.new-substitution.ensures, c.as_slice.ensures, c.behind-logical.ensures, c.as_slice-floats.ensures) at
    (c.are_substituted.ensures.0 c.if-not-are_substituted.false) in
    let pairs = rw (c.new-substitution.ensures, c.as_slice-floats.ensures, c.as_slice-2.ensures) at
    (c.in_ok-pairs_fit.ensures.0 c.if-not-branch.false) in
    IfErr-weaker c.conclude.result _ _
    (λ kind h n. too-long-only c.args.proving.prelude.now c.args.proving.thesis.now c.args.frame.now c.args.args.now kind types hyps pairs
    (rw (c.new-substitution.ensures, c.as_slice-floats.ensures, c.as_slice-3.ensures) at h) n) c.conclude.ensures.kinds

pub returns-then-not-have_types-clause-err : goal.returns-then-not-have_types-clause-err
returns-then-not-have_types-clause-err c = λ _ h.
    let types = rw c.as_slice-floats.ensures at c.have_types.ensures in
    let both = sym c.if-not-have_types.true ∙ types.1 h in cc

pub returns-then-not-are_substituted-clause-err : goal.returns-then-not-are_substituted-clause-err
returns-then-not-are_substituted-clause-err c = λ _.
    let types = rw c.as_slice-floats.ensures at (c.have_types.ensures.0 c.if-not-have_types.false) in
    let hyps = rw (
      c.new-substitution.ensures,
      c.as_slice.ensures,
      c.behind-logical.ensures,
      c.as_slice-floats.ensures,
    ) at c.are_substituted.ensures in
    (types, λ h. let both = sym c.if-not-are_substituted.true ∙ hyps.1 h in cc)
