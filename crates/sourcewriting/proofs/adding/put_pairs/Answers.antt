-- What is left to show of `put_pairs`.
use Rattle.std.proofs.Common.{ℕ, List, sym, subst}
use Rattle.std.specs.Prelude.{All, Vec}
use Rattle.std.specs.declared.alloc.Global.{Global}
use Rattle.mmsyntax.specs.declared.statement.Symbol.TheVariants.{Var}
use Rattle.sourcewriting.specs.Added.{IsSpelled}
use Rattle.sourcewriting.specs.Groups.{AreGrouped, seen_groups}
use Rattle.sourcewriting.proofs.Groups.{all_in_group}
use Rattle.sourcewriting.proofs.Named.{refuted}
use Rattle.sourcewriting.proofs.adding.put_pairs.Goals as goal

pub returns-then-not-branch : goal.returns-then-not-branch
returns-then-not-branch c = λ spelled.
    let pairs = c.args.pairs.now in
    let P : ℕ → Type 0 = λ v. IsSpelled c.args.words.now (Var v) in
    let grouped = subst (λ (gs : List (Vec ℕ Global)). AreGrouped pairs (seen_groups gs)) (sym c.as_slice-group-items.ensures.value)
    c.in_ok-groups.ensures in
    let group = c.group-item.result in
    let groups = c.as_slice-group-items.result.now in
    let all = all_in_group P pairs groups c.loop-group.group-index group group c.loop-group-test.true c.group-item.is grouped spelled in
    absurd (refuted _ (c.in_ok-put_variables.ensures (subst (All P) (sym c.as_slice.ensures.value) all)) c.if-not-branch.true)
