-- What is left to show of `first_broken`.
use Rattle.std.proofs.Common.{ℕ, List, map, sym, ◌∙◌}
use Rattle.std.specs.Prelude.{◌&&◌}
use mathlib.Core.Bool.{not}
use Rattle.std.specs.Borrow.{Bor}
use Rattle.source.specs.Scopes.{Pair, is_mandatory_variable}
use Rattle.source.specs.Views.{seen_pairs}
use Rattle.verifying.specs.Citations.{are_apart, replacement}
use Rattle.explaining.specs.Shown.{seen_assertion, seen_filled, substitution_by}
use Rattle.explaining.proofs.Lists.{find_filtered, found_here, found_nowhere}
use Rattle.explaining.proofs.apart.first_broken.Goals as goal

pub returns-then-branch : goal.returns-then-branch
returns-then-branch c =
    let x = seen_assertion c.args.theorem.now in
    let a = seen_assertion c.args.cited.now in
    let s = substitution_by (map seen_filled c.args.filled.now) in
    let seen = λ (p : Bor (List ℕ) × Bor (List ℕ)). let q : Pair = (p.0.now, p.1.now) in q in
    let near = λ (p : Pair). not (are_apart x (replacement s p.0) (replacement s p.1)) in
    let kept = λ (p : Pair). is_mandatory_variable a.active a.statement p.0 && is_mandatory_variable a.active a.statement p.1 in
    sym (find_filtered near kept (seen_pairs c.args.pairs.now)
    ∙ found_here seen (λ p. kept p && near p) c.args.pairs.now c.loop-pair.pair-index _ c.loop-pair-test.true c.loop-pair.invariant
    (sym c.in_ok-is_broken.ensures ∙ c.if-branch.true))

pub returns : goal.returns
returns c =
    let x = seen_assertion c.args.theorem.now in
    let a = seen_assertion c.args.cited.now in
    let s = substitution_by (map seen_filled c.args.filled.now) in
    let seen = λ (p : Bor (List ℕ) × Bor (List ℕ)). let q : Pair = (p.0.now, p.1.now) in q in
    let near = λ (p : Pair). not (are_apart x (replacement s p.0) (replacement s p.1)) in
    let kept = λ (p : Pair). is_mandatory_variable a.active a.statement p.0 && is_mandatory_variable a.active a.statement p.1 in
    sym (find_filtered near kept (seen_pairs c.args.pairs.now)
    ∙ found_nowhere seen (λ p. kept p && near p) c.args.pairs.now c.loop-pair.pair-index c.loop-pair-test.false c.loop-pair.invariant)
