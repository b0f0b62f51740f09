-- What is left to show of `are_ascending`.
use Rattle.std.proofs.Common.{◌≡◌, true, sym, ◌∙◌, refl}
use Rattle.mmsyntax.proofs.Ascending.{by_next, ascending, nothing_ascends, first_two}
use Rattle.mmsyntax.proofs.fitting.are_ascending.Goals as goal

pub returns-in-len1-up : goal.returns-in-len1-up
returns-in-len1-up c = (
  (λ h. absurd cc),
  (λ a.
      let left = c.loop-rest.invariant.1 (by_next c.args.pairs.now a) in
      let yes : c.comes_before.result ≡ true = c.comes_before.ensures.1
      (first_two c.loop-rest.rest.now _ (0, 0) c.in-len1-up-later.len_at_least left) in
      sym c.if-not-comes_before.true ∙ yes),
)

pub returns : goal.returns
returns c = (
  (λ _. ascending c.args.pairs.now (c.loop-rest.invariant.0 (nothing_ascends c.loop-rest.rest.now c.in_default.len_below))),
  (λ _. refl),
)
