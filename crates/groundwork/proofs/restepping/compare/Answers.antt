use Rattle.std.proofs.Common.{◌≡◌, List, ℕ, subst}
use Rattle.cells.specs.Counts.{AreOnlyIn}
use Rattle.groundwork.proofs.restepping.compare.Goals as goal

-- what is told of the slices is told of the lists
only_there : (k l m n only : List ℕ) → k ≡ l → m ≡ n → AreOnlyIn k m only → AreOnlyIn l n only
only_there k l m n only first second h = subst (λ x. AreOnlyIn x n only) first (subst (λ x. AreOnlyIn k x only) second h)

pub returns : goal.returns
returns c = record {
  before = c.in_ok-before.before.items;
  now = c.in_ok-now.now.items;
  cited_before = c.in_ok-before.ensures;
  cited_now = c.in_ok-now.ensures;
  drops = only_there _ _ _ _ _ c.as_slice.ensures.value c.as_slice-2.ensures.value c.in_ok-dropped.ensures;
  gains = only_there _ _ _ _ _ c.as_slice-3.ensures.value c.as_slice-4.ensures.value c.in_ok-gained.ensures;
}
