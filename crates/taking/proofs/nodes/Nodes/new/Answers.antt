-- What is left to show of `new`.
use Rattle.std.proofs.Common.{sym, subst, List, ℕ, []}
use Rattle.taking.specs.declared.nodes.Node.{Node}
use Rattle.taking.specs.Views.{AreSound}
use Rattle.taking.proofs.Kept.{sound_none}
use Rattle.taking.proofs.nodes.Nodes.new.Goals as goal

pub invariant_of-result : goal.invariant_of-result
invariant_of-result c =
    subst (λ (args : List ℕ). AreSound args c.new.result.items) (sym c.new-2.ensures.items)
    (subst (λ (ns : List Node). AreSound [] ns) (sym c.new.ensures.items) sound_none)
