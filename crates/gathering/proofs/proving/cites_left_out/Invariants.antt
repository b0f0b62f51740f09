-- What the loop of `cites_left_out` keeps: no node so far names what isn't chosen.
use Rattle.std.proofs.Common.{◌≡◌, false, map, take, []}
use Rattle.std.specs.Prelude.{slice_index_or}
use Rattle.std.specs.List.{list_any}
use Rattle.source.specs.Scopes.{is_in}
use Rattle.source.specs.Views.{seen_words}
use Rattle.taking.specs.Reasons.{Choice, is_left_out}
use Rattle.gathering.proofs.proving.cites_left_out.Given as goal

abbrev pub invariant-loop-node : goal.invariant-loop-node
invariant-loop-node g l =
    (choice : Choice) → map (λ x. is_in choice.chosen x.label) (g.D.Declared.scope l.declared).assertions ≡ l.chosen
    → list_any (λ n. is_left_out (take l.place (g.D.Declared.scope l.declared).assertions) choice.chosen
    (slice_index_or (seen_words l.tree.labels.items) n.named [])) (take l.node l.tree.proof.nodes) ≡ false
