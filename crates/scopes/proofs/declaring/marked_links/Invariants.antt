use Rattle.std.proofs.Common.{◌≡◌, take}
use Rattle.scopes.specs.Views.{marked_links}
use Rattle.scopes.proofs.declaring.marked_links.Given as goal

abbrev pub invariant-loop-hypothesis : goal.invariant-loop-hypothesis
invariant-loop-hypothesis l = l.links.items ≡ marked_links (take l.hypothesis-index l.active)
