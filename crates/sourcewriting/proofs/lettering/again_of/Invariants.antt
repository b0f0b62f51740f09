-- What the loop of `again_of` keeps.
use Rattle.std.proofs.Common.{◌≡◌, ◌<◌, ℕ, Some, true, length, IsTrue}
use Rattle.std.specs.Prelude.{slice_get}
use Rattle.sourcewriting.specs.declared.walking.Put.{Put}
use Rattle.sourcewriting.proofs.lettering.again_of.Given as goal

abbrev pub invariant-loop-put : goal.invariant-loop-put
invariant-loop-put l = record {
  many : length l.again.items ≡ l.nodes;
  so_far : (k : ℕ) (p : Put) → slice_get l.puts k ≡ Some p → k < l.put-index → IsTrue p.is_again → p.node < l.nodes
      → slice_get l.again.items p.node ≡ Some true;
}
