-- What the loop of `edited_by_label` keeps.
use Rattle.std.proofs.Common.{◌≡◌, ◌<◌, ℕ, Some, map}
use Rattle.std.specs.Prelude.{slice_get}
use Rattle.std.specs.Borrow.{Bor}
use Rattle.std.specs.HashMap.{get_by}
use Rattle.std.specs.Str.{bytes_eq}
use Rattle.mmsyntax.specs.declared.statement.Assertion.{Assertion}
use Rattle.sourceediting.specs.Views.{AreLabelled}
use Rattle.sourceediting.proofs.planning.edited_by_label.Given as goal

-- what is found is one of the assertions, and those that were met are found
abbrev pub invariant-loop-entry : goal.invariant-loop-entry
invariant-loop-entry l = record {
  labelled : AreLabelled l.found (map (λ r. r.assertion) l.entries);
  all : (k : ℕ) (a : Assertion) → slice_get (map (λ r. r.assertion) l.entries) k ≡ Some a → k < l.entry-index
      → (b : Bor Assertion) × (get_by (λ k. bytes_eq a.label k.now) l.found ≡ Some b);
}
