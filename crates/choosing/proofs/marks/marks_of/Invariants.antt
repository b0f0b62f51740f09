-- What the loop of `marks_of` keeps: the labels so far are those of assertions, and these are marked.
use Rattle.std.proofs.Common.{◌≡◌, take}
use Rattle.std.specs.Prelude.{None, find}
use Rattle.source.specs.Scopes.{is_in}
use Rattle.source.specs.Views.{seen_words}
use Rattle.choosing.specs.Marks.{AreMarked}
use Rattle.choosing.proofs.Known.{is_unknown}
use Rattle.choosing.proofs.marks.marks_of.Given as goal

abbrev pub invariant-loop-label : goal.invariant-loop-label
invariant-loop-label g l = record {
  marked : AreMarked (g.D.Declared.scope l.declared).assertions (is_in (seen_words (take l.label-index l.labels))) l.marks.items;
  known : find (is_unknown (g.D.Declared.scope l.declared).assertions) (seen_words (take l.label-index l.labels)) ≡ None;
}
