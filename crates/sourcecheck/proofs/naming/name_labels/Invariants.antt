-- What the loop of `name_labels` keeps.
use Rattle.std.proofs.Common.{◌≡◌, All, Some, take}
use Rattle.std.specs.Prelude.{slice_get}
use Rattle.source.specs.Scopes.{Assertion}
use Rattle.source.specs.Views.{seen_words}
use Rattle.sourceframes.specs.Names.{words_of, IsSound, Grows, Lasts}
use Rattle.sourcecheck.specs.Shown.{IsPlaced, AreNamed}
use Rattle.sourcecheck.proofs.naming.name_labels.Given as goal

abbrev pub invariant-loop-label : goal.invariant-loop-label
invariant-loop-label g l = record {
  sound : IsSound l.table;
  grows : Grows (words_of l.initial.table) (words_of l.table);
  placed : All (IsPlaced l.place) l.named.items;
  named : (x : Assertion) → slice_get (g.D.Declared.scope l.declared).assertions l.place ≡ Some x
      → Lasts (words_of l.table) (λ name. AreNamed name (take l.place (g.D.Declared.scope l.declared).assertions) x
      (seen_words (take l.label-index l.labels)) l.named.items);
}
