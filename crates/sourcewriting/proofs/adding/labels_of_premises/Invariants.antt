-- What the loop of `labels_of_premises` keeps.
use Rattle.std.proofs.Common.{◌≡◌, ◌≤◌, ◌-◌, length, map}
use Rattle.std.specs.Prelude.{filter}
use Rattle.std.specs.List.{range_with_len}
use mathlib.Core.Bool.{not}
use Rattle.mmsyntax.specs.Dotted.{hypothesis_label}
use Rattle.sourcewriting.specs.Added.{is_name}
use Rattle.sourcewriting.proofs.adding.labels_of_premises.Given as goal

-- those so far that are free, of which there are no more than are wanted
abbrev pub invariant-loop-number : goal.invariant-loop-number
invariant-loop-number g l = record {
  made : map (λ w. w.items) l.labels.items
      ≡ filter (λ w. not (is_name (g.D.Declared.scope l.declared) l.edited w))
      (map (hypothesis_label l.label) (range_with_len 1 (l.number - 1)));
  few : length l.labels.items ≤ l.count;
}
