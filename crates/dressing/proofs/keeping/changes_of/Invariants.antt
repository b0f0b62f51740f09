-- What the loop of `changes_of` keeps: what is left gives the rest of the changes, behind the labels that are asked for so far.
use Rattle.std.proofs.Common.{◌≡◌, ◌++◌, [], map, drop, length}
use Rattle.source.specs.Views.{seen_pairs}
use Rattle.pasting.specs.Views.{seen_given_labels}
use Rattle.dressing.specs.Labels.{changes_from}
use Rattle.dressing.proofs.Wanted.{asked, asked_by}
use Rattle.dressing.proofs.keeping.changes_of.Given as goal

abbrev pub invariant-loop-one : goal.invariant-loop-one
invariant-loop-one g l = record {
  wanted : l.wanted ≡ asked_by (map seen_given_labels l.given);
  before : l.before ≡ length (asked l.given l.one-index);
  so_far : seen_pairs l.changes.items
      ++ changes_from (g.D.Declared.scope l.declared) (asked l.given l.one-index) (map seen_given_labels (drop l.one-index l.given))
      ≡ changes_from (g.D.Declared.scope l.declared) [] (map seen_given_labels l.given);
}
