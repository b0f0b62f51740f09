-- What the loop of `new_usage` keeps: the first is among those that are left.
use Rattle.std.proofs.Common.{◌≡◌, map, drop}
use Rattle.std.specs.Prelude.{find}
use Rattle.mmtext.specs.Views.{seen}
use Rattle.expanding.specs.Bearing.{names_of, seen_bearers}
use Rattle.expanding.specs.Discouraged.{is_new_usage}
use Rattle.expanding.proofs.names.Names.new_usage.Given as goal

abbrev pub invariant-loop-word : goal.invariant-loop-word
invariant-loop-word g l =
    let s = g.D.Declared.scope l.declared in
    let test = is_new_usage s (names_of s l.self) (seen_bearers l.by) in
    find test (map seen l.words) ≡ find test (map seen (drop l.word-index l.words))
