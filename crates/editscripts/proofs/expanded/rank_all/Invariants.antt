-- What the loop of `rank_all` keeps: the scripts so far with ranks, and the gaps at which they put something.
use Rattle.std.proofs.Common.{ℕ, List, [], take}
use Rattle.expanding.specs.Views.{IsRanker}
use Rattle.editscripts.specs.Expanded.{RankedScript, AreRanked}
use Rattle.expanding.specs.Views.{seen_scripts}
use Rattle.editscripts.specs.Views.{AreLaid}
use Rattle.editscripts.proofs.expanded.rank_all.Given as goal

abbrev pub invariant-loop-place : goal.invariant-loop-place
invariant-loop-place g l =
    (outs : List RankedScript) × (gaps : List ℕ) × AreLaid outs l.all.items
    × AreRanked (g.D.Declared.scope l.declared) l.flags [] (take l.place (seen_scripts l.scripts)) outs gaps
    × IsRanker l.flags gaps l.ranker
