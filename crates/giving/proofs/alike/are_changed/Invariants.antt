-- What the loop of `are_changed` keeps.
use Rattle.std.proofs.Common.{◌≡◌, ◌↔◌, drop, map}
use Rattle.source.specs.Views.{seen_words}
use Rattle.giving.specs.Staying.{changed}
use Rattle.giving.proofs.alike.are_changed.Given as goal

-- what is left reads so where all does
abbrev pub invariant-loop-i : goal.invariant-loop-i
invariant-loop-i l =
    (map (changed l.changes) (seen_words (drop l.i l.old)) ≡ seen_words (drop l.i l.new))
    ↔ (map (changed l.changes) (seen_words l.old) ≡ seen_words l.new)
