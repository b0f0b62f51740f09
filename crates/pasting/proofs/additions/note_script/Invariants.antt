-- What the loop of `note_script` keeps, and that it ends.
use Rattle.std.proofs.Common.{◌≡◌, ◌≤◌, ◌-◌, ◌++◌, List, map, length, drop}
use Rattle.std.specs.List.{flat_map}
use Rattle.mmtext.specs.Views.{seen}
use Rattle.mmsyntax.specs.Tables.{Tables}
use Rattle.source.specs.Scopes.{Assertion}
use Rattle.source.specs.Views.{seen_hypothesis}
use Rattle.taking.specs.Names.{Map}
use Rattle.spreading.specs.Forms.{Part, AreParts}
use Rattle.pasting.specs.Additions.{added_by, floats_of}
use Rattle.pasting.specs.Views.{AreNoted}
use Rattle.pasting.proofs.additions.note_script.Given as goal

abbrev pub invariant-loop-at : goal.invariant-loop-at
invariant-loop-at l = record {
  within : l.at ≤ length l.words;
  noted : (m : Map) (t : Tables) (xs : List Assertion) → map seen_hypothesis l.floats ≡ floats_of m t
      → AreNoted m t xs l.fn.noted → (done : List Part)
      × ((ps : List Part) → AreParts (map seen (drop l.at l.words)) ps → AreParts (map seen l.words) (done ++ ps))
      × AreNoted m t (xs ++ flat_map (added_by m t) done) l.noted;
}

abbrev pub decreases-loop-at : goal.decreases-loop-at
decreases-loop-at l = length l.words - l.at
