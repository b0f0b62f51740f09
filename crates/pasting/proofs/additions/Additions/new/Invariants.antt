-- What the loop of `new` keeps: what the scripts so far add.
use Rattle.std.proofs.Common.{◌≡◌, List, map, take}
use Rattle.std.specs.List.{AllZip, flat_map}
use Rattle.mmsyntax.specs.Tables.{Tables}
use Rattle.source.specs.Views.{seen_hypothesis}
use Rattle.taking.specs.Names.{Map}
use Rattle.spreading.specs.Forms.{Part, AreParts}
use Rattle.expanding.specs.Views.{seen_scripts}
use Rattle.pasting.specs.Additions.{added_by, floats_of}
use Rattle.pasting.specs.Views.{AreNoted}
use Rattle.pasting.proofs.additions.Additions.new.Given as goal

abbrev pub invariant-loop-words : goal.invariant-loop-words
invariant-loop-words l =
    (m : Map) (t : Tables) → map seen_hypothesis l.floats.items ≡ floats_of m t → (parts : List (List Part))
    × AllZip AreParts (take l.words-index (seen_scripts l.scripts)) parts
    × AreNoted m t (flat_map (flat_map (added_by m t)) parts) l.noted
