use Rattle.std.proofs.Common.{◌≡◌, map, take}
use Rattle.library.specs.Edits.{listing_line}
use Rattle.catalog.specs.Entries.{living}
use Rattle.catalog.proofs.listing.lines_by_place.Given as goal

abbrev pub invariant-loop-place : goal.invariant-loop-place
invariant-loop-place l = l.lines.items ≡ map (listing_line (living l.entries)) (living (take l.place l.entries))
