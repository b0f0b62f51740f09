use Rattle.std.proofs.Common.{◌≡◌, ℕ, List, take}
use Rattle.std.specs.HashMap.{get_by}
use Rattle.std.specs.Str.{bytes_eq}
use Rattle.proofcheck.specs.Reports.{place_from}
use Rattle.proofcheck.proofs.labels.places_of.Given as goal

abbrev pub invariant-loop-i : goal.invariant-loop-i
invariant-loop-i l = (label : List ℕ) → get_by (λ k. bytes_eq label k.items) l.places ≡ place_from 0 label (take l.i l.assertions)
