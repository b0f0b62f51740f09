use Rattle.std.proofs.Common.{◌≡◌, ℕ, List}
use Rattle.sourcewriting.specs.Named.{AreNames}
use Rattle.sourcewriting.specs.Laid.{IsNormal}
use Rattle.sourcewriting.specs.Reading.{labels_in}
use Rattle.sourcewriting.proofs.wording.put_normal.Given as goal

abbrev pub invariant-loop : goal.invariant-loop
invariant-loop l =
    ((i : List ℕ) → IsNormal i l.fn.layout → IsNormal i l.layout)
    × (AreNames (labels_in l.shared.words.items) → l.layout.is_refused ≡ l.fn.layout.is_refused)
