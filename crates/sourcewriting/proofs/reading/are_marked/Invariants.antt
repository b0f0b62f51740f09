use Rattle.std.proofs.Common.{List, length, map, drop}
use Rattle.source.specs.Scopes.{Hypothesis, Assertion}
use Rattle.source.specs.Proofs.{step_of}
use Rattle.sourcewriting.specs.Reading.{labels_in, TakeSo, IsReadTo}
use Rattle.sourcewriting.specs.Readable.{Read, seen_reader, unread, LeadAll}
use Rattle.sourcewriting.proofs.reading.are_marked.Given as goal

abbrev pub invariant-loop-code : goal.invariant-loop-code
invariant-loop-code l =
    ((earlier : List Assertion) (active : List Hypothesis) → TakeSo l.counted earlier active
    → IsReadTo l.shared earlier active (map (step_of (labels_in l.counted)) l.code-items) l.reader l.code-index)
    × ((end : Read) → LeadAll l.shared l.counted l.code-items (unread (length l.shared.nodes.items)) end
    → LeadAll l.shared l.counted (drop l.code-index l.code-items) (seen_reader l.reader) end)
