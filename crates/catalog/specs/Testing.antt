-- Of the code's inside, apart from the rules: what the tests of commands ask of one place of the entries.
use Rattle.std.specs.Prelude.{ℕ, Bool, false, ◌&&◌, nat_le, slice_index_or, List, Option, None, Some}
use Rattle.library.specs.declared.library.Ranked.{Ranked}
use Rattle.library.specs.Edits.{cites}
use Rattle.catalog.specs.Entries.{Entries}

-- whether a place has an assertion that passes the test
abbrev pub passes_there : (Ranked → Bool) → Option Ranked → Bool
passes_there p None = false
passes_there p (Some e) = p e

-- the same of the place with a number; past the end no assertion stands
abbrev pub passes_at : (Ranked → Bool) → Entries → ℕ → Bool
passes_at test entries p = passes_there test (slice_index_or entries p None)

-- whether the proof of an assertion of this rank or a lower one cites the label
abbrev pub cites_from : List ℕ → ℕ → Ranked → Bool
cites_from label rank e = cites label e && nat_le e.rank rank
