-- Where a library of so many slots lies: the cells of a slot, of a bucket and of a chain. The layout is this project's own.
--
-- Slots, buckets and cells count from 0. With S slots there are S buckets, and 7 S cells.
use Rattle.std.specs.Prelude.{ℕ, Bool, ◌+◌, ◌*◌, ◌%◌, ◌&&◌, nat_lt, List, fold}
use Rattle.mmsyntax.specs.Dotted.{trunk}

-- the five cells of a slot
abbrev pub name_cell : ℕ → ℕ
name_cell i = 5 * i

abbrev pub statement_cell : ℕ → ℕ
statement_cell i = 5 * i + 1

abbrev pub proof_cell : ℕ → ℕ
proof_cell i = 5 * i + 2

abbrev pub rank_cell : ℕ → ℕ
rank_cell i = 5 * i + 3

abbrev pub citers_cell : ℕ → ℕ
citers_cell i = 5 * i + 4

-- behind the slots, a cell for each bucket: the first slot of its chain plus 1, or 0
abbrev pub bucket_cell : ℕ → ℕ → ℕ
bucket_cell slots b = 5 * slots + b

-- behind these, the next cell of each slot: the next slot of its chain plus 1, or 0
abbrev pub next_cell : ℕ → ℕ → ℕ
next_cell slots i = 6 * slots + i

-- how many cells there are
abbrev pub cell_count : ℕ → ℕ
cell_count slots = 7 * slots

-- name, statement and proof cells hold 0 or words that name ranges
abbrev pub is_ranged : ℕ → ℕ → Bool
is_ranged slots c = nat_lt c (5 * slots) && nat_lt (c % 5) 3

-- h, from 0, by h = (31 h + byte) mod S over the bytes of a word
abbrev pub hash : ℕ → List ℕ → ℕ
hash slots w = fold (λ h byte. (31 * h + byte) % slots) 0 w

-- the bucket of a label: that of L for a label L.k, so that all labels that clash with one stand in at most three buckets
abbrev pub bucket : ℕ → List ℕ → ℕ
bucket slots label = hash slots (trunk label)
