-- Of the code's inside, apart from the rules: the letters of nodes that are put.
use Rattle.std.specs.Prelude.{◌≡◌, ◌<◌, ◌+◌, ℕ, true, false, List, ◌++◌, length, map, count_by, is_some, Contains, Some, None, slice_get}
use Rattle.mmtext.specs.Words.{Word}
use Rattle.source.specs.declared.letters.Code.{Code}
use Rattle.source.specs.Letters.{decoded}
use Rattle.sourcewriting.specs.declared.lettering.Letters.{Letters}
use Rattle.sourcewriting.specs.declared.shared.CountedLabel.{CountedLabel}
use Rattle.sourcewriting.specs.declared.shared.Shared.{Shared}
use Rattle.sourcewriting.specs.Nodes.{AreNodes}
use Rattle.sourcewriting.specs.Readable.{Read, unread, LeadAll}
use Rattle.sourcewriting.specs.Reading.{counts_of}
use Rattle.sourcewriting.specs.Walked.{Walked}

-- mandatory labels, which take no entries, and others
abbrev pub counts_behind : List Word → List CountedLabel → List (Word × ℕ)
counts_behind mandatory others = map (λ w. (w, 0)) mandatory ++ counts_of others

-- a label that is a mandatory one takes none
abbrev pub AreUntaken : List Word → List CountedLabel → Type 0
AreUntaken mandatory words = (c : CountedLabel) → Contains words c → Contains mandatory c.label.now → c.takes ≡ 0

-- each of these labels is counted, by its number
abbrev pub AreNumbers : List CountedLabel → List (Word × ℕ) → List ℕ → Type 0
AreNumbers words counts numbers =
    (i : ℕ) (c : CountedLabel) → slice_get words i ≡ Some c
    → (k : ℕ) × (slice_get numbers i ≡ Some k) × (slice_get counts k ≡ Some (c.label.now, c.takes))

-- what was put can be read: each node that is written and put again has its mark
pub record IsLettered (s : Shared) (cs : List CountedLabel) (l : Letters) (w : Walked) : Type 0 where
  pub codes : List Code
  pub said : decoded 0 l.text.items ≡ Some (record { codes = codes; front = 0 })
  pub read : Read
  pub leads : LeadAll s cs codes (unread (length s.nodes.items)) read
  pub entries : read.entries ≡ w.entries
  pub written : read.written ≡ w.written
  pub many : length l.marks.items ≡ length s.nodes.items
  pub marked : length read.marked ≡ l.marked
  pub count : l.marked ≡ count_by is_some l.marks.items
  pub mark : (n : ℕ) → slice_get w.written n ≡ Some true → slice_get l.again.items n ≡ Some true
      → (m : ℕ) × (slice_get l.marks.items n ≡ Some (Some m)) × (slice_get read.marked m ≡ Some n)
  pub unmarked : (n : ℕ) → slice_get w.written n ≡ Some false → slice_get l.marks.items n ≡ Some None

-- its numbers count these labels, and there are not too many
pub record AreCounted (s : Shared) (cs : List CountedLabel) (l : Letters) : Type 0 where
  pub numbers : AreNumbers s.words.items (counts_of cs) l.numbers.now
  pub labels : l.labels ≡ length cs
  pub few : length cs + length s.nodes.items < 268435460

-- the node of a proof can be put in letters, in a theorem with these mandatory labels
pub record CanBeLettered (s : Shared) (mandatory : List Word) (root : ℕ) : Type 0 where
  pub nodes : AreNodes s
  pub there : root < length s.nodes.items
  pub untaken : AreUntaken mandatory s.words.items
  pub few : length mandatory + length s.words.items + length s.nodes.items < 268435460
