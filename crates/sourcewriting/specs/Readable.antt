-- Of the code's inside, apart from the rules: letters that can be read again as a compressed proof.
use Rattle.std.specs.Prelude.{◌≡◌, ◌<◌, ◌+◌, ◌⊎◌, ℕ, suc, Bool, true, false, List, [], ◌∷◌, ◌++◌, length, replicate, Some, slice_get, slice_set, nat_lt, if◌then◌else◌}
use Rattle.source.specs.declared.letters.Code.{Code}
use Rattle.source.specs.declared.letters.Code.TheVariants.{Number, Mark, Unknown}
use Rattle.sourcewriting.specs.declared.shared.CountedLabel.{CountedLabel}
use Rattle.sourcewriting.specs.declared.shared.Shared.{Shared}
use Rattle.sourcewriting.specs.declared.reading.Reader.{Reader}
use Rattle.sourcewriting.specs.Reading.{find_in}

-- the entries, those that are marked, of each node whether a label was read that makes it of entries, and whether that was the last
pub record Read : Type 0 where
  pub entries : List ℕ
  pub marked : List ℕ
  pub written : List Bool
  pub may_mark : Bool

abbrev pub seen_reader : Reader → Read
seen_reader r = record { entries = r.entries.items; marked = r.marked.items; written = r.written.items; may_mark = r.may_mark }

-- nothing is read yet
abbrev pub unread : ℕ → Read
unread nodes = record { entries = []; marked = []; written = replicate nodes false; may_mark = false }

-- a node is written, if its label takes entries
abbrev pub written_then : ℕ → ℕ → List Bool → List Bool
written_then takes node written = if nat_lt 0 takes then slice_set written node true else written

-- a label takes its entries, which make a node; if it takes some, that wasn't written before
pub record Cites (s : Shared) (c : CountedLabel) (old new : Read) : Type 0 where
  pub front : List ℕ
  pub taken : List ℕ
  pub node : ℕ
  pub split : old.entries ≡ front ++ taken
  pub many : length taken ≡ c.takes
  pub found : find_in s c.label.now taken ≡ Some node
  pub first : 0 < c.takes → slice_get old.written node ≡ Some false
  pub left : new
      ≡ record {
        entries = front ++ node ∷ [];
        marked = old.marked;
        written = written_then c.takes node old.written;
        may_mark = nat_lt 0 c.takes;
      }

-- a marked entry goes on again
pub record Repeats (number : ℕ) (old new : Read) : Type 0 where
  pub node : ℕ
  pub found : slice_get old.marked number ≡ Some node
  pub left : new ≡ record old { entries = old.entries ++ node ∷ []; may_mark = false }

-- the last entry is marked, which a label just made of entries
pub record Marks (old new : Read) : Type 0 where
  pub front : List ℕ
  pub node : ℕ
  pub split : old.entries ≡ front ++ node ∷ []
  pub could : old.may_mark ≡ true
  pub left : new ≡ record old { marked = old.marked ++ node ∷ []; may_mark = false }

-- a number counts a label
pub record IsLabelled (s : Shared) (cs : List CountedLabel) (number : ℕ) (old new : Read) : Type 0 where
  pub place : ℕ
  pub numbered : number ≡ suc place
  pub label : CountedLabel
  pub counted : slice_get cs place ≡ Some label
  pub within : place < length cs
  pub cites : Cites s label old new

-- or one that is marked
pub record IsAgain (cs : List CountedLabel) (number : ℕ) (old new : Read) : Type 0 where
  pub mark : ℕ
  pub numbered : number ≡ suc (length cs + mark)
  pub repeats : Repeats mark old new

-- a code leads from what is read to what is read then, where these labels are counted
abbrev pub Leads : Shared → List CountedLabel → Code → Read → Read → Type 0
Leads s cs (Number n) old new = IsLabelled s cs n old new ⊎ IsAgain cs n old new
Leads s cs Mark old new = Marks old new
Leads s cs Unknown old new = ⊥

-- and codes, one after another
abbrev pub LeadAll : Shared → List CountedLabel → List Code → Read → Read → Type 0
LeadAll s cs [] old new = old ≡ new
LeadAll s cs (c ∷ rest) old new = (mid : Read) × Leads s cs c old mid × LeadAll s cs rest mid new
