-- Of the code's inside, apart from the rules: a compressed proof that is read again, as the nodes that its steps make.
use Rattle.std.specs.Prelude.{◌≡◌, ◌<◌, ◌⊎◌, ℕ, suc, true, false, List, [], ◌∷◌, ◌++◌, length, map, take, reverse, All, Contains, Option, Some}
use Rattle.std.specs.Prelude.{IsTrue, slice_get, nat_lt}
use Rattle.std.specs.Option.{option_and_then, unwrap_or}
use Rattle.std.specs.Str.{bytes_eq}
use Rattle.std.specs.HashMap.{get_by}
use Rattle.mmtext.specs.Words.{Word}
use Rattle.source.specs.declared.letters.Code.{Code}
use Rattle.source.specs.Letters.{codes_of}
use Rattle.source.specs.Scopes.{Hypothesis, Assertion}
use Rattle.source.specs.Proofs.{Step, marks, taken_by, empty, run_steps, step_of, Stack}
use Rattle.sourcewriting.specs.declared.shared.CountedLabel.{CountedLabel}
use Rattle.sourcewriting.specs.declared.shared.Shared.{Shared}
use Rattle.sourcewriting.specs.declared.reading.Reader.{Reader}
use Rattle.sourcewriting.specs.declared.layout.Layout.{Layout}
use Rattle.sourcewriting.specs.Laid.{IsCompressed}
use Rattle.sourcewriting.specs.Marking.{takes_entries, IsMadeAt, IsBehindCitation, IsMarked}

-- ---- labels that take so many entries

abbrev pub counts_of : List CountedLabel → List (Word × ℕ)
counts_of cs = map (λ c. (c.label.now, c.takes)) cs

abbrev pub labels_in : List CountedLabel → List Word
labels_in cs = map (λ c. c.label.now) cs

-- one more behind others, or none
abbrev pub HaveOneMore : List CountedLabel → List CountedLabel → Word → ℕ → Type 0
HaveOneMore old new label takes = (counts_of new ≡ counts_of old) ⊎ (counts_of new ≡ counts_of old ++ (label, takes) ∷ [])

-- more behind others, each of them one of some labels
pub record HaveMore (words old new : List CountedLabel) : Type 0 where
  pub others : List (Word × ℕ)
  pub behind : counts_of new ≡ counts_of old ++ others
  pub among : (p : Word × ℕ) → Contains others p → Contains (counts_of words) p

-- what they name does so in a proof of which active hypotheses may be named, after earlier assertions, if it is there
abbrev pub TakeSo : List CountedLabel → List Assertion → List Hypothesis → Type 0
TakeSo cs earlier active =
    All (λ c. (taken : List Hypothesis) → taken_by earlier active c.label.now ≡ Some taken → length taken ≡ c.takes) cs

-- ---- nodes

-- the node of a label over nodes
abbrev pub find_in : Shared → Word → List ℕ → Option ℕ
find_in s label arguments =
    option_and_then (λ n. get_by (λ k. bytes_eq (n ∷ arguments) k.items) s.places) (get_by (λ k. bytes_eq label k.now) s.numbers)

abbrev pub node_in : Shared → Word → List ℕ → ℕ
node_in s label arguments = unwrap_or (find_in s label arguments) 0

-- ---- what is done to the stack

-- a node is noted as written, which wasn't before
pub record IsNoted (node : ℕ) (old new : Reader) : Type 0 where
  pub first : slice_get old.written.items node ≡ Some false
  pub noted : slice_get new.written.items node ≡ Some true
  pub stay : (k : ℕ) → slice_get old.written.items k ≡ Some true → slice_get new.written.items k ≡ Some true
  pub entries : new.entries ≡ old.entries
  pub marked : new.marked ≡ old.marked
  pub may_mark : new.may_mark ≡ old.may_mark

-- a label takes its entries
pub record IsCited (s : Shared) (c : CountedLabel) (old new : Reader) : Type 0 where
  pub front : List ℕ
  pub taken : List ℕ
  pub split : old.entries.items ≡ front ++ taken
  pub many : length taken ≡ c.takes
  pub entries : new.entries.items ≡ front ++ node_in s c.label.now taken ∷ []
  pub marked : new.marked.items ≡ old.marked.items
  pub first : 0 < c.takes → slice_get old.written.items (node_in s c.label.now taken) ≡ Some false
  pub noted : 0 < c.takes → slice_get new.written.items (node_in s c.label.now taken) ≡ Some true
  pub stay : (k : ℕ) → slice_get old.written.items k ≡ Some true → slice_get new.written.items k ≡ Some true
  pub may_mark : new.may_mark ≡ nat_lt 0 c.takes

-- a marked entry goes on again
pub record IsRepeated (number : ℕ) (old new : Reader) : Type 0 where
  pub node : ℕ
  pub found : slice_get old.marked.items number ≡ Some node
  pub entries : new.entries.items ≡ old.entries.items ++ node ∷ []
  pub marked : new.marked.items ≡ old.marked.items
  pub written : new.written ≡ old.written
  pub may_mark : new.may_mark ≡ false

-- the last entry is marked, which a label just made
pub record IsMarkPut (old new : Reader) : Type 0 where
  pub front : List ℕ
  pub node : ℕ
  pub split : old.entries.items ≡ front ++ node ∷ []
  pub entries : new.entries.items ≡ old.entries.items
  pub marked : new.marked.items ≡ old.marked.items ++ node ∷ []
  pub written : new.written ≡ old.written
  pub could : old.may_mark ≡ true
  pub may_mark : new.may_mark ≡ false

-- ---- steps up to a place are read

abbrev pub IsNodeAt : Shared → List Assertion → List Hypothesis → List Step → Word → ℕ → ℕ → Type 0
IsNodeAt s earlier active steps label node place = IsMadeAt (node_in s) earlier active steps label node place

pub record IsReadTo (s : Shared) (earlier : List Assertion) (active : List Hypothesis) (steps : List Step) (r : Reader) (i : ℕ)
    : Type 0 where
  pub goes : (stack : Stack ℕ) → run_steps (node_in s) earlier active (Some empty) (take i steps) ≡ Some stack
      → stack ≡ record { entries = reverse r.entries.items; marked = r.marked.items }
  pub noted : (label : Word) (n k : ℕ) → k < i → IsTrue (takes_entries (taken_by earlier active label))
      → IsNodeAt s earlier active steps label n k → slice_get r.written.items n ≡ Some true
  pub once : (label : Word) (n j k : ℕ) → j < i → k < i → IsTrue (takes_entries (taken_by earlier active label))
      → IsNodeAt s earlier active steps label n j → IsNodeAt s earlier active steps label n k → j ≡ k
  pub last : r.may_mark ≡ true → IsBehindCitation earlier active steps i
  pub behind : (k : ℕ) → k < i → slice_get steps k ≡ Some marks → IsBehindCitation earlier active steps k

-- a code is read, wherever labels take so many entries
abbrev pub IsReadOn : Shared → List CountedLabel → Code → Reader → Reader → Type 0
IsReadOn s cs code old new =
    (earlier : List Assertion) (active : List Hypothesis) → TakeSo cs earlier active → (steps : List Step) (i : ℕ)
    → slice_get steps i ≡ Some (step_of (labels_in cs) code) → IsReadTo s earlier active steps old i
    → IsReadTo s earlier active steps new (suc i)

-- all letters are read
pub record AreMarkedLetters (cs : List CountedLabel) (letters : List ℕ) : Type 0 where
  pub codes : List Code
  pub said : codes_of letters ≡ Some codes
  pub marked : (earlier : List Assertion) (active : List Hypothesis) → TakeSo cs earlier active
      → IsMarked earlier active (map (step_of (labels_in cs)) codes)

-- the words of a compressed proof, which is marked: its numbers count mandatory labels, which take no entries, and then labels that are
-- among some others
pub record IsMarkedLayout (i : List ℕ) (l : Layout) (mandatory : List Word) (words : List CountedLabel) : Type 0 where
  pub labels : List CountedLabel
  pub among : (p : Word × ℕ) → Contains (counts_of labels) p → Contains (counts_of words) p
  pub counted : List CountedLabel
  pub are : counts_of counted ≡ map (λ w. (w, 0)) mandatory ++ counts_of labels
  pub letters : List ℕ
  pub laid : IsCompressed i l (labels_in labels) letters
  pub marked : AreMarkedLetters counted letters
