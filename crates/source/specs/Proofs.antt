-- What a proof denotes: a tree over hypotheses and assertions (Metamath book, sections 4.1.4 and 4.2.8; compressed proofs: appendix B).
use Rattle.std.specs.Prelude.{◌≡◌, ℕ, ◌+◌, zero, suc, pred, Bool, List, [], ◌∷◌, ◌++◌, map, find, Option, Some, None, slice_get, if◌then◌else◌, ◌==◌}
use Rattle.std.specs.Prelude.{true, false, ◌&&◌, is_some, codes}
use mathlib.Core.Bool.{not}
use Rattle.std.specs.Option.{option_map, option_and_then}
use Rattle.std.specs.List.{list_any, flat_map}
use Rattle.std.specs.Str.{bytes_eq}
use Rattle.mmtext.specs.Words.{Word}
use Rattle.source.specs.declared.letters.Code.{Code}
use Rattle.source.specs.declared.letters.Code.TheVariants.{Number, Mark, Unknown}
use Rattle.source.specs.Statements.{Proof, normal, compressed}
use Rattle.source.specs.Scopes.{Hypothesis, label_of, Assertion, is_unknown}
use Rattle.source.specs.Letters.{Decoded, decoded, codes_of}

-- a label over the trees of what it takes: none of a hypothesis, and of an assertion one for each of its mandatory hypotheses
mutual
  pub data Tree : Type 0 where
    node : Word → Trees → Tree

  pub data Trees : Type 0 where
    none : Trees
    some : Tree → Trees → Trees

-- ---- steps

-- a label, a marked subproof again (from 0), the mark of the subproof that ends here, or ?: a step that isn't there (section 4.2.8)
pub data Step : Type 0 where
  names : Word → Step
  again : ℕ → Step
  marks : Step
  unknown : Step

-- a word of a normal proof
abbrev pub step_of_word : Word → Step
step_of_word w = if is_unknown w then unknown else names w

-- a number from 0: that of a label, or behind the labels of a marked subproof (appendix B)
abbrev pub numbered : List Word → ℕ → Step
numbered [] n = again n
numbered (w ∷ ws) zero = names w
numbered (w ∷ ws) (suc n) = numbered ws n

-- a code; numbers count from 1
abbrev pub step_of : List Word → Code → Step
step_of labels (Number n) = numbered labels (pred n)
step_of labels Mark = marks
step_of labels Unknown = unknown

-- the steps of a proof: those of letters count the mandatory hypotheses, then the labels in parentheses, then the marked subproofs
abbrev pub steps_of : List Hypothesis → Proof → Option (List Step)
steps_of hypotheses (normal ws) = Some (map step_of_word ws)
steps_of hypotheses (compressed labels letters) =
    option_map (map (step_of (map label_of hypotheses ++ labels))) (codes_of (flat_map (λ w. w) letters))

-- ---- what labels take

-- one entry for each mandatory hypothesis, and none where the label is that of an active hypothesis
abbrev pub taken_by : List Assertion → List Hypothesis → Word → Option (List Hypothesis)
taken_by earlier active w =
    if list_any (λ h. bytes_eq w (label_of h)) active then Some []
    else option_map (λ a. a.hypotheses) (find (λ a. bytes_eq w a.label) earlier)

-- ---- marks (appendix B)

-- a mark may stand right behind the label of an assertion, or another mark: what a hypothesis or a marked subproof puts is at hand anyway
abbrev pub may_be_marked : List Hypothesis → Step → Bool
may_be_marked active (names w) = not (list_any (λ h. bytes_eq w (label_of h)) active)
may_be_marked active (again n) = false
may_be_marked active marks = true
may_be_marked active unknown = false

-- a mark stands right behind a step that may be marked, and any other step behind all
abbrev pub is_placed : Bool → Step → Bool
is_placed markable marks = markable
is_placed markable _ = true

-- so does each step but the first: where that is a mark, no entry is there
abbrev pub are_marks_placed : List Hypothesis → List Step → Bool
are_marks_placed active [] = true
are_marks_placed active (x ∷ []) = true
are_marks_placed active (x ∷ y ∷ ys) = is_placed (may_be_marked active x) y && are_marks_placed active (y ∷ ys)

-- ---- the stack (section 4.1.4), whatever it holds: trees, or what stands for them

-- the entries, the last first, and the marked ones, the first first
pub record Stack (A : Type 0) : Type 0 where
  pub entries : List A
  pub marked : List A

abbrev pub empty : {A : Type 0} → Stack A
empty = record { entries = []; marked = [] }

-- one entry for each hypothesis comes off, before those that came off
abbrev pub pop : {A : Type 0} → List Hypothesis → List A → List A → Option (List A × List A)
pop [] xs off = Some (off, xs)
pop (h ∷ hs) [] off = None
pop (h ∷ hs) (x ∷ xs) off = pop hs xs (x ∷ off)

-- an entry goes on
abbrev pub push : {A : Type 0} → Stack A → A → Stack A
push s x = record s { entries = x ∷ s.entries }

-- what a label makes of what came off goes on
abbrev pub put : {A : Type 0} → (Word → List A → A) → Word → List A → Option (List A × List A) → Option (Stack A)
put make w marked None = None
put make w marked (Some p) = Some (record { entries = make w p.0 ∷ p.1; marked = marked })

-- a label takes its entries, if what it names is there
abbrev pub cite : {A : Type 0} → (Word → List A → A) → Word → Stack A → Option (List Hypothesis) → Option (Stack A)
cite make w s None = None
cite make w s (Some hs) = put make w s.marked (pop hs s.entries [])

-- a marked entry again, if it is there
abbrev pub repeat : {A : Type 0} → Stack A → Option A → Option (Stack A)
repeat s None = None
repeat s (Some x) = Some (push s x)

-- the last entry is marked
abbrev pub mark : {A : Type 0} → List A → List A → Option (Stack A)
mark [] marked = None
mark (x ∷ xs) marked = Some (record { entries = x ∷ xs; marked = marked ++ x ∷ [] })

-- a step of a proof of which active hypotheses may be named, after earlier assertions
abbrev pub stepped : {A : Type 0} → (Word → List A → A) → List Assertion → List Hypothesis → Stack A → Step → Option (Stack A)
stepped make earlier active s (names w) = cite make w s (taken_by earlier active w)
stepped make earlier active s (again n) = repeat s (slice_get s.marked n)
stepped make earlier active s marks = mark s.entries s.marked
stepped make earlier active s unknown = Some (push s (make (codes "?") []))

-- steps one after the other
abbrev pub run_steps : {A : Type 0} → (Word → List A → A) → List Assertion → List Hypothesis → Option (Stack A) → List Step
    → Option (Stack A)
run_steps make earlier active s [] = s
run_steps make earlier active None (x ∷ xs) = None
run_steps make earlier active (Some s) (x ∷ xs) = run_steps make earlier active (stepped make earlier active s x) xs

-- one entry is left
abbrev pub only : {A : Type 0} → List A → Option A
only (x ∷ []) = Some x
only _ = None

abbrev pub single : {A : Type 0} → Option (Stack A) → Option A
single None = None
single (Some s) = only s.entries

-- what steps make
abbrev pub made : {A : Type 0} → (Word → List A → A) → List Assertion → List Hypothesis → List Step → Option A
made make earlier active steps = single (run_steps make earlier active (Some empty) steps)

-- trees of a list
abbrev pub over : List Tree → Trees
over [] = none
over (t ∷ ts) = some t (over ts)

-- what steps denote
abbrev pub denoted_by : List Assertion → List Hypothesis → List Step → Option Tree
denoted_by earlier active steps = made (λ w ts. node w (over ts)) earlier active steps

-- the code may keep something else than trees: what it makes is then what stands for the tree
abbrev pub MadeAlike : Type 0 → Type 0 → Type 0
MadeAlike A B =
    (f : A → B) (a : Word → List A → A) (b : Word → List B → B) → ((w : Word) (xs : List A) → f (a w xs) ≡ b w (map f xs))
    → (earlier : List Assertion) (active : List Hypothesis) (steps : List Step)
    → made b earlier active steps ≡ option_map f (made a earlier active steps)

-- how many steps list a tree
abbrev mutual
  pub size : Tree → ℕ
  size (node w trees) = suc (sizes trees)

  pub sizes : Trees → ℕ
  sizes none = 0
  sizes (some t ts) = size t + sizes ts

abbrev pub total : List ℕ → ℕ
total [] = 0
total (n ∷ ns) = n + total ns

-- it is made without the tree, in as many additions as the proof has steps and entries
abbrev pub SizesAreMade : Type 0
SizesAreMade =
    (earlier : List Assertion) (active : List Hypothesis) (steps : List Step)
    → made (λ w ns. suc (total ns)) earlier active steps ≡ option_map size (denoted_by earlier active steps)

-- ---- proofs

-- a step isn't there
abbrev pub is_unfinished : Proof → Bool
is_unfinished (normal ws) = list_any is_unknown ws
is_unfinished (compressed labels letters) = list_any (list_any (λ b. b == 63)) letters

-- the tree that the proof of an assertion denotes, after the earlier assertions
abbrev pub denoted : List Assertion → Assertion → Option Tree
denoted earlier a =
    option_and_then (λ proof. option_and_then (denoted_by earlier a.active) (steps_of a.hypotheses proof)) a.proof

-- ---- while a proof is read: whether what its steps take is there, and its marks are placed. A ? is a step as others are, which puts one
-- entry

-- a tree is on the stack, whichever
abbrev pub there : Word → List (Unit {0}) → Unit {0}
there w trees = tt

-- each step takes what is there
abbrev pub go_on : List Assertion → List Hypothesis → Option (List Step) → Bool
go_on earlier active None = false
go_on earlier active (Some steps) =
    are_marks_placed active steps && is_some (run_steps there earlier active (Some empty) steps)

-- the words of a normal proof do
abbrev pub labels_go_on : List Assertion → List Hypothesis → List Word → Bool
labels_go_on earlier active ws = go_on earlier active (Some (map step_of_word ws))

-- the steps of codes
abbrev pub steps_in : List Word → Option Decoded → Option (List Step)
steps_in labels d = option_map (λ (d : Decoded). map (step_of labels) d.codes) d

-- the steps of letters do, of which the last number may be cut
abbrev pub letters_go_on : List Assertion → List Hypothesis → List Word → List ℕ → Bool
letters_go_on earlier active labels letters = go_on earlier active (steps_in labels (decoded 0 letters))

-- they do, and leave one entry
abbrev pub leave_one : List Assertion → List Hypothesis → Option (List Step) → Bool
leave_one earlier active None = false
leave_one earlier active (Some steps) = are_marks_placed active steps && is_some (made there earlier active steps)

-- a proof denotes a tree, in which ? is a leaf
abbrev pub leaves_one : List Assertion → List Hypothesis → List Hypothesis → Proof → Bool
leaves_one earlier active hypotheses proof = leave_one earlier active (steps_of hypotheses proof)
