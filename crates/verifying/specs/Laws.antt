-- Laws of what verifies: the tree of a proof, each kind of step, a source in parts, and the fault of what doesn't verify.
use Rattle.std.specs.Prelude.{◌≡◌, ◌↔◌, false, List, [], ◌∷◌, ◌++◌, map, find, Some, None, Ok, IsTrue, IsSome}
use Rattle.std.specs.Option.{option_map, option_and_then}
use Rattle.std.specs.Str.{bytes_eq}
use Rattle.mmtext.specs.Words.{Word}
use Rattle.source.specs.Statements.{Proof, Statements}
use Rattle.source.specs.Scopes.{Hypothesis, label_of, Assertion, Scope}
use Rattle.source.specs.Sources.{Declares}
use Rattle.source.specs.Proofs.{Tree, Trees, node, none, some, names, steps_of, Stack, pop, push, stepped, denoted_by, leaves_one, is_unfinished}
use Rattle.verifying.specs.Citations.{Expression, said_by}
use Rattle.verifying.specs.Verifies.{Entry, cited, entry, derived, Derives, AreVerified, Verifies}
use Rattle.verifying.specs.Faults.{fault_of, fault_in}

-- ---- the tree of a proof

abbrev mutual
  -- what a tree derives in a proof of x: what its label makes of what its subtrees derive
  pub value : List Assertion → Assertion → Tree → Entry
  value earlier x (node w trees) = entry earlier x w (values earlier x trees)

  pub values : List Assertion → Assertion → Trees → List Entry
  values earlier x none = []
  values earlier x (some t ts) = value earlier x t ∷ values earlier x ts

-- a proof derives what its tree derives
abbrev pub TreesAreDerived : Type 0
TreesAreDerived =
    (earlier : List Assertion) (x : Assertion) (proof : Proof)
    → derived earlier x proof
    ≡ option_map (value earlier x) (option_and_then (denoted_by earlier x.active) (steps_of x.hypotheses proof))

-- a finished proof that denotes a tree, as those of each source do, derives an expression or fails a test
abbrev pub FinishedAreDerived : Type 0
FinishedAreDerived =
    (earlier : List Assertion) (x : Assertion) (proof : Proof) → is_unfinished proof ≡ false
    → IsTrue (leaves_one earlier x.active x.hypotheses proof) → IsSome (derived earlier x proof)

-- ---- each kind of step

abbrev pub Entries : Type 0
Entries = Stack Entry

-- the label of an active hypothesis puts what it says
abbrev pub HypothesesArePut : Type 0
HypothesesArePut =
    (earlier : List Assertion) (x : Assertion) (s : Entries) (w : Word) (h : Hypothesis)
    → find (λ h. bytes_eq w (label_of h)) x.active ≡ Some h
    → stepped (entry earlier x) earlier x.active s (names w) ≡ Some (push s (Ok (said_by h)))

-- the label of an assertion takes one entry for each of its mandatory hypotheses and puts what its citation gives
abbrev pub CitationsArePut : Type 0
CitationsArePut =
    (earlier : List Assertion) (x : Assertion) (s : Entries) (w : Word) (c : Assertion) (es : List Expression) (rest : List Entry)
    → find (λ h. bytes_eq w (label_of h)) x.active ≡ None → find (λ c. bytes_eq w c.label) earlier ≡ Some c
    → pop c.hypotheses s.entries [] ≡ Some (map (λ e. Ok e) es, rest)
    → stepped (entry earlier x) earlier x.active s (names w)
    ≡ Some (record { entries = cited x c es ∷ rest; marked = s.marked })

-- ---- parts

-- what verifies in two parts verifies whole: the first ones, and those behind them
abbrev pub PartsVerify : Type 0
PartsVerify =
    (earlier xs ys : List Assertion)
    → AreVerified earlier (xs ++ ys) ↔ (AreVerified earlier xs × AreVerified (earlier ++ xs) ys)

-- ---- faults

-- a theorem whose proof is finished and denotes a tree derives its statement, or has a fault
abbrev pub DerivesOrFails : Type 0
DerivesOrFails =
    (earlier : List Assertion) (x : Assertion) (proof : Proof) → x.proof ≡ Some proof → is_unfinished proof ≡ false
    → IsTrue (leaves_one earlier x.active x.hypotheses proof) → Derives earlier x proof ↔ (fault_of earlier x ≡ None)

-- a source verifies, or it has a first fault
abbrev pub VerifiesOrFails : Type 0
VerifiesOrFails = (ss : Statements) (s : Scope) → Declares ss s → Verifies s ↔ (fault_in s ≡ None)
