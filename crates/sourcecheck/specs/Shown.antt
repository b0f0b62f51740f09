-- Of the code's inside, apart from the rules: which entries of the rules a stack of numbers shows, and how a step of it leads on or fails.
use Rattle.std.specs.Prelude.{◌≡◌, ℕ, ◌+◌, ◌<◌, ◌^◌, List, [], ◌++◌, map, take, find, filter, length, slice_get, slice_index_or}
use Rattle.std.specs.Prelude.{Option, Some, None, true, Result, Ok, MatchResult}
use Rattle.std.specs.Option.{option_and_then}
use Rattle.std.specs.Str.{bytes_eq}
use Rattle.mmtext.specs.Words.{Word}
use Rattle.mmsyntax.specs.Tables.{place_of}
use Rattle.derivation.specs.declared.fault.ProofFault.{ProofFault}
use Rattle.derivation.specs.declared.fault.ProofFaultKind.{ProofFaultKind}
use Rattle.derivation.specs.declared.fault.ProofFaultKind.TheVariants.{UnknownStep, StackShort, NotOneLeft, TooLong, NoMemory}
use Rattle.source.specs.Statements.{Proof}
use Rattle.source.specs.Scopes.{Hypothesis, label_of, Assertion}
use Rattle.source.specs.Proofs.{Stack, Step, taken_by, empty, steps_of, stepped, run_steps, made}
use Rattle.verifying.specs.Citations.{said_by}
use Rattle.verifying.specs.Verifies.{Entry, entry, derived, Derives, IsVerified}
use Rattle.verifying.specs.Faults.{is_counted, last_failure, fault_from, fault_of}
use Rattle.sourceframes.specs.declared.frame.Frame.{Frame}
use Rattle.sourceframes.specs.declared.thesis.Thesis.{Thesis}
use Rattle.sourcecheck.specs.declared.naming.Named.{Named}
use Rattle.sourcecheck.specs.declared.naming.Named.TheVariants as named
use Rattle.sourceframes.specs.Frames.{AreFrames}
use Rattle.sourceframes.specs.Theses.{IsThesisOf}
use Rattle.sourcecheck.specs.Spans.{Sheet}
use Rattle.sourcecheck.specs.Written.{written_at, written, AreTooLong, IsTooLong, HasTooLong}

abbrev pub shown_entry : (ℕ → Word) → List ℕ → Entry
shown_entry name e = Ok (map name e)

abbrev pub shown : (ℕ → Word) → Stack (List ℕ) → Stack Entry
shown name s = record { entries = map (shown_entry name) s.entries; marked = map (shown_entry name) s.marked }

-- what stands while a proof of x is checked
pub record Stands (name : ℕ → Word) (earlier : List Assertion) (x : Assertion) (fs : List Frame) (t : Thesis) : Type 0 where
  pub injective : (m n : ℕ) → name m ≡ name n → m ≡ n
  pub frames : AreFrames name earlier fs
  pub thesis : IsThesisOf name t x

-- what a label names
abbrev pub IsNamed : (ℕ → Word) → List Assertion → Assertion → Word → Named → Type 0
IsNamed name earlier x w (named.Hypothesis said) =
    (h : Hypothesis) × (find (λ h. bytes_eq w (label_of h)) x.active ≡ Some h) × (map name said.items ≡ said_by h)
IsNamed name earlier x w (named.Assertion k) =
    (c : Assertion) × (find (λ h. bytes_eq w (label_of h)) x.active ≡ None) × (find (λ c. bytes_eq w c.label) earlier ≡ Some c)
    × (slice_get earlier k ≡ Some c)
IsNamed name earlier x w named.Unknown = taken_by earlier x.active w ≡ None

-- what a label says among hypotheses, if one of them has it
abbrev pub IsSaid : (ℕ → Word) → List Hypothesis → Word → Named → Type 0
IsSaid name hs w (named.Hypothesis said) =
    (h : Hypothesis) × (find (λ h. bytes_eq w (label_of h)) hs ≡ Some h) × (map name said.items ≡ said_by h)
IsSaid name hs w (named.Assertion k) = ⊥
IsSaid name hs w named.Unknown = find (λ h. bytes_eq w (label_of h)) hs ≡ None

-- the place of a hypothesis that has a label
abbrev pub IsPlaceUnder : List Hypothesis → Word → Option ℕ → Type 0
IsPlaceUnder hs w None = find (λ h. bytes_eq w (label_of h)) hs ≡ None
IsPlaceUnder hs w (Some k) = (h : Hypothesis) × (slice_get hs k ≡ Some h) × (bytes_eq w (label_of h) ≡ true)

-- the assertion in front of a place that has a label
abbrev pub IsEarlier : List Assertion → ℕ → Word → Option ℕ → Type 0
IsEarlier xs n w None = find (λ c. bytes_eq w c.label) (take n xs) ≡ None
IsEarlier xs n w (Some k) =
    (k < n) × (place_of (λ c. bytes_eq w c.label) xs ≡ Some k)

-- an assertion that is named has a frame
abbrev pub IsPlaced : ℕ → Named → Type 0
IsPlaced n (named.Assertion k) = k < n
IsPlaced n _ = Unit {0}

-- what labels name
pub record AreNamed (name : ℕ → Word) (earlier : List Assertion) (x : Assertion) (labels : List Word) (ns : List Named) : Type 0 where
  pub long : length labels ≡ length ns
  pub named : (k : ℕ) (n : Named) → slice_get ns k ≡ Some n → IsNamed name earlier x (slice_index_or labels k []) n

-- ---- steps

-- why a step, behind so many symbols, leads nowhere, or to an entry that failed or is too long; of want of memory nothing is said
abbrev pub FailsBy : ℕ → Step → Option (Stack Entry) → ProofFaultKind → Type 0
FailsBy count step o NoMemory = Unit {0}
FailsBy count step o TooLong = 2 ^ 28 < count + written_at step o
FailsBy count step o UnknownStep = o ≡ None
FailsBy count step o StackShort = o ≡ None
FailsBy count step o NotOneLeft = ⊥
FailsBy count step o kind = option_and_then (λ s. last_failure s.entries) o ≡ Some kind

-- a step leads from a stack to another, and writes down so many symbols
pub record LeadsTo (name : ℕ → Word) (earlier : List Assertion) (x : Assertion) (step : Step) (old new : Sheet) : Type 0 where
  pub leads : stepped (entry earlier x) earlier x.active (shown name old.stack) step ≡ Some (shown name new.stack)
  pub written : new.written ≡ old.written + written_at step (Some (shown name new.stack))

-- or fails
abbrev pub Leads : (ℕ → Word) → List Assertion → Assertion → Step → Sheet → Sheet → Result (Unit {0}) ProofFaultKind → Type 0
Leads name earlier x step old new result =
    MatchResult result (λ _. LeadsTo name earlier x step old new)
    (FailsBy old.written step (stepped (entry earlier x) earlier x.active (shown name old.stack) step))

-- ---- proofs

-- steps lead from an empty stack to this one, so many of them are counted, none of them failed, and so many symbols were written down
pub record Reached (name : ℕ → Word) (earlier : List Assertion) (x : Assertion) (front : List Step) (s : Sheet) (count : ℕ) : Type 0 where
  pub leads : run_steps (entry earlier x) earlier x.active (Some empty) front ≡ Some (shown name s.stack)
  pub counted : count ≡ length (filter is_counted front)
  pub passed : (rest : List Step) → fault_from earlier x [] (front ++ rest) ≡ fault_from earlier x front rest
  pub written : (rest : List Step) → written earlier x (Some empty) (front ++ rest)
      ≡ s.written + written earlier x (Some (shown name s.stack)) rest

-- what is told of steps that derive no statement: their first fault, or that they denote no tree
abbrev pub IsFaultOfKind : List Assertion → Assertion → List Step → ℕ → ProofFaultKind → Type 0
IsFaultOfKind earlier x steps count NoMemory = Unit {0}
IsFaultOfKind earlier x steps count TooLong = AreTooLong earlier x steps
IsFaultOfKind earlier x steps count UnknownStep = made (entry earlier x) earlier x.active steps ≡ None
IsFaultOfKind earlier x steps count StackShort = made (entry earlier x) earlier x.active steps ≡ None
IsFaultOfKind earlier x steps count NotOneLeft = made (entry earlier x) earlier x.active steps ≡ None
IsFaultOfKind earlier x steps count kind = fault_from earlier x [] steps ≡ Some (record { step = count; kind = kind })

-- the steps derive the statement, or have the fault
abbrev pub Tells : List Assertion → Assertion → List Step → Result (Unit {0}) ProofFault → Type 0
Tells earlier x steps result =
    MatchResult result (λ _. made (entry earlier x) earlier x.active steps ≡ Some (Ok x.statement))
    (λ f. IsFaultOfKind earlier x steps f.step f.kind)

-- what is told of a proof: it derives the statement, or has this fault, or denotes no tree
abbrev pub IsFaultOfProof : List Assertion → Assertion → Proof → ℕ → ProofFaultKind → Type 0
IsFaultOfProof earlier x proof count NoMemory = Unit {0}
IsFaultOfProof earlier x proof count TooLong = IsTooLong earlier x proof
IsFaultOfProof earlier x proof count UnknownStep = derived earlier x proof ≡ None
IsFaultOfProof earlier x proof count StackShort = derived earlier x proof ≡ None
IsFaultOfProof earlier x proof count NotOneLeft = derived earlier x proof ≡ None
IsFaultOfProof earlier x proof count kind =
    option_and_then (fault_from earlier x []) (steps_of x.hypotheses proof) ≡ Some (record { step = count; kind = kind })

abbrev pub TellsProof : List Assertion → Assertion → Proof → Result (Unit {0}) ProofFault → Type 0
TellsProof earlier x proof result =
    MatchResult result (λ _. Derives earlier x proof) (λ f. IsFaultOfProof earlier x proof f.step f.kind)

-- what is told of an assertion that isn't verified: its fault, or that its proof is too long; of want of memory nothing is known
abbrev pub IsFaultByKind : List Assertion → Assertion → ProofFault → ProofFaultKind → Type 0
IsFaultByKind earlier x f NoMemory = Unit {0}
IsFaultByKind earlier x f TooLong = HasTooLong earlier x
IsFaultByKind earlier x f _ = fault_of earlier x ≡ Some f

abbrev pub IsFaultOfAssertion : List Assertion → Assertion → ProofFault → Type 0
IsFaultOfAssertion earlier x f = IsFaultByKind earlier x f f.kind

-- what is told of an assertion
abbrev pub TellsAssertion : List Assertion → Assertion → Result (Unit {0}) ProofFault → Type 0
TellsAssertion earlier x result = MatchResult result (λ _. IsVerified earlier x) (IsFaultOfAssertion earlier x)
