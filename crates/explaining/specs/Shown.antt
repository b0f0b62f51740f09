-- Of the code's inside, apart from the rules: what words, expressions and stacks of the code show, and what a step does to these.
use Rattle.std.specs.Prelude.{◌≡◌, ℕ, ◌<◌, Bool, true, false, List, [], ◌++◌, map, filter, find, length, reverse, slice_get, Option, Some, None, Ok, Err}
use mathlib.Core.Bool.{not}
use Rattle.std.specs.List.{list_all, filter_map}
use Rattle.std.specs.Str.{bytes_eq}
use Rattle.std.specs.Borrow.{Bor}
use Rattle.std.specs.Global.{Vec}
use Rattle.mmtext.specs.Words.{Word}
use Rattle.derivation.specs.declared.fault.ProofFaultKind.{ProofFaultKind}
use Rattle.source.specs.Scopes.{Hypothesis, label_of, Assertion}
use Rattle.source.specs.Proofs.{Stack, Step, names, empty, stepped, run_steps, made}
use Rattle.source.specs.Views.{seen_words, seen_hypothesis, seen_pairs}
use Rattle.verifying.specs.Citations.{Expression, said_by, Substitution, substitute, symbols_apart}
use Rattle.verifying.specs.Verifies.{Entry, entry, cited}
use Rattle.verifying.specs.Faults.{is_counted, fault_from}
use Rattle.explaining.specs.declared.assertion.AssertionWords.{AssertionWords}
use Rattle.explaining.specs.declared.citing.Conclusion.{Conclusion}
use Rattle.explaining.specs.declared.citing.Conclusion.TheVariants as conclusion
use Rattle.explaining.specs.declared.filling.Filled.{Filled}
use Rattle.explaining.specs.declared.finding.Finding.{Finding}
use Rattle.explaining.specs.declared.stack.Entries.{Entries}
use Rattle.explaining.specs.declared.stepping.Turn.{Turn}
use Rattle.explaining.specs.declared.stepping.Turn.TheVariants as turn
use Rattle.explaining.specs.declared.stepping.Outcome.{Outcome}
use Rattle.explaining.specs.declared.stepping.Outcome.TheVariants as outcome
use Rattle.explaining.specs.Findings.{Cites, Finds, IsFound, kind_of}

-- ---- assertions, as far as they are cited or proved

-- without its proof and its mandatory hypotheses
abbrev pub bare : Assertion → Assertion
bare x = record x { hypotheses = []; proof = None }

abbrev pub seen_assertion : AssertionWords → Assertion
seen_assertion a = record {
  label = a.label.now;
  hypotheses = [];
  pairs = seen_pairs a.pairs.items;
  statement = seen_words a.statement.items;
  proof = None;
  active = map seen_hypothesis a.active.items;
}

-- and with mandatory hypotheses
abbrev pub with_hypotheses : AssertionWords → List Hypothesis → Assertion
with_hypotheses a hs = record (seen_assertion a) { hypotheses = hs }

-- the assertion with a label in front of a place, at this place
abbrev pub IsEarlier : List Assertion → List Assertion → Word → Option ℕ → Type 0
IsEarlier xs earlier w None = find (λ c. bytes_eq w c.label) earlier ≡ None
IsEarlier xs earlier w (Some k) =
    (c : Assertion) × (k < length xs) × (slice_get xs k ≡ Some c) × (find (λ c. bytes_eq w c.label) earlier ≡ Some c)

-- what the hypothesis says that has a label, if one of these has it
abbrev pub IsSaid : List Hypothesis → Word → Option (Vec (Bor (List ℕ))) → Type 0
IsSaid hs w None = find (λ h. bytes_eq w (label_of h)) hs ≡ None
IsSaid hs w (Some said) =
    (h : Hypothesis) × (find (λ h. bytes_eq w (label_of h)) hs ≡ Some h) × (seen_words said.items ≡ said_by h)

-- ---- hypotheses with the expressions in their places

abbrev pub seen_expression : Vec (Bor (List ℕ)) → Expression
seen_expression e = seen_words e.items

abbrev pub seen_filled : Filled → Hypothesis × Expression
seen_filled f = (seen_hypothesis f.hypothesis, seen_words f.expression.items)

abbrev pub substitution_by : List (Hypothesis × Expression) → Substitution
substitution_by zs = filter_map (λ p. substitute p.0 p.1) zs

-- ---- variables: all are apart, or the first that isn't, with the first from which it isn't

abbrev pub AreMeeting : Assertion → List Word → List Word → Option (Bor (List ℕ) × Bor (List ℕ)) → Type 0
AreMeeting x us vs None = list_all (λ u. list_all (symbols_apart x u) vs) us ≡ true
AreMeeting x us vs (Some p) =
    (find (λ u. not (list_all (symbols_apart x u) vs)) us ≡ Some p.0.now) × (find (λ v. not (symbols_apart x p.0.now v)) vs ≡ Some p.1.now)

-- ---- stacks

abbrev pub seen_entry : Vec (Bor (List ℕ)) → Entry
seen_entry e = Ok (seen_words e.items)

abbrev pub seen_stack : Entries → Stack Entry
seen_stack s = record { entries = reverse (map seen_entry s.entries.items); marked = map seen_entry s.marked.items }

-- ---- citations

-- a test of a citation passes, or this is what it finds
abbrev pub Tests : Assertion → Assertion → List Expression → Bool → ProofFaultKind → Option Finding → Type 0
Tests x c es fits kind None = fits ≡ true
Tests x c es fits kind (Some finding) = (fits ≡ false) × Finds x c es finding × (kind_of finding ≡ kind)

-- a citation fails a test
pub record FailsToCite (x c : Assertion) (es : List Expression) (finding : Finding) : Type 0 where
  pub finds : Finds x c es finding
  pub fails : cited x c es ≡ Err (kind_of finding)

-- it makes an expression, or fails a test
abbrev pub Concludes : Assertion → Assertion → List Expression → Conclusion → Type 0
Concludes x c es (conclusion.Made e) = cited x c es ≡ Ok (seen_words e.items)
Concludes x c es (conclusion.Fails finding) = FailsToCite x c es finding

-- ---- steps

-- a step over a stack fails a test
pub record FailsBy (earlier : List Assertion) (x : Assertion) (step : Step) (old : Stack Entry) (finding : Finding) : Type 0 where
  pub label : Word
  pub is_label : step ≡ names label
  pub c : Assertion
  pub es : List Expression
  pub cites : Cites earlier x old label c es
  pub by : FailsToCite x c es finding

-- what a step does
abbrev pub Turns : List Assertion → Assertion → Step → Stack Entry → Stack Entry → Turn → Type 0
Turns earlier x step old new turn.Passes = stepped (entry earlier x) earlier x.active old step ≡ Some new
Turns earlier x step old new turn.Absent = stepped (entry earlier x) earlier x.active old step ≡ None
Turns earlier x step old new (turn.Fails finding) = FailsBy earlier x step old finding

-- steps lead from an empty stack to this one, so many of them are counted, and none of them failed
pub record Reached (earlier : List Assertion) (x : Assertion) (front : List Step) (s : Stack Entry) (count : ℕ) : Type 0 where
  pub leads : run_steps (entry earlier x) earlier x.active (Some empty) front ≡ Some s
  pub counted : count ≡ length (filter is_counted front)
  pub passed : (rest : List Step) → fault_from earlier x [] (front ++ rest) ≡ fault_from earlier x front rest

-- the first fault of steps, and what they find there
pub record IsFaultFound (earlier : List Assertion) (x : Assertion) (steps : List Step) (n : ℕ) (finding : Finding) : Type 0 where
  pub fault : fault_from earlier x [] steps ≡ Some (record { step = n; kind = kind_of finding })
  pub found : IsFound earlier x steps n finding

-- what is told of steps: they denote no tree, derive the statement, or have the fault
abbrev pub Tells : List Assertion → Assertion → List Step → Outcome → Type 0
Tells earlier x steps outcome.Absent = made (entry earlier x) earlier x.active steps ≡ None
Tells earlier x steps outcome.Derives = fault_from earlier x [] steps ≡ None
Tells earlier x steps (outcome.Fails e) = IsFaultFound earlier x steps e.step e.finding
