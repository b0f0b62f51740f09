-- When a source verifies: what a proof derives is what its steps make where expressions are on the stack (Metamath book, sections 4.1.4,
-- 4.2.5 to 4.2.8 and 4.3; compressed proofs: appendix B).
use Rattle.std.specs.Prelude.{◌≡◌, ℕ, false, List, [], ◌∷◌, ◌++◌, filter, find, length, if◌then◌else◌}
use Rattle.std.specs.Prelude.{Option, Some, None, Result, Ok, Err, IfSome}
use mathlib.Core.Bool.{not}
use Rattle.std.specs.Option.{option_map_or, option_and_then}
use Rattle.std.specs.Str.{bytes_eq}
use Rattle.mmtext.specs.Words.{Word}
use Rattle.derivation.specs.declared.fault.ProofFaultKind.{ProofFaultKind}
use Rattle.derivation.specs.declared.fault.ProofFaultKind.TheVariants.{UnknownStep, WrongType, HypothesisDiffers, NotDisjoint}
use Rattle.source.specs.Statements.{Proof}
use Rattle.source.specs.Scopes.{Hypothesis, label_of, Assertion, Scope}
use Rattle.source.specs.Proofs.{made, steps_of, is_unfinished}
use Rattle.verifying.specs.Citations.{Expression, said_by, substitution, subst, types_fit, hypotheses_fit, pairs_fit}

-- ---- what a label makes of what came off

-- an expression that is derived, or the first test that failed
abbrev pub Entry : Type 0
Entry = Result Expression ProofFaultKind

-- in a proof of x a citation of c over expressions, one for each of its mandatory hypotheses: its statement after substitution
abbrev pub cited : Assertion → Assertion → List Expression → Entry
cited x c es =
    if not (types_fit c es) then Err WrongType else (
    if not (hypotheses_fit c es) then Err HypothesisDiffers else (
    if not (pairs_fit x c es) then Err NotDisjoint else Ok (subst (substitution c es) c.statement)))

-- the expressions of entries, or the first failure
abbrev pub before : Entry → Result (List Expression) ProofFaultKind → Result (List Expression) ProofFaultKind
before (Err kind) later = Err kind
before (Ok e) (Err kind) = Err kind
before (Ok e) (Ok es) = Ok (e ∷ es)

abbrev pub all_of : List Entry → Result (List Expression) ProofFaultKind
all_of [] = Ok []
all_of (e ∷ es) = before e (all_of es)

-- where an entry failed, what is made of it has failed
abbrev pub made_of : Assertion → Assertion → Result (List Expression) ProofFaultKind → Entry
made_of x c (Err kind) = Err kind
made_of x c (Ok es) = cited x c es

-- an active hypothesis gives what it says, and an earlier assertion what its citation gives
abbrev pub named : Assertion → List Entry → Option Hypothesis → Option Assertion → Entry
named x entries (Some h) c = Ok (said_by h)
named x entries None (Some c) = made_of x c (all_of entries)
named x entries None None = Err UnknownStep

abbrev pub entry : List Assertion → Assertion → Word → List Entry → Entry
entry earlier x w entries =
    named x entries (find (λ h. bytes_eq w (label_of h)) x.active) (find (λ c. bytes_eq w c.label) earlier)

-- ---- when a source verifies

-- what a proof of x derives after the earlier assertions; none where it denotes no tree. A ? names nothing, and so fails
abbrev pub derived : List Assertion → Assertion → Proof → Option Entry
derived earlier x proof = option_and_then (made (entry earlier x) earlier x.active) (steps_of x.hypotheses proof)

-- it derives the theorem's own statement
abbrev pub Derives : List Assertion → Assertion → Proof → Type 0
Derives earlier x proof = derived earlier x proof ≡ Some (Ok x.statement)

-- a theorem whose proof is finished derives its statement; of an axiom, and of a proof with ?, nothing is asked (section 4.2.8)
abbrev pub IsVerified : List Assertion → Assertion → Type 0
IsVerified earlier x = IfSome x.proof (λ proof. is_unfinished proof ≡ false → Derives earlier x proof)

-- assertions behind earlier ones: a proof names those before it alone
abbrev pub AreVerified : List Assertion → List Assertion → Type 0
AreVerified earlier [] = Unit {0}
AreVerified earlier (x ∷ xs) = IsVerified earlier x × AreVerified (earlier ++ x ∷ []) xs

-- of a source this stands behind its statements
abbrev pub Verifies : Scope → Type 0
Verifies s = AreVerified [] s.assertions

-- how many of its proofs are unfinished
abbrev pub unfinished : Scope → ℕ
unfinished s = length (filter (λ x. option_map_or is_unfinished x.proof false) s.assertions)
