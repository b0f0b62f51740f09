-- Laws: a proof derives in a source what its listing derives in the library that is taken of it (Metamath book, sections 4.1.3, 4.1.4 and
-- 4.2.4 to 4.2.8).
use Rattle.std.specs.Prelude.{◌≡◌, ◌↔◌, ℕ, List, map}
use Rattle.std.specs.Str.{bytes_eq}
use Rattle.mmtext.specs.Words.{Word}
use Rattle.mmsyntax.specs.Tables.{Contents}
use Rattle.mmsyntax.specs.Layout.{HasSpelling}
use Rattle.mmsyntax.specs.Assertions.{Distinct}
use Rattle.source.specs.Statements.{Proof, Statements}
use Rattle.source.specs.Scopes.{Assertion, Scope}
use Rattle.source.specs.Sources.{Declares}
use Rattle.taking.specs.declared.reason.Reason.{Reason}
use Rattle.taking.specs.Names.{Map, Naming}
use Rattle.taking.specs.Reasons.{Choice}
use Rattle.taking.specs.Taken.{Takes}
use Rattle.derivation.specs.declared.fault.ProofFault.{ProofFault}
use Rattle.derivation.specs.declared.fault.ProofFaultKind.TheVariants.{TooLong}
use Rattle.derivation.specs.Databases.{AllCheck, HasFaultAt}
use Rattle.verifying.specs.Verifies.{Verifies}
use Rattle.agreement.specs.Short.{HasShortProof}
use Rattle.agreement.specs.Taken.{IsTakenWithProof, DerivesShort, Agrees}

-- labels of a library differ, as in each text of one. `Takes` alone leaves open that two labels that the profile doesn't allow are changed
-- to the same fresh one, and then a step would cite the first of the two
abbrev pub LabelsDiffer : Contents → Type 0
LabelsDiffer db = Distinct bytes_eq (map (λ a. a.label) db.assertions)

abbrev pub LabelsOfTextsDiffer : Type 0
LabelsOfTextsDiffer = (db : Contents) → HasSpelling db → LabelsDiffer db

-- a source, what is chosen of it, the library that is taken so, and the map of its names
abbrev pub OfLibraries : (Scope → Choice → Contents → Map → Type 0) → Type 0
OfLibraries Says =
    (ss : Statements) (s : Scope) (choice : Choice) (db : Contents) (axioms : List (Word × Reason)) (names : List Naming)
    → Declares ss s → (takes : Takes s choice db axioms names) → LabelsDiffer db → Says s choice db takes.places

-- a theorem that is taken with its proof: what the proof derives in the source, and what the steps prove in the library
abbrev pub ProofsAgree : Type 0
ProofsAgree =
    OfLibraries (λ s choice db m.
    (earlier : List Assertion) (x : Assertion) (proof : Proof) → IsTakenWithProof s choice earlier x proof
    → Agrees m choice db earlier x proof)

-- all proofs of the library check just where all proofs that were taken derive their statements, by short expressions
abbrev pub LibrariesAgree : Type 0
LibrariesAgree =
    OfLibraries (λ s choice db m.
    AllCheck db
    ↔ ((earlier : List Assertion) (x : Assertion) (proof : Proof) → IsTakenWithProof s choice earlier x proof
    → DerivesShort earlier x proof))

-- so what is taken of a source that verifies checks, where no citation in a proof that was taken makes a long expression
abbrev pub WhatVerifiesChecks : Type 0
WhatVerifiesChecks =
    OfLibraries (λ s choice db m.
    Verifies s
    → ((earlier : List Assertion) (x : Assertion) (proof : Proof) → IsTakenWithProof s choice earlier x proof → HasShortProof earlier x)
    → AllCheck db)

-- and whatever is taken of it, a proof that doesn't check has too long an expression, and no other fault
abbrev pub FaultsAreTooLong : Type 0
FaultsAreTooLong =
    OfLibraries (λ s choice db m.
    Verifies s → (k : ℕ) (fault : ProofFault) → HasFaultAt db k fault → fault.kind ≡ TooLong)
