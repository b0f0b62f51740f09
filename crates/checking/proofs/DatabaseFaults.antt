-- The faults that a database has: that of its text, or of a proof; and which is answered.
use Rattle.std.proofs.Common.{◌≡◌, ◌≢◌, ◌∙◌, ◌+◌, ◌≤◌, ◌⊎◌, inl, inr, Some, ℕ, zero, suc, List, length, subst, sym, ap, refl, arith, ltb}
use Rattle.std.specs.Prelude.{slice_get}
use Rattle.std.proofs.lemmas.Bool.{cases_Bool, ltb-true, ltb-false}
use Rattle.mmsyntax.specs.declared.statement.Assertion.{Assertion}
use Rattle.mmtext.specs.declared.fault.TextFault.{TextFault}
use Rattle.mmtext.specs.declared.fault.FaultKind.TheVariants.{NoMemory as OutOfMemory}
use Rattle.mmsyntax.specs.Tables.{Contents}
use Rattle.mmtext.specs.Languages.{too_long}
use Rattle.mmsyntax.specs.Faults.{FaultyDatabase}
use Rattle.derivation.specs.declared.fault.ProofFault.{ProofFault}
use Rattle.derivation.specs.declared.fault.ProofFaultKind.TheVariants.{NoMemory as NoMemoryOfProof}
use Rattle.derivation.specs.Databases.{IsFirstFault as IsFirstFaultOfProofs}
use Rattle.checking.specs.declared.fault.Fault.{Fault}
use Rattle.checking.specs.declared.fault.Fault.TheVariants.{Text, Proof, NoMemory}
use Rattle.checking.specs.Checks.{Bytes, IsDatabase, IsLabelAt, IsProofFault, IsDatabaseFault, IsOrLacksMemory}
use Rattle.checking.specs.Parts.{IsTextFaultOf, IsProofFaultOf}

-- ---- proofs

-- the answer to the fault of a proof is a fault of the database's proofs
pub proof_faulted : (db : Contents) (n : ℕ) (fault : ProofFault) (f : Fault)
    → (fault.kind ≢ NoMemoryOfProof → IsFirstFaultOfProofs db n fault) → IsProofFaultOf db n fault f → f ≢ NoMemory → IsProofFault db f
proof_faulted db n fault NoMemory first is ne = absurd (ne refl)
proof_faulted db n fault (Proof label g) first is ne = (
  is.0,
  subst (λ (q : ProofFault). IsFirstFaultOfProofs db (is.0 + 1) q) (sym is.3)
      (subst (λ (m : ℕ). IsFirstFaultOfProofs db m fault) is.1 (first is.4)),
  is.2,
  subst (λ (q : ProofFault). q.kind ≢ NoMemoryOfProof) (sym is.3) is.4,
)
proof_faulted db n fault _ first is ne = absurd is

one_label : (db : Contents) (p q : ℕ) (l m : List ℕ) → p ≡ q → IsLabelAt db p l → IsLabelAt db q m → l ≡ m
one_label db p q l m same at_p at_q =
    let get : Some at_p.0 ≡ Some at_q.0 = sym at_p.1 ∙ ap (λ (k : ℕ). slice_get db.assertions k) same ∙ at_q.1 in
    let one : at_p.0 ≡ at_q.0 = cc in
    at_p.2 ∙ ap (λ (a : Assertion). a.label) one ∙ sym at_q.2

-- it is the fault of the first proof that has one
pub proof_refused : (db : Contents) (n : ℕ) (fault : ProofFault) (answer f : Fault) → IsProofFaultOf db n fault answer → IsProofFault db f
    → ((i : ℕ) (g : ProofFault) → IsFirstFaultOfProofs db i g → fault.kind ≢ NoMemoryOfProof → (n ≡ i) × (fault ≡ g))
    → IsOrLacksMemory f answer
proof_refused db n fault NoMemory f is h refused = inr refl
proof_refused db n fault (Proof label g) (Proof m q) is h refused =
    let both = refused (h.0 + 1) q h.1 is.4 in
    let number : n ≡ is.0 + 1 = is.1 in
    let first : n ≡ h.0 + 1 = both.0 in
    let place : is.0 ≡ h.0 = omega arith in
    let labels = one_label db is.0 h.0 label m place is.2 h.2 in
    let faults : g ≡ q = is.3 ∙ both.1 in
    inl (ap (λ (l : List ℕ). Proof l g) labels ∙ ap (λ (x : ProofFault). Proof m x) faults)
proof_refused db n fault (Proof label g) _ is h refused = absurd h
proof_refused db n fault _ f is h refused = absurd is

-- where each proof checks, memory ran out
pub proof_memory : (db : Contents) (n : ℕ) (fault : ProofFault) (answer : Fault) → IsProofFaultOf db n fault answer
    → fault.kind ≡ NoMemoryOfProof → answer ≡ NoMemory
proof_memory db n fault NoMemory is out = refl
proof_memory db n fault (Proof label g) is out = absurd (is.4 out)
proof_memory db n fault _ is out = absurd is

-- ---- the text of the database

-- a text without a fault isn't too long
pub short_text : (text : Bytes) → ((f : TextFault) → FaultyDatabase text f → ⊥) → length text ≤ 16777216
short_text text none = elim (cases_Bool (ltb 16777216 (length text))) [
  | inl y ↦ absurd (none _ (too_long (ltb-true _ _ y) refl))
  | inr n ↦ ltb-false _ _ n
]

pub text_faulted : (text : Bytes) (g : TextFault) (f : Fault) → IsTextFaultOf 0 g f → (g.kind ≢ OutOfMemory → FaultyDatabase text g)
    → f ≢ NoMemory → IsDatabaseFault text f
text_faulted text g NoMemory is faulty ne = absurd (ne refl)
text_faulted text g (Text (suc k) q) is faulty ne = absurd (let z : suc k ≡ 0 = is.0 in omega arith)
text_faulted text g (Text zero q) is faulty ne = (
  subst (λ (x : TextFault). FaultyDatabase text x) (sym is.1) (faulty is.2),
  subst (λ (x : TextFault). x.kind ≢ OutOfMemory) (sym is.1) is.2,
)
text_faulted text g _ is faulty ne = absurd is

pub text_memory : (file : ℕ) (g : TextFault) (f : Fault) → IsTextFaultOf file g f → g.kind ≡ OutOfMemory → f ≡ NoMemory
text_memory file g NoMemory is out = refl
text_memory file g (Text k q) is out = absurd (is.2 out)
text_memory file g _ is out = absurd is

-- a text that isn't read is refused with its fault
pub text_refused : (text : Bytes) (g : TextFault) (answer f : Fault) → IsTextFaultOf 0 g answer
    → ((h : TextFault) → FaultyDatabase text h → (g ≡ h) ⊎ (g.kind ≡ OutOfMemory))
    → ((contents : Contents) → IsDatabase text contents → g.kind ≡ OutOfMemory) → IsDatabaseFault text f → IsOrLacksMemory f answer
text_refused text g NoMemory f is refuses only h = inr refl
text_refused text g (Text n q) (Proof label x) is refuses only h = absurd (is.2 (only h.0 h.1))
text_refused text g (Text n q) (Text zero x) is refuses only h = elim (refuses x h.0) [
  | inl same ↦ inl (ap (λ (k : ℕ). Text k q) is.0 ∙ ap (λ (y : TextFault). Text 0 y) (is.1 ∙ same))
  | inr out ↦ absurd (is.2 out)
]
text_refused text g (Text n q) _ is refuses only h = absurd h
text_refused text g _ f is refuses only h = absurd is

-- ---- the database

pub proof_of_database : (text : Bytes) (db : Contents) (f : Fault) → IsDatabase text db → IsProofFault db f → IsDatabaseFault text f
proof_of_database text db (Proof label g) is h = (db, is, h)
proof_of_database text db _ is h = absurd h

module _ (text : Bytes) (db : Contents) (none : (g : TextFault) → FaultyDatabase text g → ⊥)
    (same : (contents : Contents) → IsDatabase text contents → db ≡ contents) where
  -- a database that is read is refused with the fault of a proof
  pub database_refused : (answer f : Fault) → ((g : Fault) → IsProofFault db g → IsOrLacksMemory g answer) → IsDatabaseFault text f
      → IsOrLacksMemory f answer
  database_refused answer (Text zero g) proofs h = absurd (none g h.0)
  database_refused answer (Proof label g) proofs h =
      proofs (Proof label g) (subst (λ (c : Contents). IsProofFault c (Proof label g)) (sym (same h.0 h.1)) h.2)
  database_refused answer _ proofs h = absurd h

  -- one whose proofs have no fault has none
  pub database_faultless : (f : Fault) → ((g : Fault) → IsProofFault db g → ⊥) → IsDatabaseFault text f → ⊥
  database_faultless (Text zero g) proofs h = none g h.0
  database_faultless (Proof label g) proofs h =
      proofs (Proof label g) (subst (λ (c : Contents). IsProofFault c (Proof label g)) (sym (same h.0 h.1)) h.2)
  database_faultless _ proofs h = h
