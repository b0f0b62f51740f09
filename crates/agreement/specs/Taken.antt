-- A theorem of a source that is taken with its proof, and its place in the library.
use Rattle.std.specs.Prelude.{◌≡◌, ◌↔◌, ℕ, List, ◌∷◌, ◌++◌, filter, length, Some, None, IsTrue, slice_get}
use Rattle.mmsyntax.specs.declared.statement.Kind.TheVariants.{Theorem}
use Rattle.mmsyntax.specs.declared.statement.Assertion.{Assertion as Unit'}
use Rattle.mmsyntax.specs.Tables.{Contents}
use Rattle.source.specs.Statements.{Proof}
use Rattle.source.specs.Scopes.{Assertion, Scope, is_in}
use Rattle.taking.specs.Names.{Map}
use Rattle.taking.specs.Says.{SaysSame}
use Rattle.taking.specs.Reasons.{Choice, reason}
use Rattle.derivation.specs.declared.fault.ProofFault.{ProofFault}
use Rattle.derivation.specs.declared.fault.ProofFaultKind.TheVariants.{TooLong}
use Rattle.derivation.specs.Derivation.{Proves}
use Rattle.derivation.specs.Faults.{HasFault}
use Rattle.derivation.specs.Databases.{citable_at}
use Rattle.verifying.specs.Verifies.{Derives}
use Rattle.agreement.specs.Short.{HasShortProof}

-- a chosen theorem behind earlier assertions, which there is no reason to take as an axiom
pub record IsTakenWithProof (s : Scope) (choice : Choice) (earlier : List Assertion) (x : Assertion) (proof : Proof) : Type 0 where
  pub later : List Assertion
  pub stands : s.assertions ≡ earlier ++ x ∷ later
  pub is_chosen : IsTrue (is_in choice.chosen x.label)
  pub has_proof : x.proof ≡ Some proof
  pub no_reason : reason choice earlier x ≡ None

-- as many assertions of the library stand before it as of the earlier ones are chosen
abbrev pub how_many_taken : Choice → List Assertion → ℕ
how_many_taken choice earlier = length (filter (λ y. is_in choice.chosen y.label) earlier)

-- a theorem's proof derives its statement in the source, and each citation in it makes a short expression
abbrev pub DerivesShort : List Assertion → Assertion → Proof → Type 0
DerivesShort earlier x proof = Derives earlier x proof × HasShortProof earlier x

-- the theorem stands in the library and says the same there. Over the assertions before it its steps prove its statement just where its
-- proof derives it in the source, by short expressions; and where that derives it by a long one, that is the fault of the steps
pub record Agrees (m : Map) (choice : Choice) (db : Contents) (earlier : List Assertion) (x : Assertion) (proof : Proof) : Type 0 where
  pub theorem : Unit'
  pub is_theorem : theorem.kind ≡ Theorem
  pub stands : slice_get db.assertions (how_many_taken choice earlier) ≡ Some theorem
  pub says : SaysSame m db.prelude x theorem
  pub agrees :
      Proves (citable_at db (how_many_taken choice earlier)) db.prelude theorem theorem.proof theorem.statement
      ↔ DerivesShort earlier x proof
  pub too_long :
      Derives earlier x proof → (fault : ProofFault)
      → HasFault (citable_at db (how_many_taken choice earlier)) db.prelude theorem fault → fault.kind ≡ TooLong
