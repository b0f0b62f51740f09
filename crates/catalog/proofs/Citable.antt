-- What the proof of an assertion of a rank may cite, by the places of the labels, and what is wrong with a proof.
use Rattle.std.proofs.Common.{◌≡◌, ◌≢◌, ℕ, ◌<◌, ◌≤◌, false, List, Option, None, Some, refl, sym, ap, subst, ◌∙◌, arith}
use Rattle.std.specs.List.{All, slice_get}
use Rattle.std.proofs.lemmas.Bool.{both_ways}
use Rattle.std.proofs.lemmas.List.Elements.{All-contains}
use Rattle.mmsyntax.specs.declared.statement.Assertion.{Assertion}
use Rattle.mmsyntax.specs.declared.statement.Frame.{Frame}
use Rattle.mmsyntax.specs.declared.statement.Kind.TheVariants.{Theorem}
use Rattle.mmsyntax.specs.Tables.{Tables}
use Rattle.mmframes.specs.Frames.{frame}
use Rattle.derivation.specs.declared.fault.ProofFault.{ProofFault}
use Rattle.derivation.specs.Databases.{frame_in}
use Rattle.derivation.specs.Derivation.{Checks}
use Rattle.derivation.specs.Faults.{HasProofFault}
use Rattle.derivation.proofs.Outcome.{outcome-tree, outcome-fault}
use Rattle.library.specs.declared.library.Ranked.{Ranked}
use Rattle.library.specs.declared.reason.Reason.TheVariants.{ProofFails}
use Rattle.library.specs.Library.{Setting, label_of, lower, citable}
use Rattle.library.specs.Edits.{has, fault_of, proof_fails}
use Rattle.library.proofs.Frames.{frame_found, frame_given}
use Rattle.library.proofs.Lower.{lower_all, lower_has, lower_distinct}
use Rattle.library.proofs.Places.{has_at}
use Rattle.catalog.specs.Entries.{Entries, living, StandsIn}
use Rattle.catalog.specs.Places.{Places, IsIndex}
use Rattle.catalog.proofs.Living.{contained-stands, stands-living, one-place, labels-distinct}

-- ---- frames of lower rank

-- no frame is given for a label that no assertion has
frame-absent : (t : Tables) (xs : List Assertion) (w : List ℕ) → All (λ a. a.label ≢ w) xs → frame_in t xs w ≡ None
frame-absent t xs w h = none (frame_in t xs w) refl
  where
    none : (o : Option Frame) → frame_in t xs w ≡ o → o ≡ None
    none None e = refl
    none (Some f) e =
        let there = frame_found t xs w f e in
        absurd (All-contains (λ a. a.label ≢ w) xs there.0 h there.1 there.2)

pub frame-unknown : (t : Tables) (xs : Entries) (rank : ℕ) (w : List ℕ) → has (living xs) w ≡ false
    → frame_in t (lower (living xs) rank) w ≡ None
frame-unknown t xs rank w free =
    frame-absent t (lower (living xs) rank) w
    (lower_all (λ a. a.label ≢ w) (living xs) rank
    (λ e at lt same. both_ways (has (living xs) w) free (has_at (living xs) w at.0 e at.1 (ap label_of at.2 ∙ same))))

-- nor for that of an assertion that isn't lower
pub frame-above : (t : Tables) (m : Places) (xs : Entries) (rank i : ℕ) (e : Ranked) → IsIndex m xs → StandsIn xs i e → rank ≤ e.rank
    → frame_in t (lower (living xs) rank) (label_of e) ≡ None
frame-above t m xs rank i e x at_i above =
    frame-absent t (lower (living xs) rank) (label_of e)
    (lower_all (λ a. a.label ≢ label_of e) (living xs) rank
    (λ f at lt same.
    let there = contained-stands xs f at in
    let place = one-place m xs there.0 i f e x there.1 at_i same in
    let both : Some (Some f) ≡ Some (Some e) = sym there.1 ∙ ap (slice_get xs) place ∙ at_i in
    let one : f ≡ e = cc in
    let below : e.rank < rank = subst (λ (g : Ranked). g.rank < rank) one lt in
    omega arith))

-- for that of a lower one its frame is given
pub frame-below : (t : Tables) (m : Places) (xs : Entries) (rank i : ℕ) (e : Ranked) → IsIndex m xs → StandsIn xs i e → e.rank < rank
    → frame_in t (lower (living xs) rank) (label_of e) ≡ Some (frame t e.assertion)
frame-below t m xs rank i e x at below =
    frame_given t (lower (living xs) rank) e.assertion (lower_distinct (living xs) rank (labels-distinct m xs x))
    (lower_has (living xs) rank e (stands-living xs i e at) below)

-- ---- proofs

pub proof_fails-none : (s : Setting) (lib : List Ranked) (rank : ℕ) (a : Assertion) → a.kind ≡ Theorem
    → Checks (citable s lib rank) s.prelude a → proof_fails s lib rank a ≡ None
proof_fails-none s lib rank a theorem checks =
    let proof = checks theorem in
    ap fault_of (outcome-tree (citable s lib rank) s.prelude a proof.0 proof.1 proof.2)

pub proof_fails-fault : (s : Setting) (lib : List Ranked) (rank : ℕ) (a : Assertion) (fault : ProofFault)
    → HasProofFault (citable s lib rank) s.prelude a fault → proof_fails s lib rank a ≡ Some (ProofFails fault)
proof_fails-fault s lib rank a fault h = ap fault_of (outcome-fault (citable s lib rank) s.prelude a fault h.1)
