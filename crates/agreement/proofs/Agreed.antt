-- The laws: what is taken of a source checks just where the source's proofs derive their statements.
use Rattle.std.proofs.Common.{◌≡◌, ℕ, Bool, true, false, List, [], ◌∷◌, ◌++◌, map, refl, sym, ap, ◌∙◌, subst, Ok}
use Rattle.std.proofs.Math.Seq.{take-append_seam}
use mathlib.Core.Path.{ap₂}
use Rattle.std.specs.Prelude.{Option, Some, None, ◌↔◌, take, slice_get, nat_lt, IfSome, if◌then◌else◌}
use Rattle.std.specs.Option.{option_map, option_and_then}
use Rattle.std.specs.Str.{bytes_eq}
use Rattle.std.proofs.lemmas.List.{map-append}
use Rattle.std.proofs.lemmas.Option.{same_Some}
use Rattle.mmtext.specs.Words.{Word}
use Rattle.mmsyntax.specs.declared.statement.Kind.TheVariants.{Axiom, Theorem}
use Rattle.mmsyntax.specs.declared.statement.Assertion.{Assertion as Unit'}
use Rattle.mmsyntax.specs.Tables.{Contents}
use Rattle.mmsyntax.specs.Assertions.{Distinct}
use Rattle.mmsyntax.specs.declared.limits.TheConstants.{MOST_STEPS}
use Rattle.mmsyntax.proofs.Distinct.{distinct_left}
use Rattle.derivation.specs.declared.fault.ProofFault.{ProofFault}
use Rattle.derivation.specs.declared.fault.ProofFaultKind.TheVariants.{TooLong}
use Rattle.derivation.specs.Derivation.{Citable, Proves}
use Rattle.derivation.specs.Faults.{HasFault}
use Rattle.derivation.specs.Databases.{frame_in, citable_at, AllCheck, HasFaultAt}
use Rattle.derivation.proofs.Plain.{at_seam}
use Rattle.source.specs.Statements.{Proof, Statements}
use Rattle.source.specs.Scopes.{Assertion, Scope, is_in}
use Rattle.source.specs.Sources.{Declares}
use Rattle.source.specs.Proofs.{Tree, denoted, denoted_by, steps_of, size, is_unfinished}
use Rattle.source.proofs.Wholes.{sources_whole}
use Rattle.taking.specs.declared.reason.Reason.{Reason}
use Rattle.taking.specs.declared.reason.Reason.TheVariants.{Unfinished, TooLong as TooManySteps, InFront, CitesUnchosen, LongExpression}
use Rattle.taking.specs.Names.{Map, Naming}
use Rattle.taking.specs.Listings.{IsListed}
use Rattle.taking.specs.Reasons.{Choice, reason, reason_of, reason_of_finished, cites_left_out}
use Rattle.taking.specs.Taken.{Takes, HasProof, IsTaken, AreTaken, AreTakenFrom}
use Rattle.taking.proofs.LongListings.{denoted_enough}
use Rattle.verifying.specs.Verifies.{derived, Derives, IsVerified, AreVerified}
use Rattle.verifying.specs.Laws.{value}
use Rattle.verifying.proofs.Verified.{trees_are_derived, parts_verify}
use Rattle.agreement.specs.Short.{AreShort}
use Rattle.agreement.specs.Taken.{IsTakenWithProof, how_many_taken, DerivesShort, Agrees}
use Rattle.agreement.specs.Laws.{LabelsDiffer, ProofsAgree, LibrariesAgree, WhatVerifiesChecks, FaultsAreTooLong}
use Rattle.agreement.proofs.Actives.{sources_orderly}
use Rattle.agreement.proofs.Frames.{IsAmong}
use Rattle.agreement.proofs.Chosen.{among_behind, in_parts, taken_from}
use Rattle.agreement.proofs.Named.{said_of, puts, cites}
use Rattle.agreement.proofs.Trees.{Beside}
use Rattle.agreement.proofs.Proving.{tree_agrees, tree_long}

-- ---- what it says that there is no reason

none_of_all : (first second third last : Bool) → (if first then Some TooManySteps else (if second then Some InFront else (if third then
    Some CitesUnchosen else (if last then Some LongExpression else None)))) ≡ None → third ≡ false
none_of_all true second third last e = absurd cc
none_of_all false true third last e = absurd cc
none_of_all false false true last e = absurd cc
none_of_all false false false last e = refl

none_finished : (b : Bool) (r : Option Reason) → (if b then Some Unfinished else r) ≡ None → (b ≡ false) × (r ≡ None)
none_finished true r e = absurd cc
none_finished false r e = (refl, e)

-- ---- theorems and their proofs

record IsProved (m : Map) (earlier : List Assertion) (x : Assertion) (a : Unit') (p : Option Proof) (r : Option Reason) : Type 0 where
  proof : Proof
  has_proof : p ≡ Some proof
  no_reason : r ≡ None

proved : (m : Map) (earlier : List Assertion) (x : Assertion) (a : Unit') (p : Option Proof) (r : Option Reason)
    → HasProof m earlier x a p r → a.kind ≡ Theorem → IsProved m earlier x a p r
proved m earlier x a None None h e = absurd (let no : Axiom ≡ Theorem = sym h.0 ∙ e in cc)
proved m earlier x a None (Some why) h e = absurd (let no : Axiom ≡ Theorem = sym h.0 ∙ e in cc)
proved m earlier x a (Some proof) (Some why) h e = absurd (let no : Axiom ≡ Theorem = sym h.0 ∙ e in cc)
proved m earlier x a (Some proof) None h e = record { proof = proof; has_proof = refl; no_reason = refl }

-- ---- one theorem

module _ (earlier : List Assertion) (x : Assertion) (proof : Proof) (tree : Tree) (has_proof : x.proof ≡ Some proof)
    (denotes : denoted earlier x ≡ Some tree) where
  derived_tree : derived earlier x proof ≡ Some (value earlier x tree)
  derived_tree =
      let of : Option Proof → Option Tree =
      λ o. option_and_then (λ proof. option_and_then (denoted_by earlier x.active) (steps_of x.hypotheses proof)) o in
      trees_are_derived earlier x proof ∙ ap (option_map (value earlier x)) (sym (ap of has_proof) ∙ denotes)

  derives_short : ((value earlier x tree ≡ Ok x.statement) × AreShort earlier x tree) ↔ DerivesShort earlier x proof
  derives_short = (
    λ h. (derived_tree ∙ ap (λ v. Some v) h.0, subst (λ o. IfSome o (AreShort earlier x)) (sym denotes) h.1),
    λ h. (
      same_Some (value earlier x tree) (Ok x.statement) (sym derived_tree ∙ h.0),
      subst (λ o. IfSome o (AreShort earlier x)) denotes h.1,
    ),
  )

module _ (ss : Statements) (s : Scope) (choice : Choice) (db : Contents) (axioms : List (Word × Reason)) (names : List Naming)
    (declares : Declares ss s) (takes : Takes s choice db axioms names) (differ : LabelsDiffer db) where
  one_agrees : (earlier : List Assertion) (x : Assertion) (proof : Proof) → IsTakenWithProof s choice earlier x proof
      → Agrees takes.places choice db earlier x proof
  one_agrees earlier x proof w =
      let m = takes.places in
      let t = db.prelude in
      let parts = in_parts m t choice [] earlier (x ∷ w.later) db.assertions
      (subst (λ xs. AreTaken m t choice [] xs db.assertions) w.stands takes.taken) in
      let own = subst
      (λ b. AreTakenFrom b (IsTaken m t choice earlier x) (AreTaken m t choice (earlier ++ x ∷ []) w.later) parts.later) w.is_chosen
      parts.later_taken in
      let a : Unit' = own.0 in
      let behind = own.1 in
      let taken : IsTaken m t choice earlier x a = own.3 in
      let all : db.assertions ≡ parts.front ++ a ∷ behind = parts.are ∙ ap (λ l. parts.front ++ l) own.2 in
      let has : HasProof m earlier x a (Some proof) None =
      subst (λ (p : Option Proof × Option Reason). HasProof m earlier x a p.0 p.1) (λ i. (w.has_proof i, w.no_reason i)) taken.1 in
      let listed : IsListed m earlier x a = has.1 in
      let reasons = none_finished (is_unfinished proof) (reason_of_finished choice earlier x.label (denoted earlier x))
      (sym (ap (reason_of choice earlier x) w.has_proof) ∙ w.no_reason) in
      let kept : cites_left_out earlier choice.chosen listed.tree ≡ false =
      none_of_all (nat_lt MOST_STEPS (size listed.tree)) (is_in choice.front x.label) (cites_left_out earlier choice.chosen listed.tree)
      (is_in choice.long x.label) (sym (ap (reason_of_finished choice earlier x.label) listed.denotes) ∙ reasons.1) in
      let enough = denoted_enough earlier x proof listed.tree w.has_proof reasons.0 listed.denotes in
      let among = subst (IsAmong x) (sym w.stands) (among_behind earlier w.later x) in
      let whole = sources_whole ss s declares in
      let orderly = sources_orderly ss s declares in
      let sx = said_of m t s choice whole orderly takes.has_places x a among w.is_chosen taken.0 in
      let front_differ = distinct_left bytes_eq (map (λ (b : Unit'). b.label) parts.front) (map (λ (b : Unit'). b.label) (a ∷ behind))
      (subst (Distinct bytes_eq) (ap (map (λ (b : Unit'). b.label)) all ∙ map-append (λ (b : Unit'). b.label) parts.front (a ∷ behind))
      differ) in
      let k = how_many_taken choice earlier in
      let citable : citable_at db k ≡ frame_in t parts.front =
      ap (frame_in t) (ap₂ (λ n as'. take n as') (sym parts.many) all ∙ take-append_seam parts.front (a ∷ behind)) in
      let lib = frame_in t parts.front in
      let put = puts m t s choice whole orderly takes.has_places x a lib earlier among sx in
      let cite = cites m t s choice whole orderly takes.has_places x a earlier (x ∷ w.later) parts.front sx w.stands parts.front_taken
      front_differ in
      let beside : Beside = record {
        m = m;
        t = t;
        choice = choice;
        earlier = earlier;
        x = x;
        a = a;
        lib = lib;
        sx = sx;
        puts = put;
        cites = cite;
      } in
      let agrees = tree_agrees beside listed.tree enough kept listed.lists in
      let long = tree_long beside listed.tree enough kept listed.lists in
      let short = derives_short earlier x proof listed.tree w.has_proof listed.denotes in
      let derives : Derives earlier x proof → value earlier x listed.tree ≡ Ok x.statement =
      λ h. same_Some (value earlier x listed.tree) (Ok x.statement)
      (sym (derived_tree earlier x proof listed.tree w.has_proof listed.denotes) ∙ h) in
      record {
        theorem = a;
        is_theorem = has.0;
        stands = ap₂ (λ as' n. slice_get as' n) all (sym parts.many) ∙ at_seam parts.front a behind;
        says = taken.0;
        agrees =
            subst (λ (lib : Citable). Proves lib t a a.proof a.statement ↔ DerivesShort earlier x proof) (sym citable)
            (λ h. short.0 (agrees.0 h), λ h. agrees.1 (short.1 h));
        too_long =
            subst (λ (lib : Citable). Derives earlier x proof → (fault : ProofFault) → HasFault lib t a fault → fault.kind ≡ TooLong)
            (sym citable) (λ h. long (derives h));
      }

  -- ---- all of them

  AllDerive : Type 0
  AllDerive =
      (earlier : List Assertion) (x : Assertion) (proof : Proof) → IsTakenWithProof s choice earlier x proof
      → DerivesShort earlier x proof

  all_derive : AllCheck db → AllDerive
  unfolding AllDerive
  all_derive checks earlier x proof w =
      let one = one_agrees earlier x proof w in
      one.agrees.0 (checks (how_many_taken choice earlier) one.theorem one.stands one.is_theorem)

  -- a theorem of the library is one that was taken with its proof
  record IsOfSource (k : ℕ) (a : Unit') : Type 0 where
    earlier : List Assertion
    x : Assertion
    proof : Proof
    taken : IsTakenWithProof s choice earlier x proof
    many : k ≡ how_many_taken choice earlier
    same : (one_agrees earlier x proof taken).theorem ≡ a

  of_source : (k : ℕ) (a : Unit') → slice_get db.assertions k ≡ Some a → a.kind ≡ Theorem → IsOfSource k a
  of_source k a at is_theorem =
      let m = takes.places in
      let o = taken_from m db.prelude choice [] s.assertions db.assertions k a takes.taken at in
      let p = proved m o.front o.x a o.x.proof (reason choice o.front o.x) o.taken.1 is_theorem in
      let w : IsTakenWithProof s choice o.front o.x p.proof = record {
        later = o.later;
        stands = o.are;
        is_chosen = o.is_chosen;
        has_proof = p.has_proof;
        no_reason = p.no_reason;
      } in
      let one = one_agrees o.front o.x p.proof w in
      record {
        earlier = o.front;
        x = o.x;
        proof = p.proof;
        taken = w;
        many = o.many;
        same = same_Some one.theorem a (sym one.stands ∙ ap (slice_get db.assertions) (sym o.many) ∙ at);
      }

  all_check : AllDerive → AllCheck db
  unfolding AllDerive
  all_check derive k a at is_theorem =
      let o = of_source k a at is_theorem in
      let n = how_many_taken choice o.earlier in
      let proves = (one_agrees o.earlier o.x o.proof o.taken).agrees.1 (derive o.earlier o.x o.proof o.taken) in
      subst (λ (n : ℕ). Proves (citable_at db n) db.prelude a a.proof a.statement) (sym o.many)
      (subst (λ (b : Unit'). Proves (citable_at db n) db.prelude b b.proof b.statement) o.same proves)

  -- where the source verifies, each of the proofs derives its statement
  verified_derives : AreVerified [] s.assertions → (earlier : List Assertion) (x : Assertion) (proof : Proof)
      → IsTakenWithProof s choice earlier x proof → Derives earlier x proof
  verified_derives verifies earlier x proof w =
      let parts = (parts_verify [] earlier (x ∷ w.later)).0 (subst (AreVerified []) w.stands verifies) in
      let here : IsVerified earlier x = parts.1.0 in
      let reasons = none_finished (is_unfinished proof) (reason_of_finished choice earlier x.label (denoted earlier x))
      (sym (ap (reason_of choice earlier x) w.has_proof) ∙ w.no_reason) in
      subst (λ o. IfSome o (λ proof. is_unfinished proof ≡ false → Derives earlier x proof)) w.has_proof here reasons.0

  others_long : AreVerified [] s.assertions → (k : ℕ) (fault : ProofFault) → HasFaultAt db k fault → fault.kind ≡ TooLong
  others_long verifies k fault h =
      let a : Unit' = h.0 in
      let o = of_source k a h.1 h.2.0 in
      let n = how_many_taken choice o.earlier in
      let one = one_agrees o.earlier o.x o.proof o.taken in
      let has : HasFault (citable_at db k) db.prelude a fault = h.2.1 in
      one.too_long (verified_derives verifies o.earlier o.x o.proof o.taken) fault
      (subst (λ (b : Unit'). HasFault (citable_at db n) db.prelude b fault) (sym o.same)
      (subst (λ (n : ℕ). HasFault (citable_at db n) db.prelude a fault) o.many has))

-- ---- the laws

pub proofs_agree : ProofsAgree
proofs_agree ss s choice db axioms names declares takes differ earlier x proof w =
    one_agrees ss s choice db axioms names declares takes differ earlier x proof w

pub libraries_agree : LibrariesAgree
unfolding AllDerive
libraries_agree ss s choice db axioms names declares takes differ = (
  λ checks earlier x proof w. all_derive ss s choice db axioms names declares takes differ checks earlier x proof w,
  λ derive. all_check ss s choice db axioms names declares takes differ derive,
)

pub what_verifies_checks : WhatVerifiesChecks
unfolding AllDerive
what_verifies_checks ss s choice db axioms names declares takes differ verifies short =
    all_check ss s choice db axioms names declares takes differ
    (λ earlier x proof w.
    (verified_derives ss s choice db axioms names declares takes differ verifies earlier x proof w, short earlier x proof w))

pub faults_are_too_long : FaultsAreTooLong
faults_are_too_long ss s choice db axioms names declares takes differ verifies k fault has =
    others_long ss s choice db axioms names declares takes differ verifies k fault has
