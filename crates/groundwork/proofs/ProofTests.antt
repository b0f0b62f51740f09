-- The tests of a theorem's proof, by the steps as they are stored and the frames that they cite.
use Rattle.std.proofs.Common.{◌≡◌, ◌≢◌, ℕ, ◌<◌, true, false, List, [], ◌∷◌, ◌++◌, Option, Some, None, length, map}
use Rattle.std.proofs.Common.{refl, sym, ap, subst, ◌∙◌, inl, inr, arith}
use mathlib.Core.Bool.{not}
use Rattle.std.specs.Prelude.{nat_le}
use Rattle.std.specs.Option.{option_map}
use Rattle.std.specs.List.{list_any}
use Rattle.std.specs.Str.{bytes_eq}
use Rattle.std.proofs.lemmas.Bool.{both_ways, or_from, leb-false, false_from_ne_true}
use Rattle.mmsyntax.specs.declared.statement.Assertion.{Assertion}
use Rattle.mmsyntax.specs.declared.statement.Step.{Step}
use Rattle.mmsyntax.specs.declared.statement.Step.TheVariants.{Float, Hyp, Cite}
use Rattle.mmsyntax.specs.Assertions.{Distinct}
use Rattle.mmsyntax.specs.Tables.{Tables}
use Rattle.mmframes.specs.Frames.{frame}
use Rattle.derivation.specs.declared.fault.ProofFault.{ProofFault}
use Rattle.derivation.specs.Derivation.{Citable}
use Rattle.derivation.specs.Databases.{frame_in}
use Rattle.derivation.specs.Outcomes.{outcome}
use Rattle.derivation.proofs.Growing.{outcome-alike}
use Rattle.library.specs.declared.library.Ranked.{Ranked}
use Rattle.library.specs.declared.reason.Reason.{Reason}
use Rattle.library.specs.declared.reason.Reason.TheVariants.{CitesUnknown, CitedNotLower, ProofFails}
use Rattle.library.specs.Library.{Setting, label_of, lower, citable}
use Rattle.library.specs.Edits.{Tests, Edited, found, is_of_unknown, is_not_below, cites_not_below, fault_of}
use Rattle.library.specs.Edits.{cited_not_lower, proof_fails, proof_tests, tested}
use Rattle.library.proofs.Frames.{frame_given}
use Rattle.library.proofs.Lower.{lower_has, lower_distinct}
use Rattle.library.proofs.Places.{found_in}
use Rattle.ranges.specs.Ranges.{Has, AreOfOneStore}
use Rattle.bodystore.specs.declared.stored.StoredStep.{StoredStep}
use Rattle.bodystore.specs.declared.stored.StoredStep.TheVariants as stored
use Rattle.cells.specs.State.{State, most_words}
use Rattle.cells.specs.Shows.{IsNamed, IsStoredAs, AreStoredAs, Shows}
use Rattle.cells.specs.Sight.{Sight, Views, Looks, after}
use Rattle.cells.specs.Lookups.{ForEach, AreWithin, Resolves}
use Rattle.ranges.proofs.Members.{any_has, has_from_contains}
use Rattle.cells.proofs.Sights.{for_each_later, looks_trans, setting_kept}
use Rattle.cells.proofs.Settings.{same_slots}
use Rattle.cells.proofs.Holders.{found_at}
use Rattle.cells.proofs.Holding.{named_has}
use Rattle.groundwork.specs.Citing.{TellsNotBelow, AreFrames, TellsFrames, TellsFault, Passes, Fails}
use Rattle.groundwork.proofs.CitedRanks.{stored_later}
use Rattle.groundwork.proofs.Refusing.{first_refuses, first_passes}

-- ---- what stored steps cite

module _ (slots : ℕ) (st : State) (lib : List Ranked) (shows : Shows slots st lib) (store : AreOfOneStore most_words st.ranges) where
  -- the label of an assertion each
  pub none_unknown : (steps : List Step) (kept : List StoredStep) → AreStoredAs slots st steps kept
      → list_any (is_of_unknown lib) steps ≡ false
  none_unknown [] kept h = refl
  none_unknown (x ∷ steps) [] h = absurd h
  none_unknown (x ∷ steps) (k ∷ kept) h =
      or_from (is_of_unknown lib x) (list_any (is_of_unknown lib) steps) (one x k h.0) (none_unknown steps kept h.1)
    where
      one : (x : Step) (k : StoredStep) → IsStoredAs (IsNamed slots st) x k → is_of_unknown lib x ≡ false
      one (Float m) k h = refl
      one (Hyp m) k h = refl
      one (Cite l) (stored.Float j) h = absurd h
      one (Cite l) (stored.Hyp j) h = absurd h
      one (Cite l) (stored.Slot j) h = ap not (named_has slots st lib shows store j l h)

  -- which is found
  pub cited_found : Distinct bytes_eq (map label_of lib) → (steps : List Step) (kept : List StoredStep) → AreStoredAs slots st steps kept
      → (label : List ℕ) → Has (Cite label) steps → (e : Ranked) × (found lib label ≡ Some e)
  cited_found apart [] kept h label at = absurd at
  cited_found apart (x ∷ steps) [] h label at = absurd h
  cited_found apart (x ∷ steps) (k ∷ kept) h label (inr later) = cited_found apart steps kept h.1 label later
  cited_found apart (x ∷ steps) (k ∷ kept) h label (inl is) = one k (subst (λ (y : Step). IsStoredAs (IsNamed slots st) y k) (sym is) h.0)
    where
      one : (k : StoredStep) → IsStoredAs (IsNamed slots st) (Cite label) k → (e : Ranked) × (found lib label ≡ Some e)
      one (stored.Float j) h = absurd h
      one (stored.Hyp j) h = absurd h
      one (stored.Slot j) h = let at = found_at slots st lib shows store j label apart h in (at.entry, at.found)

-- ---- the frames of what they cite

-- frames of all that the steps cite are those of what is below the rank, where they cite nothing else
pub frames_lower : (s : Setting) (lib : List Ranked) (rank : ℕ) (steps : List Step) (frames : Citable)
    → Distinct bytes_eq (map label_of lib)
    → list_any (cites_not_below lib rank) steps ≡ false → AreFrames s.prelude lib steps frames
    → (label : List ℕ) (e : Ranked) → Has (Cite label) steps → found lib label ≡ Some e → frames label ≡ citable s lib rank label
frames_lower s lib rank steps frames apart below are label e at is =
    let there = found_in lib label e is in
    let not_above : nat_le rank e.rank ≡ false =
    false_from_ne_true (nat_le rank e.rank) (λ z.
    both_ways (list_any (cites_not_below lib rank) steps) below
    (any_has (cites_not_below lib rank) steps (Cite label) at (ap (is_not_below rank) is ∙ z))) in
    let lt : e.rank < rank = leb-false rank e.rank not_above in
    let given = frame_given s.prelude (lower lib rank) e.assertion (lower_distinct lib rank apart) (lower_has lib rank e there.0 lt) in
    are label at ∙ ap (option_map (λ (x : Ranked). frame s.prelude x.assertion)) is
    ∙ sym (ap (frame_in s.prelude (lower lib rank)) there.1 ∙ given)

-- so the outcome over them is that of the proof
pub outcome_lower : (s : Setting) (lib : List Ranked) (rank : ℕ) (a : Assertion) (frames : Citable) → Distinct bytes_eq (map label_of lib)
    → list_any (cites_not_below lib rank) a.proof ≡ false → AreFrames s.prelude lib a.proof frames
    → ((label : List ℕ) → Has (Cite label) a.proof → (e : Ranked) × (found lib label ≡ Some e))
    → outcome frames s.prelude a ≡ outcome (citable s lib rank) s.prelude a
outcome_lower s lib rank a frames apart below are known =
    outcome-alike frames (citable s lib rank) s.prelude a (λ label at.
    let h = has_from_contains a.proof (Cite label) at in
    let e = known label h in
    frames_lower s lib rank a.proof frames apart below are label e.0 h e.1)

-- ---- tests

-- a label that no assertion has is cited
pub fails_unknown : {O : Type 0} → (s : Sight O) (rank : ℕ) (a : Assertion) → Resolves s a.proof None → Fails s rank a CitesUnknown
fails_unknown s rank a unknown = λ st lib v more edited.
    first_refuses (list_any (is_of_unknown lib) a.proof) CitesUnknown
    (cited_not_lower lib rank a.proof ∷ proof_fails s.setting lib rank a ∷ more) edited (unknown st lib v)

-- each cited label is an assertion's
pub past_unknown : {O : Type 0} → (s : Sight O) (rank : ℕ) (a : Assertion) (kept : List StoredStep) (st : State) (lib : List Ranked)
    → Views s st lib
    → AreStoredAs s.setting.slots (after s st) a.proof kept → (more : Tests) (edited : Edited)
    → tested (proof_tests s.setting lib rank a ++ more) edited
    ≡ tested (cited_not_lower lib rank a.proof ∷ proof_fails s.setting lib rank a ∷ more) edited
past_unknown s rank a kept st lib v are more edited =
    first_passes (list_any (is_of_unknown lib) a.proof) CitesUnknown
    (cited_not_lower lib rank a.proof ∷ proof_fails s.setting lib rank a ∷ more) edited
    (none_unknown s.setting.slots (after s st) lib v.shows v.matches.store a.proof kept are)

-- the steps that are resolved go on to be stored so
pub stored_on : {O : Type 0} → (s t : Sight O) (steps : List Step) (kept : List StoredStep) → Looks s t
    → ForEach s (λ st lib. AreStoredAs s.setting.slots st steps kept) → ForEach t (λ st lib. AreStoredAs t.setting.slots st steps kept)
stored_on s t steps kept looks each = λ st lib v.
    subst (λ (n : ℕ). AreStoredAs n (after t st) steps kept) (sym (same_slots s t looks))
    (for_each_later s t (λ x l. AreStoredAs s.setting.slots x steps kept) looks each st lib v)

-- an assertion that isn't below is cited
pub fails_below : {O : Type 0} → (r s : Sight O) (rank : ℕ) (a : Assertion) (kept : List StoredStep) → Looks r s
    → Resolves r a.proof (Some kept)
    → TellsNotBelow s rank kept true → Fails s rank a CitedNotLower
fails_below r s rank a kept looks resolved told = λ st lib v more edited.
    let are = stored_on r s a.proof kept looks resolved.2 st lib v in
    past_unknown s rank a kept st lib v are more edited
    ∙ first_refuses (list_any (cites_not_below lib rank) a.proof) CitedNotLower (proof_fails s.setting lib rank a ∷ more) edited
    (sym (told st lib v a.proof are))

-- what is known of a proof's steps behind the first two tests
pub record IsSifted {O : Type 0} (s : Sight O) (t : Tables) (rank : ℕ) (a : Assertion) (kept : List StoredStep)
    (frames : Citable) : Type 0 where
  pub same_prelude : t ≡ s.setting.prelude
  pub stored : ForEach s (λ st lib. AreStoredAs s.setting.slots st a.proof kept)
  pub below : TellsNotBelow s rank kept false
  pub are_frames : TellsFrames s t a.proof kept frames

-- behind them the fault over the frames decides
pub sifted_tests : {O : Type 0} → (s : Sight O) (t : Tables) (rank : ℕ) (a : Assertion) (kept : List StoredStep) (frames : Citable)
    (fault : Option ProofFault) → IsSifted s t rank a kept frames → TellsFault frames t a fault → (st : State) (lib : List Ranked)
    → Views s st lib → (more : Tests) (edited : Edited)
    → tested (proof_tests s.setting lib rank a ++ more) edited ≡ tested (option_map ProofFails fault ∷ more) edited
sifted_tests s t rank a kept frames fault sifted tells st lib v more edited =
    let are = sifted.stored st lib v in
    let apart = v.verifies.library.distinct in
    let below : list_any (cites_not_below lib rank) a.proof ≡ false = sym (sifted.below st lib v a.proof are) in
    let noted : AreFrames s.setting.prelude lib a.proof frames =
    subst (λ (u : Tables). AreFrames u lib a.proof frames) sifted.same_prelude (sifted.are_frames st lib v are) in
    let fails : proof_fails s.setting lib rank a ≡ option_map ProofFails fault =
    ap fault_of (sym (outcome_lower s.setting lib rank a frames apart below noted
    (cited_found s.setting.slots (after s st) lib v.shows v.matches.store apart a.proof kept are)))
    ∙ sym (subst (λ (u : Tables). option_map ProofFails fault ≡ fault_of (outcome frames u a)) sifted.same_prelude tells.outcome) in
    past_unknown s rank a kept st lib v are more edited
    ∙ first_passes (list_any (cites_not_below lib rank) a.proof) CitedNotLower (proof_fails s.setting lib rank a ∷ more) edited below
    ∙ ap (λ (o : Option Reason). tested (o ∷ more) edited) fails

pub fails_fault : {O : Type 0} → (s : Sight O) (t : Tables) (rank : ℕ) (a : Assertion) (kept : List StoredStep) (frames : Citable)
    (fault : ProofFault)
    → IsSifted s t rank a kept frames → TellsFault frames t a (Some fault) → Fails s rank a (ProofFails fault)
fails_fault s t rank a kept frames fault sifted tells = λ st lib v more edited.
    sifted_tests s t rank a kept frames (Some fault) sifted tells st lib v more edited

-- no step is left out
some_kept : (steps : List Step) (kept : List StoredStep) → length kept ≡ length steps → steps ≢ [] → kept ≢ []
some_kept [] kept n some e = some refl
some_kept (x ∷ steps) [] n some e = omega (arith, n)
some_kept (x ∷ steps) (k ∷ kept) n some e = absurd cc

pub passes : {O : Type 0} → (r s : Sight O) (t : Tables) (rank : ℕ) (a : Assertion) (kept : List StoredStep) (frames : Citable) → Looks r s
    → Resolves r a.proof (Some kept) → IsSifted s t rank a kept frames → TellsFault frames t a None → Passes s rank a kept
passes r s t rank a kept frames looks resolved sifted tells =
    record {
      some = some_kept a.proof kept resolved.0 (tells.some refl);
      within = subst (λ (n : ℕ). AreWithin n kept) (sym (same_slots r s looks)) resolved.1;
      stored = sifted.stored;
      passes = λ st lib v more edited. sifted_tests s t rank a kept frames None sifted tells st lib v more edited;
    }

-- what one call after another tells of the steps
pub sifted : {O : Type 0} → (s0 s1 s2 s3 : Sight O) (t : Tables) (rank : ℕ) (a : Assertion) (kept first second : List StoredStep)
    (frames : Citable)
    → t ≡ s0.setting.prelude → Looks s0 s1 → Looks s1 s2 → Looks s2 s3 → first ≡ kept → second ≡ kept
    → Resolves s1 a.proof (Some kept) → TellsNotBelow s2 rank first false
    → TellsFrames s3 t a.proof second frames → IsSifted s3 t rank a kept frames
sifted s0 s1 s2 s3 t rank a kept first second frames prelude looks1 looks2 looks3 is_first is_second resolved below noted =
    let later = looks_trans s1 s2 s3 looks2 looks3 in
    let all = looks_trans s0 s1 s3 looks1 later in
    record {
      same_prelude = prelude ∙ ap (λ (x : Setting). x.prelude) (sym (setting_kept all.onward));
      stored = stored_on s1 s3 a.proof kept later resolved.2;
      below = stored_later s2 s3 kept (λ lib xs. false ≡ list_any (cites_not_below lib rank) xs) looks3
          (subst (λ (ks : List StoredStep). TellsNotBelow s2 rank ks false) is_first below);
      are_frames = subst (λ (ks : List StoredStep). TellsFrames s3 t a.proof ks frames) is_second noted;
    }
