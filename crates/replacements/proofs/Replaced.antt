-- The tests of another citation in a proof, and what becomes of the library where they pass.
use Rattle.std.proofs.Common.{◌≡◌, ◌≢◌, ℕ, Bool, true, false, List, [], ◌∷◌, Some, None, Ok, Err, map, refl, sym, ap, subst, ◌∙◌}
use Rattle.std.proofs.Common.{inl, inr, ⊎_elim}
use Rattle.std.specs.Prelude.{nat_le, Contains}
use Rattle.std.proofs.Math.Bool.{or-false}
use Rattle.std.specs.List.{list_any}
use Rattle.std.proofs.lemmas.List.Elements.{All-contains}
use mathlib.Core.Bool.{not}
use Rattle.mmsyntax.specs.declared.statement.Kind.{Kind}
use Rattle.mmsyntax.specs.declared.statement.Kind.TheVariants.{Axiom, Theorem}
use Rattle.mmsyntax.specs.declared.statement.Step.{Step}
use Rattle.mmsyntax.specs.declared.statement.Step.TheVariants.{Cite}
use Rattle.mmsyntax.specs.Tables.{Tables}
use Rattle.mmframes.specs.Frames.{frame}
use Rattle.library.specs.declared.library.Ranked.{Ranked}
use Rattle.library.specs.declared.command.Command.TheVariants.{Replace}
use Rattle.library.specs.declared.command.Reply.TheVariants.{Done}
use Rattle.library.specs.declared.reason.Reason.TheVariants.{UnknownLabel, NotATheorem, NotAlike, CitedNotLower}
use Rattle.library.specs.Library.{Setting}
use Rattle.library.specs.Edits.{Edited, Tests, done, found, has, edit, tested, changed, with_proof, recited, is_axiom, is_alike, are_alike}
use Rattle.library.specs.Edits.{where_so, unknown_label, not_alike, cited_not_lower, cites_not_below, is_not_below, replace_tests}
use Rattle.library.proofs.Derivations.{steps_some}
use Rattle.library.proofs.Places.{found_in}
use Rattle.library.proofs.Showing.{ChecksIn}
use Rattle.bodystore.specs.declared.stored.StoredStep.{StoredStep}
use Rattle.cells.specs.State.{State}
use Rattle.cells.specs.Shows.{HoldsProof, AreStoredAs, Holds}
use Rattle.cells.specs.Sight.{Sight, Views, Looks, Onward, after, ReadsWithin}
use Rattle.cells.specs.Lookups.{ForEach, Finds, AreStepsAt}
use Rattle.cells.specs.Answers.{WritesSome, Does, IsRefused, ForEachBefore}
use Rattle.cells.proofs.Found.{unfound, found_named}
use Rattle.cells.proofs.ReadBack.{held_later}
use Rattle.cells.proofs.Settings.{same_slots}
use Rattle.cells.proofs.Sights.{looks_trans, matches_back, setting_kept}
use Rattle.cells.proofs.Asking.{asks_wider}
use Rattle.groundwork.specs.Changes.{ReprovesAt}
use Rattle.groundwork.specs.Touches.{ReprovesWithin, KeepsTo, Touches}
use Rattle.groundwork.specs.Footprints.{ReprovesReading}
use Rattle.groundwork.proofs.OnlyLooks.{stored_since}
use Rattle.cells.proofs.Resolving.{finds_after}
use Rattle.groundwork.proofs.Refusing.{of_some, first_refuses, first_passes, refused_later}
use Rattle.groundwork.proofs.Seeing.{has_found, views_later}
use Rattle.replacements.specs.Replacing.{TellsAlike, TellsNotLower, recited_step}
use Rattle.replacements.proofs.Recited.{recited_stored}

-- ---- the tests

module _ (s : Setting) (lib : List Ranked) (label old new : List ℕ) (e : Ranked) (is : found lib label ≡ Some e) where
  -- the theorem has the other proof
  abbrev after_it : Edited
  after_it = done (changed label (with_proof (recited old new e.assertion.proof)) lib)

  -- the tests behind that of the second label
  abbrev tests_of_two : Tests
  tests_of_two =
      where_so (is_axiom e.assertion.kind) NotATheorem ∷ not_alike s lib old new ∷ cited_not_lower lib e.rank (Cite new ∷ []) ∷ []

  all_tested : edit s lib (Replace label old new) ≡ tested (replace_tests s lib old new e) after_it
  all_tested =
      of_some lib label
      (λ f. tested (replace_tests s lib old new f) (done (changed label (with_proof (recited old new f.assertion.proof)) lib))) e is

  pub old_unknown : found lib old ≡ None → edit s lib (Replace label old new) ≡ Err UnknownLabel
  old_unknown h =
      all_tested
      ∙ first_refuses (not (has lib old)) UnknownLabel (unknown_label lib new ∷ tests_of_two) after_it (ap not (unfound lib old h))

  module _ (f : Ranked) (is_old : found lib old ≡ Some f) where
    old_tested : edit s lib (Replace label old new) ≡ tested (unknown_label lib new ∷ tests_of_two) after_it
    old_tested =
        all_tested
        ∙ first_passes (not (has lib old)) UnknownLabel (unknown_label lib new ∷ tests_of_two) after_it
        (ap not (has_found lib old f is_old))

    pub new_unknown : found lib new ≡ None → edit s lib (Replace label old new) ≡ Err UnknownLabel
    new_unknown h = old_tested ∙ first_refuses (not (has lib new)) UnknownLabel tests_of_two after_it (ap not (unfound lib new h))

    module _ (g : Ranked) (is_new : found lib new ≡ Some g) where
      new_tested : edit s lib (Replace label old new) ≡ tested tests_of_two after_it
      new_tested = old_tested ∙ first_passes (not (has lib new)) UnknownLabel tests_of_two after_it (ap not (has_found lib new g is_new))

      -- whether the two are alike
      abbrev pub alike : Bool
      alike = is_alike (frame s.prelude f.assertion) (frame s.prelude g.assertion)

      alike_found : are_alike s (found lib old) (found lib new) ≡ alike
      alike_found = ap (λ o. are_alike s o (found lib new)) is_old ∙ ap (are_alike s (Some f)) is_new

      not_lower : list_any (cites_not_below lib e.rank) (Cite new ∷ []) ≡ nat_le e.rank g.rank
      not_lower = or-false (is_not_below e.rank (found lib new)) ∙ ap (is_not_below e.rank) is_new

      pub replace_axiom : is_axiom e.assertion.kind ≡ true → edit s lib (Replace label old new) ≡ Err NotATheorem
      replace_axiom h =
          new_tested
          ∙ first_refuses (is_axiom e.assertion.kind) NotATheorem
          (not_alike s lib old new ∷ cited_not_lower lib e.rank (Cite new ∷ []) ∷ []) after_it h

      module _ (theorem : is_axiom e.assertion.kind ≡ false) where
        kind_tested : edit s lib (Replace label old new)
            ≡ tested (not_alike s lib old new ∷ cited_not_lower lib e.rank (Cite new ∷ []) ∷ []) after_it
        kind_tested =
            new_tested
            ∙ first_passes (is_axiom e.assertion.kind) NotATheorem
            (not_alike s lib old new ∷ cited_not_lower lib e.rank (Cite new ∷ []) ∷ []) after_it theorem

        pub replace_unlike : alike ≡ false → edit s lib (Replace label old new) ≡ Err NotAlike
        replace_unlike h =
            kind_tested
            ∙ first_refuses (not (are_alike s (found lib old) (found lib new))) NotAlike (cited_not_lower lib e.rank (Cite new ∷ []) ∷ [])
            after_it (ap not (alike_found ∙ h))

        module _ (like : alike ≡ true) where
          two_tested : edit s lib (Replace label old new) ≡ tested (cited_not_lower lib e.rank (Cite new ∷ []) ∷ []) after_it
          two_tested =
              kind_tested
              ∙ first_passes (not (are_alike s (found lib old) (found lib new))) NotAlike (cited_not_lower lib e.rank (Cite new ∷ []) ∷ [])
              after_it (ap not (alike_found ∙ like))

          pub replace_not_lower : nat_le e.rank g.rank ≡ true → edit s lib (Replace label old new) ≡ Err CitedNotLower
          replace_not_lower h =
              two_tested ∙ first_refuses (list_any (cites_not_below lib e.rank) (Cite new ∷ [])) CitedNotLower [] after_it (not_lower ∙ h)

          pub replace_done : nat_le e.rank g.rank ≡ false → edit s lib (Replace label old new) ≡ Ok after_it
          replace_done h =
              two_tested ∙ first_passes (list_any (cites_not_below lib e.rank) (Cite new ∷ [])) CitedNotLower [] after_it (not_lower ∙ h)

-- ---- an axiom has no step, and a theorem has one

no_step : (slots : ℕ) (st : State) (kind : Kind) (steps : List Step) (kept : List StoredStep) → (kind ≡ Theorem → steps ≢ [])
    → AreStoredAs slots st steps kept → kept ≡ [] → is_axiom kind ≡ true
no_step slots st Axiom steps kept some stored none = refl
no_step slots st Theorem [] kept some stored none = absurd (some refl refl)
no_step slots st Theorem (x ∷ steps) [] some stored none = absurd stored
no_step slots st Theorem (x ∷ steps) (y ∷ kept) some stored none = absurd cc

some_step : (slots i : ℕ) (st : State) (kind : Kind) (steps : List Step) (kept : List StoredStep) → HoldsProof slots st i kind steps
    → AreStoredAs slots st steps kept → kept ≢ [] → kind ≡ Theorem
some_step slots i st Theorem steps kept held stored some = refl
some_step slots i st Axiom [] [] held stored some = absurd (some refl)
some_step slots i st Axiom [] (y ∷ kept) held stored some = absurd stored
some_step slots i st Axiom (x ∷ steps) kept held stored some = absurd (let none = held.1 in cc)

-- ---- what was told stays so while nothing is written

pub alike_later : {O : Type 0} → (s t : Sight O) (p : Tables) (j k : ℕ) (b : Bool) → Looks s t → TellsAlike s p j k b → TellsAlike t p j k b
alike_later s t p j k b looks each st lib v e at h f f_at f_held =
    held_later s t j
    (λ x l e. (f : Ranked) → Contains l f → Holds s.setting.slots x l k f → b ≡ is_alike (frame p e.assertion) (frame p f.assertion)) looks
    each st lib v e at h f f_at (subst (λ n. Holds n (after t st) lib k f) (same_slots s t looks) f_held)

module _ {O : Type 0} (i j k : ℕ) (label old new : List ℕ) (kept : List StoredStep) where
  -- the slots of three labels and the proof in the first were looked up, from the one sight to the other
  pub record Sought (first s : Sight O) : Type 0 where
    pub looks : Looks first s
    pub finds : Finds s label (Some i)
    pub finds_old : Finds s old (Some j)
    pub finds_new : Finds s new (Some k)
    pub stored : AreStepsAt s i kept

  -- one look-up after another
  pub sought : (s0 s1 s2 s3 s4 : Sight O) → Looks s0 s1 → Looks s1 s2 → Looks s2 s3 → Looks s3 s4 → Finds s1 label (Some i)
      → Finds s2 old (Some j) → Finds s3 new (Some k) → AreStepsAt s4 i kept → Sought s0 s4
  sought s0 s1 s2 s3 s4 looks1 looks2 looks3 looks4 finds finds_old finds_new stored =
      let since2 = looks_trans s2 s3 s4 looks3 looks4 in
      let since1 = looks_trans s1 s2 s4 looks2 since2 in
      record {
        looks = looks_trans s0 s1 s4 looks1 since1;
        finds = finds_after s1 s4 label i since1 finds;
        finds_old = finds_after s2 s4 old j since2 finds_old;
        finds_new = finds_after s3 s4 new k looks4 finds_new;
        stored = stored;
      }

  pub sought_later : (first s t : Sight O) → Looks s t → Sought first s → Sought first t
  sought_later first s t looks known =
      record {
        looks = looks_trans first s t known.looks looks;
        finds = finds_after s t label i looks known.finds;
        finds_old = finds_after s t old j looks known.finds_old;
        finds_new = finds_after s t new k looks known.finds_new;
        stored = stored_since s t i kept looks known.stored;
      }

-- ---- the assertions in three slots

module _ {O : Type 0} (s : Sight O) (i : ℕ) (label old new : List ℕ) (finds : Finds s label (Some i)) where
  pub refuses_old : ForEach s (λ st lib. found lib old ≡ None)
      → ForEach s (λ st lib. edit s.setting lib (Replace label old new) ≡ Err UnknownLabel)
  refuses_old none st lib v = let at = finds.1 st lib v in old_unknown s.setting lib label old new at.entry at.found (none st lib v)

  pub refuses_new : (j : ℕ) → Finds s old (Some j) → ForEach s (λ st lib. found lib new ≡ None)
      → ForEach s (λ st lib. edit s.setting lib (Replace label old new) ≡ Err UnknownLabel)
  refuses_new j finds_old none st lib v =
      let at = finds.1 st lib v in
      let at_old = finds_old.1 st lib v in
      new_unknown s.setting lib label old new at.entry at.found at_old.entry at_old.found (none st lib v)

module _ {O : Type 0} (first s : Sight O) (i j k : ℕ) (label old new : List ℕ) (kept : List StoredStep)
    (known : Sought i j k label old new kept first s) where
  stored_there : (st : State) (lib : List Ranked) (v : Views s st lib)
      → AreStoredAs s.setting.slots (after s st) (known.finds.1 st lib v).entry.assertion.proof kept
  stored_there st lib v =
      let at = known.finds.1 st lib v in known.stored st lib v at.entry (found_in lib label at.entry at.found).0 at.holds

  pub refuses_axiom : kept ≡ [] → IsRefused first s (Replace label old new) NotATheorem
  refuses_axiom none =
      refused_later first s (Replace label old new) NotATheorem known.looks (λ st lib v.
      let at = known.finds.1 st lib v in
      let at_old = known.finds_old.1 st lib v in
      let at_new = known.finds_new.1 st lib v in
      let a = at.entry.assertion in
      let checks = All-contains (ChecksIn s.setting lib) lib at.entry v.verifies.checks (found_in lib label at.entry at.found).0 in
      replace_axiom s.setting lib label old new at.entry at.found at_old.entry at_old.found at_new.entry at_new.found
      (no_step s.setting.slots (after s st) a.kind a.proof kept (λ theorem. steps_some _ _ a a.proof a.statement (checks theorem))
      (stored_there st lib v) none))

  -- the steps that cite the other slot are kept aside, and what counts the two
  pub replace_keeps : (last : Sight O) → ReprovesWithin s last i label (map (recited_step s.setting.slots j k) kept)
      → KeepsTo s last (Replace label old new)
  replace_keeps last within st lib m v c was =
      let at = known.finds.1 st lib v in
      let at_old = known.finds_old.1 st lib v in
      let at_new = known.finds_new.1 st lib v in
      let slots = s.setting.slots in
      let steps = at.entry.assertion.proof in
      let apart = v.verifies.library.distinct in
      let named = found_named slots (after s st) lib v.shows v.matches.store apart new k at_new in
      ⊎_elim (λ before. inl before) (λ is. inr (i, at, is))
      (within st lib m v at (recited old new steps) (recited_stored slots (after s st) lib v.shows v.matches.store apart j k old new at_old
      named steps kept (stored_there st lib v)) c was)

  -- and so with what is read
  pub replace_reads : (last : Sight O) → ReprovesReading s last i label (map (recited_step s.setting.slots j k) kept)
      → ForEachBefore s last (λ st lib. ReadsWithin (Touches s.setting.slots (after s st) lib (Replace label old new)) s last)
  replace_reads last within st lib m v =
      let at = known.finds.1 st lib v in
      let at_old = known.finds_old.1 st lib v in
      let at_new = known.finds_new.1 st lib v in
      let slots = s.setting.slots in
      let steps = at.entry.assertion.proof in
      let apart = v.verifies.library.distinct in
      let named = found_named slots (after s st) lib v.shows v.matches.store apart new k at_new in
      asks_wider (λ c is. (i, at, is))
      (within st lib m v at (recited old new steps) (recited_stored slots (after s st) lib v.shows v.matches.store apart j k old new at_old
      named steps kept (stored_there st lib v)))

  module _ (some : kept ≢ []) (p : Tables) (prelude : p ≡ first.setting.prelude) where
    theorem_there : (st : State) (lib : List Ranked) (v : Views s st lib) → (known.finds.1 st lib v).entry.assertion.kind ≡ Theorem
    theorem_there st lib v =
        let at = known.finds.1 st lib v in
        let a = at.entry.assertion in
        some_step s.setting.slots i (after s st) a.kind a.proof kept at.holds.proof (stored_there st lib v) some

    alike_there : (b : Bool) → TellsAlike s p j k b → (st : State) (lib : List Ranked) (v : Views s st lib)
        → is_alike (frame s.setting.prelude (known.finds_old.1 st lib v).entry.assertion)
        (frame s.setting.prelude (known.finds_new.1 st lib v).entry.assertion)
        ≡ b
    alike_there b told st lib v =
        let at_old = known.finds_old.1 st lib v in
        let at_new = known.finds_new.1 st lib v in
        let f = at_old.entry in
        let g = at_new.entry in
        let is : p ≡ s.setting.prelude = prelude ∙ ap (λ (x : Setting). x.prelude) (sym (setting_kept known.looks.onward)) in
        subst (λ (t : Tables). is_alike (frame t f.assertion) (frame t g.assertion) ≡ b) is
        (sym (told st lib v f (found_in lib old f at_old.found).0 at_old.holds g (found_in lib new g at_new.found).0 at_new.holds))

    lower_there : (b : Bool) → TellsNotLower s i k b → (st : State) (lib : List Ranked) (v : Views s st lib)
        → nat_le (known.finds.1 st lib v).entry.rank (known.finds_new.1 st lib v).entry.rank ≡ b
    lower_there b told st lib v =
        let at = known.finds.1 st lib v in
        let at_new = known.finds_new.1 st lib v in
        let e = at.entry in
        let g = at_new.entry in
        sym (told st lib v e (found_in lib label e at.found).0 at.holds g (found_in lib new g at_new.found).0 at_new.holds)

    pub refuses_unlike : TellsAlike s p j k false → IsRefused first s (Replace label old new) NotAlike
    refuses_unlike told =
        refused_later first s (Replace label old new) NotAlike known.looks (λ st lib v.
        let at = known.finds.1 st lib v in
        let at_old = known.finds_old.1 st lib v in
        let at_new = known.finds_new.1 st lib v in
        replace_unlike s.setting lib label old new at.entry at.found at_old.entry at_old.found at_new.entry at_new.found
        (ap is_axiom (theorem_there st lib v)) (alike_there false told st lib v))

    module _ (like : TellsAlike s p j k true) where
      pub refuses_not_lower : TellsNotLower s i k true → IsRefused first s (Replace label old new) CitedNotLower
      refuses_not_lower told =
          refused_later first s (Replace label old new) CitedNotLower known.looks (λ st lib v.
          let at = known.finds.1 st lib v in
          let at_old = known.finds_old.1 st lib v in
          let at_new = known.finds_new.1 st lib v in
          replace_not_lower s.setting lib label old new at.entry at.found at_old.entry at_old.found at_new.entry at_new.found
          (ap is_axiom (theorem_there st lib v)) (alike_there true like st lib v) (lower_there true told st lib v))

      -- the steps that cite the other slot are put into the slot of the theorem
      pub replaced : TellsNotLower s i k false → (last : Sight O) → Onward s last
          → ReprovesAt s last i label (map (recited_step s.setting.slots j k) kept) → WritesSome last
          → Does first last (Replace label old new) Done
      replaced told last on reproves writes =
          record {
            edits = λ st lib m v.
                let now = views_later first s st lib known.looks (matches_back s last st on m) v in
                let at = known.finds.1 st lib now in
                let at_old = known.finds_old.1 st lib now in
                let at_new = known.finds_new.1 st lib now in
                let slots = s.setting.slots in
                let steps = at.entry.assertion.proof in
                let next = changed label (with_proof (recited old new steps)) lib in
                let apart = now.verifies.library.distinct in
                let named = found_named slots (after s st) lib now.shows now.matches.store apart new k at_new in
                let theorem = theorem_there st lib now in (
                  next,
                  subst (λ (x : Setting). edit x lib (Replace label old new) ≡ Ok (done next)) (setting_kept known.looks.onward)
                      (replace_done s.setting lib label old new at.entry at.found at_old.entry at_old.found at_new.entry at_new.found
                      (ap is_axiom theorem) (alike_there true like st lib now) (lower_there false told st lib now)),
                  reproves st lib m now at (recited old new steps) theorem
                      (recited_stored slots (after s st) lib now.shows now.matches.store apart j k old new at_old named steps kept
                      (stored_there st lib now)),
                );
            writes = writes;
          }
