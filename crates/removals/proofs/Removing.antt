-- The slot of an assertion that nothing cites, emptied, and the tests of removing it.
use Rattle.std.proofs.Common.{◌≡◌, ℕ, ◌<◌, ◌≤◌, List, Some, Ok, Err, refl, sym, ap, subst, ◌∙◌}
use Rattle.std.specs.Prelude.{nat_le}
use Rattle.std.proofs.lemmas.Bool.{le-leb}
use Rattle.library.specs.declared.library.Ranked.{Ranked}
use Rattle.library.specs.declared.command.Command.TheVariants as command
use Rattle.library.specs.declared.command.Reply.TheVariants.{Done}
use Rattle.library.specs.declared.reason.Reason.TheVariants as reason
use Rattle.library.specs.Library.{Setting, label_of}
use Rattle.library.specs.Edits.{found, citers, without, done, edit}
use Rattle.library.proofs.Places.{found_in}
use Rattle.ranges.proofs.Members.{all_from_has}
use Rattle.bodystore.specs.declared.stored.StoredStep.{StoredStep}
use Rattle.cells.specs.State.{State}
use Rattle.cells.specs.Shows.{AreStoredAs, Shows}
use Rattle.cells.specs.Sight.{Sight, Onward, Looks, after}
use Rattle.cells.specs.Lookups.{ForEach, ForEachHeld, Finds}
use Rattle.cells.specs.Counts.{AreCitedSlots}
use Rattle.chains.specs.Filling.{Empties}
use Rattle.cells.specs.Answers.{WritesSome, Does}
use Rattle.cells.proofs.Sights.{matches_back, views_back, setting_kept}
use Rattle.cells.proofs.Counted.{listed_within}
use Rattle.removals.proofs.WithoutSlot.{still_chained, deleted_shows}
use Rattle.chains.proofs.Chaining.{TakesOut, taken_out}
use Rattle.groundwork.proofs.Seeing.{views_later, found_later}
use Rattle.groundwork.proofs.Refusing.{first_refuses, first_passes, of_some}
use Rattle.groundwork.proofs.Restepped.{CountsOutOf}
use Rattle.removals.specs.Changes.{DeletesAt}

-- what a proof that was read cites is counted out, its slot is taken out of its chain, and its five cells are emptied
pub removed : {O : Type 0} → (s0 s1 s2 s3 s4 : Sight O) (i : ℕ) (label : List ℕ) (former : List StoredStep) (listed : List ℕ) → Looks s0 s1
    → Onward s1 s2
    → Onward s2 s3 → Onward s3 s4 → ForEachHeld s1 i (λ st lib e. AreStoredAs s1.setting.slots st e.assertion.proof former)
    → AreCitedSlots former listed → CountsOutOf s1 s2 listed → TakesOut s2 s3 i label
    → ((st : State) → Empties i (after s3 st) (after s4 st)) → DeletesAt s0 s4 i label
removed s0 s1 s2 s3 s4 i label former listed looks on2 on3 on4 read cited counts takes empties st lib m before here uncited =
    let slots = s1.setting.slots in
    let m3 = matches_back s3 s4 st on4 m in
    let m2 = matches_back s2 s3 st on3 m3 in
    let m1 = matches_back s1 s2 st on2 m2 in
    let v = views_later s0 s1 st lib looks m1 before in
    let at = found_later s0 s1 st lib label i looks here in
    let store = v.matches.store in
    let apart = v.verifies.library.distinct in
    let setting : s4.setting ≡ s1.setting = setting_kept on4 ∙ (setting_kept on3 ∙ (setting_kept on2)) in
    let stored = read st lib v at.entry (found_in lib label at.entry at.found).0 at.holds in
    let within = all_from_has (λ j. j < slots) listed
    (listed_within slots (after s1 st) lib v.shows store at.entry.assertion.proof former listed stored cited) in
    let out = counts st m2 within cited.apart in
    let chained = still_chained slots (after s1 st) (after s2 st) lib v.shows store apart label i at former listed stored cited out in
    let chains = taken_out s1 s2 s3 i label st lib (setting_kept on2) takes m3 v at chained in
    let none = empties st in
    subst (λ (x : Setting). Shows x.slots (after s4 st) (without label lib)) (sym setting)
    (deleted_shows slots (after s1 st) (after s2 st) lib v.shows store apart label i at former listed stored cited out (after s3 st)
    (after s4 st) uncited refl chains none.zeros none.others)

-- ---- the tests

module _ (s : Setting) (lib : List Ranked) (label : List ℕ) (e : Ranked) (at : found lib label ≡ Some e) where
  pub delete_cited : (n : ℕ) → n ≡ citers lib label → 0 < n → edit s lib (command.Delete label) ≡ Err (reason.StillCited n)
  delete_cited n is some =
      of_some lib label _ e at
      ∙ first_refuses (nat_le 1 (citers lib label)) (reason.StillCited (citers lib label)) _ _
      (le-leb 1 (citers lib label) (subst (λ k. 1 ≤ k) is some))
      ∙ ap (λ k. Err (reason.StillCited k)) (sym is)

  pub delete_done : citers lib label ≡ 0 → edit s lib (command.Delete label) ≡ Ok (done (without label lib))
  delete_done none =
      of_some lib label _ e at
      ∙ first_passes (nat_le 1 (citers lib label)) (reason.StillCited (citers lib label)) _ _ (ap (nat_le 1) none)

-- an assertion has the label, and so many proofs cite it
abbrev pub CountsCiters : {O : Type 0} → Sight O → List ℕ → ℕ → Type 0
CountsCiters s label n = ForEach s (λ st lib. (e : Ranked) × (found lib label ≡ Some e) × (n ≡ citers lib label))

-- the number that was read is that of the proofs that cite what was found
pub counted : {O : Type 0} → (s t : Sight O) (i : ℕ) (label : List ℕ) (n : ℕ) → Looks s t → Finds s label (Some i)
    → ForEachHeld t i (λ st lib e. n ≡ citers lib (label_of e)) → CountsCiters t label n
counted s t i label n looks finds read st lib v =
    let at = found_later s t st lib label i looks (finds.1 st lib (views_back s t st lib looks v)) in
    let own = found_in lib label at.entry at.found in
    (at.entry, at.found, read st lib v at.entry own.0 at.holds ∙ ap (citers lib) (sym own.1))

-- what was found, and nothing cites, is removed
pub deleted : {O : Type 0} → (s0 s1 s2 s3 : Sight O) (i : ℕ) (label : List ℕ) → Looks s0 s1 → Looks s1 s2 → Onward s2 s3
    → Finds s1 label (Some i)
    → CountsCiters s2 label 0 → DeletesAt s2 s3 i label → WritesSome s3
    → Does s0 s3 (command.Delete label) Done
deleted s0 s1 s2 s3 i label looks1 looks2 on3 finds counts deletes writes =
    record {
      edits = λ st lib m v.
          let m2 = matches_back s2 s3 st on3 m in
          let v1 = views_later s0 s1 st lib looks1 (matches_back s1 s2 st looks2.onward m2) v in
          let v2 = views_later s1 s2 st lib looks2 m2 v1 in
          let none = counts st lib v2 in (
            without label lib,
            delete_done s0.setting lib label none.0 none.1 (sym none.2),
            deletes st lib m v2 (found_later s1 s2 st lib label i looks2 (finds.1 st lib v1)) (sym none.2),
          );
      writes = writes;
    }
