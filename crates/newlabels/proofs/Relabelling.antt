-- The slot of an assertion that has another label, and the tests of giving it one.
use Rattle.std.proofs.Common.{◌≡◌, ◌≢◌, ℕ, List, [], ◌++◌, Some, None, Err, refl, sym, ap, subst, ◌∙◌}
use mathlib.Core.Bool.{not}
use Rattle.library.specs.declared.library.Ranked.{Ranked}
use Rattle.library.specs.declared.command.Command.TheVariants as command
use Rattle.library.specs.declared.command.Reply.TheVariants.{Done}
use Rattle.library.specs.declared.reason.Reason.TheVariants as reason
use Rattle.library.specs.Library.{Setting}
use Rattle.library.specs.Edits.{has, found, label_tests, rename, done, edit, tested}
use Rattle.bodystore.specs.Bodies.{label_body}
use Rattle.cells.specs.State.{State, HasBody}
use Rattle.cells.specs.Slots.{name_cell}
use Rattle.cells.specs.Shows.{Shows}
use Rattle.cells.specs.Sight.{Sight, Matches, Views, Onward, Looks, after}
use Rattle.cells.specs.Lookups.{Finds}
use Rattle.chains.specs.Chains.{without_slot}
use Rattle.cells.proofs.Sights.{matches_back, views_back, looks_trans, setting_kept}
use Rattle.cells.proofs.Found.{unfound}
use Rattle.chains.proofs.Renaming.{still_chained, renamed_shows}
use Rattle.chains.proofs.Unlinking.{slot_gone}
use Rattle.cells.specs.Answers.{WritesSome, Does, CommandAnswers}
use Rattle.cells.specs.declared.ending.CommandError.{CommandError}
use Rattle.cells.specs.declared.ending.CommandError.TheVariants.{Halted, Refused}
use Rattle.newlabels.specs.Changes.{RenamesAt}
use Rattle.newlabels.specs.Naming.{PassesAsNew, TellsNotNew}
use Rattle.chains.proofs.Chaining.{TakesOut, PutsIn, taken_out, put_in_chain}
use Rattle.groundwork.proofs.Refusing.{first_refuses, first_passes, refused}
use Rattle.groundwork.proofs.Seeing.{has_found, views_later, found_later}

-- the name cell names the new label's body, and then the slot is taken out of the one chain and put into the other
pub relabelled : {O : Type 0} → (s0 s1 s2 s3 : Sight O) (i : ℕ) (from to words : List ℕ) → Onward s0 s1 → Onward s1 s2 → Onward s2 s3
    → words ≡ label_body to
    → ((st : State) → Matches s1 st → HasBody (after s1 st) (name_cell i) words)
    → ((st : State) (c : ℕ) → c ≢ name_cell i → (after s1 st).value c ≡ (after s0 st).value c)
    → TakesOut s1 s2 i from → PutsIn s2 s3 i to → RenamesAt s0 s3 i from to
relabelled s0 s1 s2 s3 i from to words on1 on2 on3 words_are named others takes puts st lib m v at free =
    let slots = s0.setting.slots in
    let store = v.matches.store in
    let apart = v.verifies.library.distinct in
    let m2 = matches_back s2 s3 st on3 m in
    let m1 = matches_back s1 s2 st on2 m2 in
    let setting : s3.setting ≡ s0.setting = setting_kept on3 ∙ (setting_kept on2 ∙ (setting_kept on1)) in
    let f : Ranked = record { rank = at.entry.rank; assertion = record at.entry.assertion { label = to } } in
    let chained = still_chained slots (after s0 st) (after s1 st) lib v.shows store apart from to i at (others st) in
    let leaves = taken_out s0 s1 s2 i from st lib (setting_kept on1) takes m2 v at chained in
    let enters = put_in_chain s0 s2 s3 i to st (without_slot i v.shows.held) f (setting_kept on2 ∙ (setting_kept on1)) puts m refl
    (slot_gone v.shows.held i) leaves.chained in
    subst (λ (x : Setting). Shows x.slots (after s3 st) (rename from to lib)) (sym setting)
    (renamed_shows slots (after s0 st) (after s1 st) lib v.shows store apart from to i at (others st) (after s2 st) (after s3 st) f refl
    free refl refl (subst (HasBody (after s1 st) (name_cell i)) words_are (named st m1)) leaves enters)

-- ---- the tests

module _ (s : Setting) (lib : List Ranked) (from to : List ℕ) where
  pub rename_unknown : found lib from ≡ None → edit s lib (command.Rename from to) ≡ Err reason.UnknownLabel
  rename_unknown h = first_refuses (not (has lib from)) reason.UnknownLabel _ _ (ap not (unfound lib from h))

  to_label : (e : Ranked) → found lib from ≡ Some e
      → edit s lib (command.Rename from to) ≡ tested (label_tests s lib from to ++ []) (done (rename from to lib))
  to_label e at = first_passes (not (has lib from)) reason.UnknownLabel _ _ (ap not (has_found lib from e at))

-- the assertion with the one label was found, and then the other label was tested
module _ {O : Type 0} (s t u : Sight O) (i : ℕ) (from to : List ℕ) (found : Finds t from (Some i)) (looks : Looks s t)
    (later : Looks t u) where
  abbrev all_looks : Looks s u
  all_looks = looks_trans s t u looks later

  by_label : (st : State) (lib : List Ranked) → Views u st lib
      → edit s.setting lib (command.Rename from to) ≡ tested (label_tests u.setting lib from to ++ []) (done (rename from to lib))
  by_label st lib v =
      let at = found.1 st lib (views_back t u st lib later v) in
      subst (λ (x : Setting). edit x lib (command.Rename from to)
      ≡ tested (label_tests u.setting lib from to ++ []) (done (rename from to lib))) (setting_kept all_looks.onward)
      (to_label u.setting lib from to at.entry at.found)

  -- a label that is refused is why it is not renamed
  pub rename_unlabelled : (error : CommandError) → TellsNotNew u from to error
      → CommandAnswers s u (command.Rename from to) (Err error)
  rename_unlabelled (Halted halt) caused = caused
  rename_unlabelled (Refused r) fails =
      refused s u (command.Rename from to) r all_looks (λ st lib v.
      by_label st lib v ∙ fails st lib v [] (done (rename from to lib)))

  -- and else the label of what was found is replaced
  pub renamed : (w : Sight O) → PassesAsNew u from to → Onward u w → RenamesAt u w i from to → WritesSome w
      → Does s w (command.Rename from to) Done
  renamed w new onward renames writes =
      record {
        edits = λ st lib m v0.
            let mu = matches_back u w st onward m in
            let vt = views_later s t st lib looks (matches_back t u st later.onward mu) v0 in
            let v = views_later t u st lib later mu vt in (
              rename from to lib,
              by_label st lib v ∙ new.passes st lib v [] (done (rename from to lib)),
              renames st lib m v (found_later t u st lib from i later (found.1 st lib vt)) (new.free st lib v),
            );
        writes = writes;
      }
