-- What a run saw of a library, and an assertion that it found there: the same while nothing is written.
use Rattle.std.proofs.Common.{◌≡◌, ℕ, List, Some, None, true, sym, subst, ◌∙◌, inl, inr}
use Rattle.std.proofs.lemmas.Bool.{cases_Bool}
use Rattle.library.specs.declared.library.Ranked.{Ranked}
use Rattle.library.specs.Library.{Setting, Verifies, label_of}
use Rattle.library.specs.Edits.{has, found}
use Rattle.cells.specs.State.{State}
use Rattle.cells.specs.Slots.{name_cell}
use Rattle.cells.specs.Shows.{Shows, Holds}
use Rattle.cells.specs.Sight.{Sight, Matches, Views, Looks, after}
use Rattle.cells.specs.Lookups.{IsFoundAt, Finds, ForEachHeld}
use Rattle.library.proofs.Places.{find_nowhere, found_in}
use Rattle.cells.proofs.Bodies.{one_body}
use Rattle.cells.proofs.Sights.{after_looks, setting_kept}

-- a library that was seen is seen still while nothing is written
pub views_later : {O : Type 0} → (s t : Sight O) (st : State) (lib : List Ranked) → Looks s t → Matches t st → Views s st lib
    → Views t st lib
views_later s t st lib looks m v =
    record {
      matches = m;
      shows = subst (λ (x : State). Shows t.setting.slots x lib) (sym (after_looks s t st looks))
          (subst (λ (x : Setting). Shows x.slots (after s st) lib) (sym (setting_kept looks.onward)) v.shows);
      verifies = subst (λ (x : Setting). Verifies x lib) (sym (setting_kept looks.onward)) v.verifies;
    }

-- a label that is found is an assertion's
pub has_found : (lib : List Ranked) (label : List ℕ) (e : Ranked) → found lib label ≡ Some e → has lib label ≡ true
has_found lib label e h =
    elim (cases_Bool (has lib label)) [
      | inl so ↦ so
      | inr other ↦ let none : Some e ≡ None = sym h ∙ find_nowhere lib label other in absurd cc
    ]

-- an assertion that was found in a slot is found there still: the same one
abbrev pub found_later : {O : Type 0} → (s t : Sight O) (st : State) (lib : List Ranked) (label : List ℕ) (i : ℕ) → Looks s t
    → IsFoundAt s.setting.slots (after s st) lib label i → IsFoundAt t.setting.slots (after t st) lib label i
found_later s t st lib label i looks at =
    record {
      entry = at.entry;
      found = at.found;
      holds = subst (λ (x : State). Holds t.setting.slots x lib i at.entry) (sym (after_looks s t st looks))
          (subst (λ (x : Setting). Holds x.slots (after s st) lib i at.entry) (sym (setting_kept looks.onward)) at.holds);
    }

-- a slot where a label was found holds no assertion with another
pub found_held : {O : Type 0} → (s : Sight O) (label : List ℕ) (i : ℕ) → Finds s label (Some i)
    → ForEachHeld s i (λ st lib e. label ≡ label_of e)
found_held s label i finds st lib v e at h =
    let there = finds.1 st lib v in
    let found = found_in lib label there.entry there.found in
    found.1 ∙ one_body (after s st) (name_cell i) (label_of there.entry) (label_of e) v.matches.store there.holds.name.body h.name.body
