-- Which cells `show` and `list` read, from what their parts read.
use Rattle.std.proofs.Common.{◌≡◌, ◌<◌, ◌⊎◌, ℕ, List, Some, true, inl, inr, arith}
use Rattle.mmsyntax.specs.declared.statement.Step.{Step}
use Rattle.library.specs.declared.library.Ranked.{Ranked}
use Rattle.library.specs.declared.command.Command.TheVariants.{Show}
use Rattle.library.specs.declared.command.Command.TheVariants as command
use Rattle.cells.specs.State.{State}
use Rattle.cells.specs.Slots.{name_cell, rank_cell, citers_cell}
use Rattle.cells.specs.Shows.{Holds}
use Rattle.cells.specs.Sight.{Sight, Looks, ReadsWithin}
use Rattle.cells.specs.Aside.{IsOfSlot}
use Rattle.cells.specs.Footprints.{IsOfAssertion}
use Rattle.cells.specs.Lookups.{ForEachHeld, Finds, IfFull}
use Rattle.cells.proofs.Asking.{asks_wider}
use Rattle.groundwork.specs.Footprints.{IsOfCited, IsOfLine, ReadsFor}
use Rattle.groundwork.proofs.Since.{OfCommand, since_then, since_before, since_found, since_held, of_slot}

-- ---- one assertion

entry_shown : (slots i : ℕ) (st : State) (lib : List Ranked) (steps : List Step) (c : ℕ) → (c ≡ rank_cell i)
    ⊎ IsOfAssertion slots i steps st c
    → IsOfSlot i c ⊎ IsOfCited slots st lib name_cell steps c
entry_shown slots i st lib steps c (inl rank) = inl (of_slot i 3 c (omega arith) rank)
entry_shown slots i st lib steps c (inr (inl statement)) = inl (of_slot i 1 c (omega arith) statement)
entry_shown slots i st lib steps c (inr (inr (inl proof))) = inl (of_slot i 2 c (omega arith) proof)
entry_shown slots i st lib steps c (inr (inr (inr cited))) = inr cited

module _ {O : Type 0} (old s t : Sight O) (label : List ℕ) (i : ℕ) (looks : Looks old s) (finds : Finds s label (Some i))
    (before : ReadsFor old s (Show label)) (later : Looks s t) where
  pub show_entry : ForEachHeld t i (λ st lib e. ReadsWithin (λ c. (c ≡ rank_cell i)
      ⊎ IsOfAssertion s.setting.slots i e.assertion.proof st c) s t)
      → ReadsFor old t (Show label)
  show_entry reads =
      since_then (OfCommand old (Show label)) before later.onward
      (since_held (OfCommand old (Show label)) old s t looks label i finds
      (λ n st lib e c. (c ≡ rank_cell i) ⊎ IsOfAssertion n i e.assertion.proof st c)
      (λ st lib at c is. inr (i, at, entry_shown old.setting.slots i st lib at.entry.assertion.proof c is)) later reads)

  pub show_citers : ReadsWithin (λ c. c ≡ citers_cell i) s t → ReadsFor old t (Show label)
  show_citers reads =
      since_then (OfCommand old (Show label)) before later.onward
      (since_found (OfCommand old (Show label)) old s t looks label i finds (λ c. c ≡ citers_cell i)
      (λ st lib at c is. inr (i, at, inl (of_slot i 4 c (omega arith) is))) later.onward reads)

-- ---- all of them

module _ {O : Type 0} (old s t : Sight O) (i : ℕ) (looks : Looks old s) (within : i < old.setting.slots)
    (before : ReadsFor old s command.List) (later : Looks s t) where
  pub list_name : ReadsWithin (λ c. c ≡ name_cell i) s t → ReadsFor old t command.List
  list_name reads =
      since_then (OfCommand old command.List) before later.onward
      (since_before (OfCommand old command.List) old s t looks (λ n st lib c. c ≡ name_cell i)
      (λ st lib c is. (i, within, inl is)) later.onward
      (λ st lib m v. reads))

  -- of a slot that holds an assertion
  pub list_line : IfFull s i true → ReadsWithin (IsOfLine i) s t → ReadsFor old t command.List
  list_line full reads =
      since_then (OfCommand old command.List) before later.onward
      (since_before (OfCommand old command.List) old s t looks
      (λ n st lib c. (f : Ranked) × Holds n st lib i f × IsOfLine i c)
      (λ st lib c is. (i, within, inr is)) later.onward
      (λ st lib m v. let f = full st lib v in asks_wider (λ c line. (f.0, f.1, line)) reads))
