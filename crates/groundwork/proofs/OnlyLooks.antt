-- What only looks: reads and look-ups, and commands whose reply leaves the library as it is.
use Rattle.std.proofs.Common.{◌≡◌, ℕ, false, List, Result, Ok, Err, sym, subst}
use Rattle.std.specs.Prelude.{IfOk, IfErr}
use Rattle.library.specs.declared.command.Command.{Command}
use Rattle.library.specs.declared.command.Reply.{Reply}
use Rattle.library.specs.Edits.{edit, is_edit}
use Rattle.bodystore.specs.declared.stored.StoredStep.{StoredStep}
use Rattle.cells.specs.Sight.{Sight, Looks, Reads, after}
use Rattle.cells.specs.Lookups.{ForEach, ForEachHeld}
use Rattle.cells.specs.Answers.{WritesIfEdit, Does}
use Rattle.cells.specs.Shows.{AreStoredAs}
use Rattle.cells.proofs.Settings.{same_slots}
use Rattle.cells.proofs.ReadBack.{held_later}
use Rattle.groundwork.proofs.Seeing.{views_later}

-- a slot's proof is stored as it was, while nothing is written
pub stored_since : {O : Type 0} → (s t : Sight O) (i : ℕ) (kept : List StoredStep) → Looks s t
    → ForEachHeld s i (λ st lib e. AreStoredAs s.setting.slots st e.assertion.proof kept)
    → ForEachHeld t i (λ st lib e. AreStoredAs t.setting.slots st e.assertion.proof kept)
stored_since s t i kept looks each st lib v e at h =
    subst (λ n. AreStoredAs n (after t st) e.assertion.proof kept) (sym (same_slots s t looks))
    (held_later s t i (λ x l f. AreStoredAs s.setting.slots x f.assertion.proof kept) looks each st lib v e at h)

-- a read only looks, whether the run is stopped or not
pub read_looks : {O : Type 0} → {E : Type 0} (s t : Sight O) (cell : ℕ) (r : Result ℕ E) → IfOk r (λ v. Reads cell v s t)
    → IfErr r (λ _. Looks s t) → Looks s t
read_looks s t cell (Ok v) ok err = ok.looks
read_looks s t cell (Err e) ok err = err

-- the command is no edit, and leaves each library as it is
pub does_reading : {O : Type 0} → (s t : Sight O) (c : Command) (reply : Reply) → Looks s t → is_edit c ≡ false
    → ForEach t (λ st lib. edit s.setting lib c ≡ Ok (record { library = lib; reply = reply })) → Does s t c reply
does_reading s t c reply looks reads each =
    record {
      edits = λ st lib m v. let now = views_later s t st lib looks m v in (lib, each st lib now, now.shows);
      writes = subst (λ b. WritesIfEdit b s t) (sym reads) looks;
    }
