-- Of the code's inside, apart from the rules: what the tests of a new label tell, for every state that may be under the run.
use Rattle.std.specs.Prelude.{◌≡◌, ◌≢◌, ℕ, List, [], ◌++◌, Err, false}
use Rattle.library.specs.declared.library.Ranked.{Ranked}
use Rattle.library.specs.declared.reason.Reason.{Reason}
use Rattle.library.specs.Library.{Setting}
use Rattle.library.specs.Edits.{Tests, Edited, tested, has, label_tests}
use Rattle.cells.specs.Sight.{Sight, IsCaused}
use Rattle.cells.specs.Lookups.{ForEach}
use Rattle.cells.specs.declared.ending.CommandError.{CommandError}
use Rattle.cells.specs.declared.ending.CommandError.TheVariants.{Halted, Refused}

-- a label, which has a byte, passes its tests
pub record PassesAsNew {O : Type 0} (s : Sight O) (own label : List ℕ) : Type 0 where
  pub some : label ≢ []
  pub free : ForEach s (λ st lib. has lib label ≡ false)
  pub passes : ForEach s (λ st lib. (more : Tests) (edited : Edited)
      → tested (label_tests s.setting lib own label ++ more) edited ≡ tested more edited)

-- or one of them refuses it
abbrev pub FailsAsNew : {O : Type 0} → Sight O → List ℕ → List ℕ → Reason → Type 0
FailsAsNew s own label reason = ForEach s (λ st lib. (more : Tests) (edited : Edited)
    → tested (label_tests s.setting lib own label ++ more) edited ≡ Err reason)

-- why the test of a new label ends early: it was refused, or the run halts
abbrev pub TellsNotNew : {O : Type 0} → Sight O → List ℕ → List ℕ → CommandError → Type 0
TellsNotNew s own label (Refused reason) = FailsAsNew s own label reason
TellsNotNew s own label (Halted halt) = IsCaused s halt
