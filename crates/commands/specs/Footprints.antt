-- Which cells a transaction reads: those that its commands look at, and no others.
use Rattle.std.specs.Prelude.{◌≡◌, ℕ, List, ◌∷◌, ◌++◌}
use Rattle.library.specs.declared.command.Command.{Command}
use Rattle.cells.specs.Sight.{Sight, Onward, ReadsWithin, after}
use Rattle.cells.specs.Answers.{ForEachBefore}
use Rattle.groundwork.specs.Footprints.{IsReadBy}
use Rattle.commands.specs.Touches.{PassesAll}

-- a cell that one command of a transaction may read, over what those before it kept aside
pub record IsReadByOne {O : Type 0} (old new : Sight O) (cs : List Command) (cell : ℕ) : Type 0 where
  pub before : List Command
  pub one : Command
  pub behind : List Command
  pub all : cs ≡ before ++ one ∷ behind
  pub mid : Sight O
  pub passes : PassesAll old before mid
  pub onward : Onward mid new
  pub reads : ForEachBefore mid new (λ st lib. IsReadBy mid.setting.slots (after mid st) lib one cell)

-- a transaction reads no others, also where it ends early
abbrev pub ReadsForAll : {O : Type 0} → Sight O → Sight O → List Command → Type 0
ReadsForAll old new cs = ReadsWithin (IsReadByOne old new cs) old new
