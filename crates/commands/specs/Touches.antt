-- For which cells a transaction keeps values aside: those of what its commands change, and no others.
use Rattle.std.specs.Prelude.{◌≡◌, ℕ, List, [], ◌∷◌, ◌++◌}
use Rattle.library.specs.declared.command.Command.{Command}
use Rattle.library.specs.declared.command.Reply.{Reply}
use Rattle.cells.specs.Sight.{Sight, Onward, after}
use Rattle.cells.specs.Aside.{KeepsAside}
use Rattle.cells.specs.Answers.{ForEachBefore, Does}
use Rattle.groundwork.specs.Touches.{Touches, KeepsTo}

-- the command is done, and keeps values aside for no others
pub record Passes {O : Type 0} (old new : Sight O) (c : Command) : Type 0 where
  pub onward : Onward old new
  pub reply : Reply
  pub does : Does old new c reply
  pub keeps : KeepsTo old new c

-- so are the commands, one after another
abbrev pub PassesAll : {O : Type 0} → Sight O → List Command → Sight O → Type 0
PassesAll {O} old [] new = new ≡ old
PassesAll {O} old (c ∷ cs) new = (mid : Sight O) × Passes old mid c × PassesAll mid cs new

-- a cell for which one command of a transaction may keep a value aside, over what those before it kept aside
pub record IsTouchedByOne {O : Type 0} (old new : Sight O) (cs : List Command) (cell : ℕ) : Type 0 where
  pub before : List Command
  pub one : Command
  pub behind : List Command
  pub all : cs ≡ before ++ one ∷ behind
  pub mid : Sight O
  pub passes : PassesAll old before mid
  pub onward : Onward mid new
  pub touches : ForEachBefore mid new (λ st lib. Touches mid.setting.slots (after mid st) lib one cell)

-- a transaction keeps values aside for no others
abbrev pub KeepsToAll : {O : Type 0} → Sight O → Sight O → List Command → Type 0
KeepsToAll old new cs = KeepsAside (IsTouchedByOne old new cs) old new
