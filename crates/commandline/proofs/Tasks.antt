-- The task of a subcommand by its name.
use Rattle.std.proofs.Common.{◌≡◌, ◌∙◌, ℕ, List, Option, codes, sym}
use Rattle.clap.specs.Words.{Row, Text}
use Rattle.checking.specs.declared.task.Task.{Task}
use Rattle.checking.specs.declared.task.Task.TheVariants.{Check, Run, Replay}
use Rattle.commandline.specs.Orders.{HasLimits, IsTaskOf}

-- `run` asks for nothing, where its numbers aren't within their limits
pub runs_alone : (name : Text) (rows : List Row) → name ≡ codes "run"
    → ((workers : ℕ) (room : Option ℕ) → HasLimits rows workers room → ⊥) → (task : Task) → IsTaskOf name rows task → ⊥
runs_alone name rows is none Check h = let clash : codes "run" ≡ codes "check" = sym is ∙ h in cc
runs_alone name rows is none (Run workers room asked) h = none workers room h.1
runs_alone name rows is none Replay h = let clash : codes "run" ≡ codes "replay" = sym is ∙ h in cc
