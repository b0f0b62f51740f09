-- What is asked of texts.
use Rattle.std.specs.Prelude.{◌≡◌, ◌≤◌, ◌^◌, ℕ, Option, IfSome}
use Rattle.checking.specs.declared.task.Task.{Task}
use Rattle.checking.specs.declared.task.Task.TheVariants.{Check, Run, Replay}

-- 1 to 64 workers, and a room of at most 2^24 words, if one is given
abbrev pub IsWithin : ℕ → Option ℕ → Type 0
IsWithin workers room = (1 ≤ workers) × (workers ≤ 64) × IfSome room (λ words. words ≤ 2 ^ 24)

-- so many texts are a job: a database alone; one before any number of scripts; one before a history
abbrev pub TakesTexts : Task → ℕ → Type 0
TakesTexts Check count = count ≡ 1
TakesTexts (Run workers room asked) count = 1 ≤ count
TakesTexts Replay count = count ≡ 2
