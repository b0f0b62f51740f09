-- Of the code's inside, apart from the rules: a command that leaves the library with one assertion changed.
use Rattle.std.specs.Prelude.{◌≡◌, ℕ, set, Some, Ok}
use Rattle.library.specs.declared.library.Ranked.{Ranked}
use Rattle.library.specs.declared.command.Command.{Command}
use Rattle.library.specs.Edits.{edit, done}
use Rattle.catalog.specs.Entries.{living, StandsIn}
use Rattle.history.specs.Drafts.{Drafted, now_in}

-- the assertion at a place is changed so, and that is all that the command does
pub record ChangesOne (d : Drafted) (c : Command) (change : Ranked → Ranked) (p : ℕ) (new : Ranked) : Type 0 where
  pub former : Ranked
  pub at : StandsIn d.entries p former
  pub made : new ≡ change former
  pub taken : edit d.setting (now_in d) c ≡ Ok (done (living (set d.entries p (Some new))))
