-- What an editor holds, and what its answers say.
use Rattle.std.specs.Prelude.{◌≡◌, List, Result, Ok, Err}
use Rattle.library.specs.declared.library.Ranked.{Ranked}
use Rattle.library.specs.declared.command.Command.{Command}
use Rattle.library.specs.declared.command.Reply.{Reply}
use Rattle.library.specs.Library.{Setting}
use Rattle.library.specs.Transactions.{apply}
use Rattle.history.specs.declared.editor.ApplyError.{ApplyError}
use Rattle.history.specs.declared.editor.ApplyError.TheVariants.{Refused, NoMemory}

-- a library with its setting: what an editor holds
pub record Held : Type 0 where
  pub setting : Setting
  pub library : List Ranked

-- the answer to a transaction is its definition's: the replies and the new library, or the refusal and the old one. Where memory ran out
-- the library is the old one too
abbrev pub Answers : Held → List Command → Result (List Reply) ApplyError → Held → Type 0
Answers old cs (Ok replies) new = (apply old.setting old.library cs ≡ Ok (record { library = new.library; replies = replies }))
    × (new.setting ≡ old.setting)
Answers old cs (Err (Refused refused)) new = (apply old.setting old.library cs ≡ Err refused) × (new ≡ old)
Answers old cs (Err NoMemory) new = new ≡ old
