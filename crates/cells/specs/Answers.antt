-- What a command answers over cells, and what a transaction does, for every state that may be under the run: what an editor answers.
use Rattle.std.specs.Prelude.{◌≡◌, ℕ, List, Bool, true, false, Result, Ok, Err}
use Rattle.std.specs.List.{list_any}
use Rattle.library.specs.declared.library.Ranked.{Ranked}
use Rattle.library.specs.declared.command.Command.{Command}
use Rattle.library.specs.declared.command.Command.TheVariants.{Add, Reprove, Replace, Rename}
use Rattle.library.specs.declared.command.Reply.{Reply}
use Rattle.library.specs.declared.reason.Reason.{Reason}
use Rattle.library.specs.declared.reason.Refused.{Refused}
use Rattle.library.specs.Edits.{edit, is_edit}
use Rattle.library.specs.Transactions.{apply, has_edit}
use Rattle.cells.specs.State.{State}
use Rattle.cells.specs.Shows.{Shows}
use Rattle.cells.specs.Sight.{Sight, WasWritten, Matches, Views, Looks, IsCaused, after}
use Rattle.cells.specs.declared.ending.CommandError.{CommandError}
use Rattle.cells.specs.declared.ending.CommandError.TheVariants as command
use Rattle.cells.specs.declared.ending.RunError.{RunError}
use Rattle.cells.specs.declared.ending.RunError.TheVariants as run

-- what is so of every state that may be under the run at the end, and of every library that verifies and that the state showed before, with
-- what the run kept aside then
abbrev pub ForEachBefore : {O : Type 0} → Sight O → Sight O → (State → List Ranked → Type 0) → Type 0
ForEachBefore old new told = (st : State) (lib : List Ranked) → Matches new st → Views old st lib → told st lib

-- with what the run keeps aside now, the state shows the library
abbrev pub ShowsAfter : {O : Type 0} → Sight O → State → List Ranked → Type 0
ShowsAfter s st lib = Shows s.setting.slots (after s st) lib

-- a command that stages a body: that of a label, of a statement or of a proof
abbrev pub stages : Command → Bool
stages (Add rank a) = true
stages (Reprove label steps) = true
stages (Replace label old new) = true
stages (Rename from to) = true
stages _ = false

-- a transaction that does: some command stages a body
abbrev pub has_staging : List Command → Bool
has_staging cs = list_any stages cs

-- the run may do the command: an edit keeps values aside
pub record MayDo {O : Type 0} (s : Sight O) (c : Command) : Type 0 where
  pub write : is_edit c ≡ true → s.may_write ≡ true
  pub stage : stages c ≡ true → s.may_stage ≡ true

-- some cell is kept aside
abbrev pub WritesSome : {O : Type 0} → Sight O → Type 0
WritesSome s = (cell : ℕ) × WasWritten s cell

-- an edit keeps some cell aside, also where its value stays the same; what only reads keeps none aside, and stages nothing
abbrev pub WritesIfEdit : {O : Type 0} → Bool → Sight O → Sight O → Type 0
WritesIfEdit true old new = WritesSome new
WritesIfEdit false old new = Looks old new

-- ---- how a command or a transaction ends early

-- the error of a transaction whose n-th command ends so
abbrev pub error_at : ℕ → CommandError → RunError
error_at n (command.Halted halt) = run.Halted halt
error_at n (command.Refused reason) = run.Refused (record { index = n; reason = reason })

-- ---- one command

-- the command is done, with this reply, and the cells show the library as it is then
pub record Does {O : Type 0} (old new : Sight O) (c : Command) (reply : Reply) : Type 0 where
  pub edits : ForEachBefore old new (λ st lib. (next : List Ranked)
      × (edit old.setting lib c ≡ Ok (record { library = next; reply = reply })) × ShowsAfter new st next)
  pub writes : WritesIfEdit (is_edit c) old new

-- the command is refused, for this reason; nothing was kept aside, and nothing staged
pub record IsRefused {O : Type 0} (old new : Sight O) (c : Command) (reason : Reason) : Type 0 where
  pub refuses : ForEachBefore old new (λ st lib. edit old.setting lib c ≡ Err reason)
  pub looks : Looks old new

-- a command that halts has the cause of it
abbrev pub CommandAnswers : {O : Type 0} → Sight O → Sight O → Command → Result Reply CommandError → Type 0
CommandAnswers old new c (Ok reply) = Does old new c reply
CommandAnswers old new c (Err (command.Refused reason)) = IsRefused old new c reason
CommandAnswers old new c (Err (command.Halted halt)) = IsCaused new halt

-- ---- a transaction

-- all commands are done, one after another, with these replies, and the cells show the library as it is then
pub record DoesAll {O : Type 0} (old new : Sight O) (cs : List Command) (replies : List Reply) : Type 0 where
  pub applies : ForEachBefore old new (λ st lib. (next : List Ranked)
      × (apply old.setting lib cs ≡ Ok (record { library = next; replies = replies })) × ShowsAfter new st next)
  pub writes : WritesIfEdit (has_edit cs) old new

-- the transaction is refused: by the command that is named, for its reason
abbrev pub RefusesAll : {O : Type 0} → Sight O → Sight O → List Command → Refused → Type 0
RefusesAll old new cs refused = ForEachBefore old new (λ st lib. apply old.setting lib cs ≡ Err refused)

abbrev pub RunAnswers : {O : Type 0} → Sight O → Sight O → List Command → Result (List Reply) RunError → Type 0
RunAnswers old new cs (Ok replies) = DoesAll old new cs replies
RunAnswers old new cs (Err (run.Refused refused)) = RefusesAll old new cs refused
RunAnswers old new cs (Err (run.Halted halt)) = IsCaused new halt
