-- What becomes of scripts that workers run on the sessions of one library.
use Rattle.std.specs.Prelude.{◌≡◌, ◌<◌, ◌≤◌, ◌^◌, ℕ, zero, suc, List, [], ◌∷◌, ◌++◌, Bool, true, false, is_some, All, IsPermutation}
use Rattle.std.specs.Prelude.{count_by, length}
use Rattle.std.specs.Prelude.{drop, filter, flat_map, slice_index_or}
use Rattle.std.specs.List.{AllZip}
use Rattle.std.specs.List.Sorted.{IsStrictlyIncreasing}
use Rattle.library.specs.declared.command.Command.{Command}
use Rattle.library.specs.declared.library.Ranked.{Ranked}
use Rattle.library.specs.Library.{Setting}
use Rattle.library.specs.Agrees.{Agrees, committed, read, refused}
use Rattle.library.specs.Histories.{Entry, done_entry}
use Rattle.library.specs.Transactions.{has_edit, has_too_many}
use Rattle.cells.specs.Answers.{has_staging}
use Rattle.claims.specs.Claims.{up_to}
use Rattle.tlwords.specs.Seen.{Call}
use Rattle.lawful.specs.declared.notes.Given.{Given}
use Rattle.lawful.specs.declared.notes.Note.{Note}
use Rattle.lawful.specs.Lawful.{setting_given, first_library}
use Rattle.lawful.specs.History.{history_of, AllAgree}
use Rattle.transaction.specs.declared.outcome.Outcome.{Outcome}
use Rattle.transaction.specs.declared.outcome.Outcome.TheVariants as outcome
use Rattle.transaction.specs.Members.{Member, IsLater}
use Rattle.transaction.specs.Attempts.{Submits}
use Rattle.transaction.specs.Closings.{HasOutcomes}
use Rattle.workers.specs.declared.error.WorkError.{WorkError}
use Rattle.workers.specs.declared.error.WorkError.TheVariants.{NoMemory, NoThread}

-- ---- an outcome

-- what it says is so of a history from an opening library: the transaction is the entry with its number, or it read, or was refused, over
-- the library at its place. None is a conflict
abbrev pub OutcomeAgrees : Setting → List Ranked → List Entry → List Command → Outcome → Type 0
OutcomeAgrees s lib0 h cs (outcome.Committed number replies) = Agrees s lib0 h cs (committed number replies)
OutcomeAgrees s lib0 h cs (outcome.Read place replies) = Agrees s lib0 h cs (read place replies)
OutcomeAgrees s lib0 h cs (outcome.Refused place index reason) =
    Agrees s lib0 h cs (refused place (record { index = index; reason = reason }))
OutcomeAgrees s lib0 h cs (outcome.Conflict place cell word before) = ⊥
OutcomeAgrees s lib0 h cs _ = Unit {0}

-- it is one that the commands may have
abbrev pub OutcomeFits : (transaction : List Command) → Outcome → Type 0
OutcomeFits cs (outcome.Committed number replies) = has_edit cs ≡ true
OutcomeFits cs (outcome.Read place replies) = has_edit cs ≡ false
OutcomeFits cs outcome.StoreFull = has_staging cs ≡ true
OutcomeFits cs outcome.TooManyCommands = has_too_many cs ≡ true
OutcomeFits cs _ = Unit {0}

-- why it was given up the session tells still, which is this at the end: that no number is left, by the 2^40 numbers that it drew, and it
-- draws no more; that the store is full, by what a staging of it found, which was refused
abbrev pub ToldBy : Member → Outcome → Type 0
ToldBy m outcome.NumbersUsed = 2 ^ 40 ≤ length m.known.drawn
ToldBy m outcome.StoreFull = is_some m.known.full ≡ true
ToldBy m _ = Unit {0}

-- it is that of a run: each but that of too many commands, of which nothing was looked at
abbrev pub is_of_run : Outcome → Bool
is_of_run outcome.TooManyCommands = false
is_of_run _ = true

-- it tells what the definition answers
abbrev pub is_answer : Outcome → Bool
is_answer (outcome.Committed number replies) = true
is_answer (outcome.Read place replies) = true
is_answer (outcome.Refused place index reason) = true
is_answer _ = false

-- it stands at a place, or later
abbrev pub StandsFrom : ℕ → Outcome → Type 0
StandsFrom place (outcome.Committed number replies) = place < number
StandsFrom place (outcome.Read at replies) = place ≤ at
StandsFrom place (outcome.Refused at index reason) = place ≤ at
StandsFrom place _ = Unit {0}

-- the least place of what comes behind it
abbrev pub place_behind : ℕ → Outcome → ℕ
place_behind place (outcome.Committed number replies) = number
place_behind place (outcome.Read at replies) = at
place_behind place (outcome.Refused at index reason) = at
place_behind place _ = place

-- ---- a script

-- the session submits the transactions, one after another, with these outcomes
abbrev pub SubmitsAll : List (List Command) → Member → Member → List Outcome → Type 0
SubmitsAll [] old new [] = new ≡ old
SubmitsAll [] old new (o ∷ os) = ⊥
SubmitsAll (cs ∷ rest) old new [] = ⊥
SubmitsAll (cs ∷ rest) old new (o ∷ os) = (mid : Member) × Submits cs old mid o × SubmitsAll rest mid new os

-- one outcome for each transaction, in order: each agrees with the history, and stands no earlier than those before it, nor than the place
abbrev pub ScriptAgrees : Setting → List Ranked → List Entry → ℕ → List (List Command) → List Outcome → Type 0
ScriptAgrees s lib0 h place [] [] = Unit {0}
ScriptAgrees s lib0 h place [] (o ∷ os) = ⊥
ScriptAgrees s lib0 h place (cs ∷ rest) [] = ⊥
ScriptAgrees s lib0 h place (cs ∷ rest) (o ∷ os) =
    OutcomeAgrees s lib0 h cs o × OutcomeFits cs o × (has_too_many cs ≡ true → o ≡ outcome.TooManyCommands) × StandsFrom place o
    × ScriptAgrees s lib0 h (place_behind place o) rest os

-- the session made a run for each of these outcomes, but where nothing was looked at: it loaded the clock once for each run, and these
-- loads found the places, the newest first. And each of its calls is told as an answer, so that none was given up
pub record MakesRuns (old new : Member) (outcomes : List Outcome) : Type 0 where
  pub places : List ℕ
  pub loaded : new.known.clocks ≡ places ++ old.known.clocks
  pub many : count_by is_of_run outcomes ≤ length places
  pub calls : List (Call Note)
  pub made : new.known.mine ≡ old.known.mine ++ calls
  pub answers : length calls ≡ count_by is_answer outcomes

-- the session ran it, behind all that it had seen: it submitted the transactions, and each outcome is that of the transaction's last try,
-- by what the session was when that try began and when it ended. So no outcome is lost or told of another transaction, and a full store, a
-- want of numbers and one of memory are told of the very try that met them. And so all is as each history has it with which the session's
-- calls agree. They agree with the one that it has seen by now, and with the whole one at the library's end. What was given up, the session
-- tells why; and it made its runs for them
pub record IsRunBy (g : Given) (old new : Member) (script : List (List Command)) (outcomes : List Outcome) : Type 0 where
  pub given : new.given ≡ g
  pub submitted : SubmitsAll script old new outcomes
  pub agrees : (h : List Entry) → AllAgree g h new.known.mine
      → ScriptAgrees (setting_given g) (first_library g) h (length old.known.seen.history) script outcomes
  pub told : All (ToldBy new) outcomes
  pub ran : MakesRuns old new outcomes

-- ---- the scripts of one session

-- what the scripts with these indexes, from 0, have: their transactions, or their outcomes, one after another
abbrev pub all_of : {A : Type 0} → List (List A) → List ℕ → List A
all_of rows share = flat_map (λ n. slice_index_or rows n []) share

-- the session ran the scripts with these indexes, in their order, one after another: as it runs one script of all their transactions. So
-- each is true of the history, and what is told of one after another of them never goes back
pub record IsShareOf (g : Given) (scripts : List (List (List Command))) (rows : List (List Outcome)) (old new : Member) (share : List ℕ) :
    Type 0 where
  pub rising : IsStrictlyIncreasing share
  pub run : IsRunBy g old new (all_of scripts share) (all_of rows share)

-- each session, in order, ran its share
abbrev pub AreSharesOf : Given → List (List (List Command)) → List (List Outcome) → List Member → List Member → List (List ℕ) → Type 0
AreSharesOf g scripts rows [] [] [] = Unit {0}
AreSharesOf g scripts rows (old ∷ before) (new ∷ after) (share ∷ shares) =
    IsShareOf g scripts rows old new share × AreSharesOf g scripts rows before after shares
AreSharesOf g scripts rows _ _ _ = ⊥

-- ---- numbers

-- those of committed transactions
abbrev pub numbers_of : List Outcome → List ℕ
numbers_of [] = []
numbers_of (outcome.Committed number replies ∷ os) = number ∷ numbers_of os
numbers_of (_ ∷ os) = numbers_of os

abbrev pub is_done_entry : Entry → Bool
is_done_entry (done_entry cs replies) = true
is_done_entry _ = false

-- the entry with the number, from 1, is done
abbrev pub is_done : List Entry → ℕ → Bool
is_done [] n = false
is_done (e ∷ h) zero = false
is_done (e ∷ h) (suc zero) = is_done_entry e
is_done (e ∷ h) (suc (suc n)) = is_done h (suc n)

-- those that a session has drawn since, and that are done
abbrev pub newly_done : Member → Member → List ℕ
newly_done old new = filter (is_done (history_of new.known.seen)) (drop (length old.known.drawn) new.known.drawn)

abbrev pub all_newly_done : List Member → List Member → List ℕ
all_newly_done [] after = []
all_newly_done (old ∷ before) [] = []
all_newly_done (old ∷ before) (new ∷ after) = newly_done old new ++ all_newly_done before after

-- ---- all scripts

-- each script, by its index, is in the share of one
abbrev pub AreSharedOut : {A : Type 0} → List A → List (List ℕ) → Type 0
AreSharedOut scripts shares = IsPermutation (up_to (length scripts)) (flat_map (λ share. share) shares)

-- the session is handed back: later, and with the numbers that it had drawn and new ones behind them
abbrev pub IsHandedBack : Member → Member → Type 0
IsHandedBack old new = IsLater old new × (numbers : List ℕ) × (new.known.drawn ≡ old.known.drawn ++ numbers)

-- each script has its outcomes; the sessions are those handed in, in this order, and each ran its share of the scripts, each script by one;
-- and the numbers newly drawn by them that are done are those of the committed transactions, each of one
pub record Works (g : Given) (before : List Member) (scripts : List (List (List Command))) (outcomes : List (List Outcome))
    (after : List Member)
    : Type 0 where
  pub each : AllZip HasOutcomes scripts outcomes
  pub back : AllZip IsHandedBack before after
  pub shares : List (List ℕ)
  pub parts : AreSharedOut scripts shares
  pub run : AreSharesOf g scripts outcomes before after shares
  pub numbers : IsPermutation (flat_map numbers_of outcomes) (all_newly_done before after)

-- why scripts aren't run to their end: memory ran out, or a thread can't be had, which is asked for only where there are two sessions or
-- more
abbrev pub IsWorkLack : List Member → WorkError → Type 0
IsWorkLack sessions NoThread = 2 ≤ length sessions
IsWorkLack sessions NoMemory = Unit {0}
