-- What becomes of scripts that all the sessions of a library run to its end, told by the library's whole history.
use Rattle.std.specs.Prelude.{◌≡◌, ◌<◌, ◌≤◌, ◌^◌, ℕ, suc, eqb, List, All, IsPermutation, count_by, filter, flat_map, length, map}
use Rattle.std.specs.List.{AllZip, IsDistinct}
use Rattle.std.specs.List.Sorted.{IsStrictlyIncreasing}
use Rattle.library.specs.declared.command.Command.{Command}
use Rattle.library.specs.declared.history.Entry.{Entry as CodeEntry}
use Rattle.library.specs.declared.library.Ranked.{Ranked}
use Rattle.library.specs.Library.{Setting, Listed}
use Rattle.library.specs.Histories.{Entry, EntriesFit, seen_entry, IsAfterHistory}
use Rattle.lawful.specs.Lawful.{setting_given, first_library}
use Rattle.claims.specs.Claims.{up_to}
use Rattle.transaction.specs.declared.outcome.Outcome.{Outcome}
use Rattle.transaction.specs.declared.outcome.Outcome.TheVariants as outcome
use Rattle.transaction.specs.Members.{Home, Member}
use Rattle.transaction.specs.Openings.{IsNewSession}
use Rattle.transaction.specs.Closings.{HasOutcomes}
use Rattle.workers.specs.declared.error.WorkError.{WorkError}
use Rattle.workers.specs.declared.error.WorkError.TheVariants as work
use Rattle.workers.specs.Works.{ScriptAgrees, SubmitsAll, AreSharedOut, ToldBy, all_of, is_answer, is_done, is_of_run, numbers_of}
use Rattle.tlwords.specs.declared.closing.ClosedWords.{ClosedWords}
use Rattle.finishing.specs.Finishes.{AreItsWords}
use Rattle.finishing.specs.declared.error.FinishError.{FinishError}
use Rattle.finishing.specs.declared.error.FinishError.TheVariants as finish
use Rattle.editing.specs.declared.error.EditError.{EditError}
use Rattle.editing.specs.declared.error.EditError.TheVariants.{NoThread, Missing, Held, NoMemory}

-- the numbers from 1 whose entries are done, in order
abbrev pub done_numbers : List Entry → List ℕ
done_numbers h = filter (is_done h) (map suc (up_to (length h)))

-- that no number is left is told only where the history has 2^40 entries: as many as the worker drew numbers
abbrev pub ToldIn : List Entry → Outcome → Type 0
ToldIn h outcome.NumbersUsed = 2 ^ 40 ≤ length h
ToldIn h _ = Unit {0}

-- a full store is told only where the tail of these words is past their room: no more fits
abbrev pub FullIn : ClosedWords → Outcome → Type 0
FullIn words outcome.StoreFull = words.room < words.tail
FullIn words _ = Unit {0}

-- a worker ran the scripts with these indexes, from 0, in their order, one after another: as one script of all their transactions, each
-- outcome is so of the history, and stands no earlier than those before it
pub record IsShareIn (s : Setting) (lib0 : List Ranked) (h : List Entry) (scripts : List (List (List Command))) (rows : List (List Outcome))
    (share : List ℕ) : Type 0 where
  pub rising : IsStrictlyIncreasing share
  pub agrees : ScriptAgrees s lib0 h 0 (all_of scripts share) (all_of rows share)

-- these are the outcomes of scripts that so many workers ran, in a history from this opening library: each script has one for each of its
-- transactions, in order; each worker ran its share of the scripts, as the history has it, each script by one worker; that no number is
-- left is told only where the history shows it; and the numbers of those that committed are those of the done entries, each of one
pub record AreToldBy (s : Setting) (lib0 : List Ranked) (h : List Entry) (workers : ℕ) (scripts : List (List (List Command)))
    (rows : List (List Outcome)) : Type 0 where
  pub each : AllZip HasOutcomes scripts rows
  pub shares : List (List ℕ)
  pub many : length shares ≡ workers
  pub parts : AreSharedOut scripts shares
  pub run : All (IsShareIn s lib0 h scripts rows) shares
  pub told : All (All (ToldIn h)) rows
  pub numbers : IsPermutation (flat_map numbers_of rows) (done_numbers h)

-- the session, from when it was dealt, submitted the transactions of the scripts with these indexes: each outcome is that of the
-- transaction's last try, by what the session was when that try began and when it ended. At its end it tells still why it gave up what it
-- gave up; it made a run for each of the outcomes, but where nothing was looked at; and each of its calls is told as an answer
pub record TellsOf (home : Home) (scripts : List (List (List Command))) (rows : List (List Outcome)) (share : List ℕ) (m : Member) : Type 0
  where
    pub began : Member
    pub new : IsNewSession home began
    pub submitted : SubmitsAll (all_of scripts share) began m (all_of rows share)
    pub told : All (ToldBy m) (all_of rows share)
    pub ran : count_by is_of_run (all_of rows share) ≤ length m.known.clocks
    pub answers : length m.known.mine ≡ count_by is_answer (all_of rows share)

-- these are the sessions of the library at its end, one for each share, each of which tells of its own; and the words at the end, in which
-- they ended. So a full store is told only of a try of which a staging was refused, and where the tail of the words is past their room
pub record AreEnded (home : Home) (scripts : List (List (List Command))) (rows : List (List Outcome)) (shares : List (List ℕ))
    : Type 0 where
  pub sessions : List Member
  pub tell : AllZip (TellsOf home scripts rows) shares sessions
  pub words : ClosedWords
  pub its : AreItsWords home sessions words
  pub room : words.room ≡ home.words.room
  pub full : All (All (FullIn words)) rows

-- the scripts were run: the history tells of these outcomes, and is legal from an opening library, with commands within the limits; the
-- library is the one after all of it; and the sessions that ran them tell why they gave up what they gave up
pub record IsEditedFrom (s : Setting) (lib0 : List Ranked) (home : Home) (scripts : List (List (List Command))) (rows : List (List Outcome))
    (history : List CodeEntry) (library : Listed) : Type 0 where
  pub told_by : AreToldBy s lib0 (map seen_entry history) home.sessions scripts rows
  pub fit : EntriesFit s.prelude (map seen_entry history)
  pub after : IsAfterHistory s lib0 (map seen_entry history) library
  pub ended : AreEnded home scripts rows told_by.shares

-- from the library at the opening
abbrev pub IsEdited : Home → List (List (List Command)) → List (List Outcome) → List CodeEntry → Listed → Type 0
IsEdited home = IsEditedFrom (setting_given home.given) (first_library home.given) home

-- why there is no history. A thread is asked for only where there are two sessions or more; no number is missing where each session has a
-- name of its own, and no lock is held where all workers have ended
abbrev pub IsEditLack : List Member → EditError → Type 0
IsEditLack sessions NoThread = 2 ≤ length sessions
IsEditLack sessions (Missing n) = (1 ≤ n) × (IsDistinct eqb (map (λ (m : Member). m.known.name) sessions) → ⊥)
IsEditLack sessions (Held c) = ⊥
IsEditLack sessions NoMemory = Unit {0}

-- the reason of one who runs the scripts, and of one who ends the library
abbrev pub from_work : WorkError → EditError
from_work work.NoMemory = NoMemory
from_work work.NoThread = NoThread

abbrev pub from_finish : FinishError → EditError
from_finish (finish.Missing n) = Missing n
from_finish (finish.Held c) = Held c
from_finish finish.NoMemory = NoMemory
