-- What a source becomes that scripts edit.
use Rattle.std.specs.Prelude.{ℕ, Bool, List, Option, is_none, unwrap_or}
use Rattle.intake.specs.declared.taken.Taken.{Taken}
use Rattle.library.specs.declared.history.Entry.{Entry}
use Rattle.library.specs.Library.{Listed}
use Rattle.checking.specs.Checks.{Bytes}
use Rattle.transaction.specs.declared.outcome.Outcome.{Outcome}
use Rattle.jobs.specs.Jobs.{Room, IsWorked, room_of}
use Rattle.jobs.specs.Tasks.{least_room}
use Rattle.givetext.specs.Parts.{IsEdited}
use Rattle.verifytext.specs.declared.verifying_text.Verified.{Verified}
use Rattle.verifytext.specs.Verdicts.{IsVerifiedText}
use Rattle.expanding.specs.Descriptions.{Description}
use Rattle.editscripts.specs.Described.{AreDescriptive, done_descriptions}
use Rattle.editscripts.specs.Encouraged.{AreAllowed}
use Rattle.pasting.specs.Quotes.{Quote}
use Rattle.editscripts.specs.Quoted.{AreQuotesOf, done_quotations}
use Rattle.dressing.specs.Dressed.{IsDressed}
use Rattle.standins.specs.Ending.{IsSettled, IsWithdrawn}
use Rattle.editopening.specs.Opening.{Begun, taken_of, choice_of, stand_ins_of, opened_of, scripts_of}

-- the room of a run that is given one, or isn't
abbrev pub edit_room : Option ℕ → Room
edit_room room = record { words = unwrap_or room least_room; may_grow = is_none room }

-- so many workers ran the scripts over that library: with these outcomes, in one history, to the library behind it
pub record Run (source : Bytes) (texts : List Bytes) (workers : ℕ) (room : Room) (rows : List (List Outcome)) : Type 0 where
  pub begun : Begun source texts
  pub entries : List Entry
  pub edited : Listed
  pub worked :
      IsWorked (opened_of begun) workers (room_of room (opened_of begun) (scripts_of begun)) (scripts_of begun) rows entries edited

-- no theorem forbids what its scripts do, and no comment of the source discourages it, unless that is forced
abbrev pub IsAllowedRun : {source : Bytes} {texts : List Bytes} {workers : ℕ} {room : Room} {rows : List (List Outcome)}
    → Bool → Run source texts workers room rows → Type 0
IsAllowedRun {source} force r = AreAllowed source r.begun.old force r.begun.with_ranks.over.spread

-- the library behind it without stand-ins, and what is told then of the library that was taken
pub record Closed {source : Bytes} {texts : List Bytes} {workers : ℕ} {room : Room} {rows : List (List Outcome)}
    (r : Run source texts workers room rows) : Type 0 where
  pub library : Listed
  pub withdrawn : IsWithdrawn (stand_ins_of r.begun) r.edited library
  pub taken : Taken
  pub settled : IsSettled (stand_ins_of r.begun) r.edited.entries (taken_of r.begun) taken

-- the text is the source with the edits of that history
abbrev pub IsSourceThen : {source : Bytes} {texts : List Bytes} {workers : ℕ} {room : Room} {rows : List (List Outcome)}
    {r : Run source texts workers room rows} → Closed r → Bytes → Type 0
IsSourceThen {source} {r} c out = IsEdited source r.begun.old (choice_of r.begun) c.taken r.entries c.library out

-- what is printed: the source with the edits of the history of a run, in which proofs and labels of `$e` stand as they were given, and what
-- was added behind its description, and which verifies as a whole
pub record IsEditedBy (source : Bytes) (texts : List Bytes) (workers : ℕ) (room : Room) (rows : List (List Outcome)) (out : Bytes)
    : Type 0 where
  pub run : Run source texts workers room rows
  pub closed : Closed run
  pub edits : Bytes
  pub source_then : IsSourceThen closed edits
  pub quotes : List (List Quote)
  pub are_quotes : AreQuotesOf run.begun.with_ranks.over.spread quotes
  pub descriptions : List (List Description)
  pub are_descriptive : AreDescriptive texts run.begun.with_ranks.over.spread descriptions
  pub dressed : IsDressed (done_quotations rows quotes) (done_descriptions rows descriptions) source_then.followed edits out
  pub much : Verified
  pub verifies : IsVerifiedText out much
