-- Of the code's inside, apart from the rules: how the values of the reader of histories are seen.
use Rattle.std.specs.Prelude.{ℕ, List, Result, Ok, Err, if◌then◌else◌, codes}
use Rattle.std.specs.Str.{bytes_eq}
use Rattle.mmtext.specs.declared.fault.FaultKind.TheVariants.{BadToken}
use Rattle.mmtext.specs.declared.fault.TextFault.{TextFault}
use Rattle.mmtext.specs.Text.{Token}
use Rattle.mmtext.specs.Languages.{fault}
use Rattle.mmsyntax.specs.declared.statement.Kind.{Kind}
use Rattle.mmsyntax.specs.declared.statement.Kind.TheVariants.{Axiom, Theorem}
use Rattle.mmsyntax.specs.Tables.{Tables}
use Rattle.statementreader.specs.UnitReadings.{position_of}
use Rattle.scripts.specs.ScriptViews.{number_at, seen_command_place}
use Rattle.historytext.specs.declared.place.ReplyPlace.{ReplyPlace as CodeReplyPlace}
use Rattle.historytext.specs.declared.place.ReplyPlace.TheVariants as reply
use Rattle.historytext.specs.declared.place.Answered.{Answered as CodeAnswered}
use Rattle.historytext.specs.declared.place.Answered.TheVariants as led
use Rattle.historytext.specs.declared.place.EntryPlace.{EntryPlace as CodeEntryPlace}
use Rattle.historytext.specs.declared.place.EntryPlace.TheVariants as entry
use Rattle.historytext.specs.declared.place.Place.{Place as CodePlace}
use Rattle.historytext.specs.declared.place.Place.TheVariants as outer
use Rattle.historytext.specs.declared.place.HistoryReader.{HistoryReader}
use Rattle.library.specs.declared.history.Entry.{Entry}
use Rattle.historytext.specs.Grammar.{highest_count}
use Rattle.historytext.specs.Places.{ReplyPlace, at_shown_rank, at_shown_citers, in_shown, at_lines, at_line, at_label, at_kind, at_citers}
use Rattle.historytext.specs.Places.{EntryPlace, at_begin, at_command, within, at_reply, answering}
use Rattle.historytext.specs.Places.{Place, at_history, at_count, at_entry, in_entry, Progress}
use Rattle.historytext.specs.Places.{Answered, going, whole_reply, wrong, wrong_text}

-- ---- words

-- a number of entries, lines or citers, or the fault of a token that isn't one
abbrev pub count_at : Token → Result ℕ TextFault
count_at t = number_at highest_count t

-- the kind in a line, or the fault of a token that isn't one
abbrev pub kind_at : Token → Result Kind TextFault
kind_at t =
    if bytes_eq t.text (codes "a") then Ok Axiom else (if bytes_eq t.text (codes "p") then Ok Theorem else fault t BadToken)

-- ---- places

-- a place of the code in a reply
abbrev pub seen_reply_place : Tables → CodeReplyPlace → ReplyPlace
seen_reply_place t reply.AtShownRank = at_shown_rank
seen_reply_place t (reply.AtShownCiters rank) = at_shown_citers rank
seen_reply_place t (reply.InShown rank citers r) = in_shown rank citers (position_of t r)
seen_reply_place t reply.AtLines = at_lines
seen_reply_place t (reply.AtLine left lines) = at_line left lines.items
seen_reply_place t (reply.AtLabel left lines rank) = at_label left lines.items rank
seen_reply_place t (reply.AtKind left lines rank label) = at_kind left lines.items rank label
seen_reply_place t (reply.AtCiters left lines rank label kind) = at_citers left lines.items rank label kind

-- a place of the code in an entry
abbrev pub seen_entry_place : Tables → CodeEntryPlace → EntryPlace
seen_entry_place t entry.AtBegin = at_begin
seen_entry_place t (entry.AtCommand commands) = at_command commands.items
seen_entry_place t (entry.Within commands p) = within commands.items (seen_command_place t p)
seen_entry_place t (entry.AtReply commands replies) = at_reply commands.items replies.items
seen_entry_place t (entry.Answering commands replies p) = answering commands.items replies.items (seen_reply_place t p)

-- a place of the code
abbrev pub seen_place : Tables → CodePlace → Place
seen_place t outer.AtHistory = at_history
seen_place t outer.AtCount = at_count
seen_place t (outer.AtEntry left) = at_entry left
seen_place t (outer.InEntry left p) = in_entry left (seen_entry_place t p)

-- where a token of a reply led
abbrev pub seen_answered : Tables → CodeAnswered → Answered
seen_answered t (led.Going p) = going (seen_reply_place t p)
seen_answered t (led.Whole r) = whole_reply r

-- where a token of a reply leads, or its fault
abbrev pub answer : Token → Answered → Result Answered TextFault
answer t (going p) = Ok (going p)
answer t (whole_reply r) = Ok (whole_reply r)
answer t (wrong kind) = fault t kind
answer t (wrong_text f) = Err f

-- a place of the code behind whole entries
abbrev pub seen_at : Tables → List Entry → CodePlace → Progress
seen_at t entries p = record { entries = entries; place = seen_place t p }

-- how far a history was read, as the code keeps it
abbrev pub seen_progress : HistoryReader → Progress
seen_progress r = seen_at r.prelude.now r.entries.items r.place
