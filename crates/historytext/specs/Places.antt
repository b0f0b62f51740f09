-- The fault of a history: each token outside of comments in its place, one function a place.
use Rattle.std.specs.Prelude.{ℕ, zero, suc, nat_lt, ◌==◌, List, [], ◌∷◌, ◌++◌, length, Option, Some, None, Result, Ok, Err, if◌then◌else◌, codes}
use Rattle.std.specs.Str.{bytes_eq}
use Rattle.std.specs.Str.Parse.{digits_value}
use Rattle.mmtext.specs.declared.fault.FaultKind.{FaultKind}
use Rattle.mmtext.specs.declared.fault.FaultKind.TheVariants.{BadToken, TooLong}
use Rattle.mmtext.specs.declared.fault.TextFault.{TextFault}
use Rattle.mmtext.specs.Text.{Token}
use Rattle.mmtext.specs.Words.{Word, has_dollar}
use Rattle.mmtext.specs.Languages.{Language, fault, Faulty}
use Rattle.mmsyntax.specs.declared.statement.Kind.{Kind}
use Rattle.mmsyntax.specs.declared.statement.Kind.TheVariants.{Axiom, Theorem}
use Rattle.mmsyntax.specs.declared.statement.Assertion.{Assertion}
use Rattle.mmsyntax.specs.Tables.{Tables}
use Rattle.mmsyntax.specs.Faults.{Position, row, unit_at}
use Rattle.library.specs.declared.command.Command.{Command}
use Rattle.library.specs.declared.command.Line.{Line}
use Rattle.library.specs.declared.command.Reply.{Reply}
use Rattle.library.specs.declared.command.Reply.TheVariants.{Done, Shown, Listed}
use Rattle.library.specs.Fitting.{highest_rank}
use Rattle.scripts.specs.ScriptFaults.{CommandPlace, Led, inside, whole_command, bad, bad_text, is_numeral, unit_start, in_command, command_word}
use Rattle.library.specs.declared.history.Entry.{Entry}
use Rattle.library.specs.declared.history.Entry.TheVariants as entry
use Rattle.historytext.specs.Grammar.{highest_count}
use Rattle.mmsyntax.specs.declared.limits.TheConstants.{MOST_BYTES}

-- ---- places

-- a place in a reply
pub data ReplyPlace : Type 0 where
  -- behind shown, its rank, and its citers: in the assertion
  at_shown_rank : ReplyPlace
  at_shown_citers : ℕ → ReplyPlace
  in_shown : ℕ → ℕ → Position → ReplyPlace
  -- behind listed
  at_lines : ReplyPlace
  -- with one more line and so many others left, behind whole lines: its rank, its label, its kind, its citers
  at_line : ℕ → List Line → ReplyPlace
  at_label : ℕ → List Line → ℕ → ReplyPlace
  at_kind : ℕ → List Line → ℕ → Word → ReplyPlace
  at_citers : ℕ → List Line → ℕ → Word → Kind → ReplyPlace

-- a place in an entry
pub data EntryPlace : Type 0 where
  -- behind done: begin
  at_begin : EntryPlace
  -- behind begin and whole commands, and in a command behind those
  at_command : List Command → EntryPlace
  within : List Command → CommandPlace → EntryPlace
  -- behind commit and whole replies, and in a reply behind those
  at_reply : List Command → List Reply → EntryPlace
  answering : List Command → List Reply → ReplyPlace → EntryPlace

-- a place in a history: at its first word, at its count, with so many entries left, and in one with so many others left
pub data Place : Type 0 where
  at_history : Place
  at_count : Place
  at_entry : ℕ → Place
  in_entry : ℕ → EntryPlace → Place

-- the entries that are whole, and the place behind them
pub record Progress : Type 0 where
  pub entries : List Entry
  pub place : Place

-- ---- in a reply

-- a token leads to a place in the reply, or ends it, or has a fault
pub data Answered : Type 0 where
  going : ReplyPlace → Answered
  whole_reply : Reply → Answered
  wrong : FaultKind → Answered
  wrong_text : TextFault → Answered

-- where a number up to a highest is wanted: a numeral
abbrev pub number_row : ℕ → Token → (ℕ → Answered) → Answered
number_row highest t behind =
    if is_numeral t.text then (if nat_lt highest (digits_value 10 t.text) then wrong TooLong else behind (digits_value 10 t.text))
    else wrong BadToken

-- behind whole lines, with so many left
abbrev pub lines_left : ℕ → List Line → Answered
lines_left zero lines = whole_reply (Listed lines)
lines_left (suc left) lines = going (at_line left lines)

-- the assertion that is shown is whole, or not yet
abbrev pub shown_led : ℕ → ℕ → Position → Option Assertion → Answered
shown_led rank citers p None = going (in_shown rank citers p)
shown_led rank citers p (Some a) = whole_reply (Shown rank citers a)

-- a token of it
abbrev pub shown_row : ℕ → ℕ → Result Position TextFault → Answered
shown_row rank citers (Ok p) = shown_led rank citers p (unit_at p.known p.place)
shown_row rank citers (Err f) = wrong_text f

-- the label in a line: any token without $
abbrev pub label_row : ℕ → List Line → ℕ → Token → Answered
label_row left lines rank t = if has_dollar t.text then wrong BadToken else going (at_kind left lines rank t.text)

-- a or p
abbrev pub kind_row : ℕ → List Line → ℕ → Word → Token → Answered
kind_row left lines rank label t =
    if bytes_eq t.text (codes "a") then going (at_citers left lines rank label Axiom) else (
    if bytes_eq t.text (codes "p") then going (at_citers left lines rank label Theorem) else wrong BadToken)

-- the row of each place in a reply
abbrev pub in_reply : Tables → ReplyPlace → Token → Answered
in_reply t at_shown_rank token = number_row highest_rank token (λ rank. going (at_shown_citers rank))
in_reply t (at_shown_citers rank) token = number_row highest_count token (λ citers. going (in_shown rank citers (unit_start t)))
in_reply t (in_shown rank citers p) token = shown_row rank citers (row p token)
in_reply t at_lines token = number_row highest_count token (λ count. lines_left count [])
in_reply t (at_line left lines) token = number_row highest_rank token (λ rank. going (at_label left lines rank))
in_reply t (at_label left lines rank) token = label_row left lines rank token
in_reply t (at_kind left lines rank label) token = kind_row left lines rank label token
in_reply t (at_citers left lines rank label kind) token =
    number_row highest_count token
    (λ citers. lines_left left (lines ++ record { rank = rank; label = label; kind = kind; citers = citers } ∷ []))

-- the word of a reply
abbrev pub reply_word : Word → Answered
reply_word w =
    if bytes_eq w (codes "done") then whole_reply Done else (
    if bytes_eq w (codes "shown") then going at_shown_rank else (
    if bytes_eq w (codes "listed") then going at_lines else wrong BadToken))

-- ---- in an entry

-- a place behind whole entries
abbrev pub at : List Entry → Place → Result Progress TextFault
at entries place = Ok (record { entries = entries; place = place })

-- one more entry is whole
abbrev pub entry_ended : List Entry → ℕ → Entry → Result Progress TextFault
entry_ended entries left e = at (entries ++ e ∷ []) (at_entry left)

-- an entry has one reply for each command
abbrev pub replies_left : List Entry → ℕ → List Command → List Reply → Result Progress TextFault
replies_left entries left commands replies =
    if length replies == length commands then entry_ended entries left (entry.Done commands replies)
    else at entries (in_entry left (at_reply commands replies))

-- where a token leads in a command behind whole ones
abbrev pub asked : List Entry → ℕ → List Command → Token → Led → Result Progress TextFault
asked entries left commands t (inside place) = at entries (in_entry left (within commands place))
asked entries left commands t (whole_command c) = at entries (in_entry left (at_command (commands ++ c ∷ [])))
asked entries left commands t (bad kind) = fault t kind
asked entries left commands t (bad_text f) = Err f

-- where a token leads in a reply behind whole ones
abbrev pub answered : List Entry → ℕ → List Command → List Reply → Token → Answered → Result Progress TextFault
answered entries left commands replies t (going place) = at entries (in_entry left (answering commands replies place))
answered entries left commands replies t (whole_reply r) = replies_left entries left commands (replies ++ r ∷ [])
answered entries left commands replies t (wrong kind) = fault t kind
answered entries left commands replies t (wrong_text f) = Err f

-- begin
abbrev pub begin_row : List Entry → ℕ → Token → Result Progress TextFault
begin_row entries left t =
    if bytes_eq t.text (codes "begin") then at entries (in_entry left (at_command [])) else fault t BadToken

-- commit, or the word of a command
abbrev pub command_row : Tables → List Entry → ℕ → List Command → Token → Result Progress TextFault
command_row t entries left commands token =
    if bytes_eq token.text (codes "commit") then replies_left entries left commands []
    else asked entries left commands token (command_word t token.text)

-- the row of each place in an entry
abbrev pub in_entry_row : Tables → List Entry → ℕ → EntryPlace → Token → Result Progress TextFault
in_entry_row t entries left at_begin token = begin_row entries left token
in_entry_row t entries left (at_command commands) token = command_row t entries left commands token
in_entry_row t entries left (within commands place) token = asked entries left commands token (in_command t place token)
in_entry_row t entries left (at_reply commands replies) token = answered entries left commands replies token (reply_word token.text)
in_entry_row t entries left (answering commands replies place) token =
    answered entries left commands replies token (in_reply t place token)

-- ---- in a history

-- the first word
abbrev pub history_row : List Entry → Token → Result Progress TextFault
history_row entries t = if bytes_eq t.text (codes "history") then at entries at_count else fault t BadToken

-- the number of entries
abbrev pub count_row : List Entry → Token → Result Progress TextFault
count_row entries t =
    if is_numeral t.text then (
    if nat_lt highest_count (digits_value 10 t.text) then fault t TooLong else at entries (at_entry (digits_value 10 t.text)))
    else fault t BadToken

-- void or done; no token behind the last entry
abbrev pub entry_row : List Entry → ℕ → Token → Result Progress TextFault
entry_row entries zero t = fault t BadToken
entry_row entries (suc left) t =
    if bytes_eq t.text (codes "void") then entry_ended entries left entry.Void else (
    if bytes_eq t.text (codes "done") then at entries (in_entry left at_begin) else fault t BadToken)

-- the row of each place
abbrev pub in_place : Tables → List Entry → Place → Token → Result Progress TextFault
in_place t entries at_history token = history_row entries token
in_place t entries at_count token = count_row entries token
in_place t entries (at_entry left) token = entry_row entries left token
in_place t entries (in_entry left place) token = in_entry_row t entries left place token

-- a history may end behind its last entry
abbrev pub whole : List Entry → Place → Option (List Entry)
whole entries (at_entry zero) = Some entries
whole entries _ = None

-- the language of histories over a prelude
abbrev pub history_language : Tables → Language Progress (List Entry)
history_language t = record {
  most_bytes = MOST_BYTES;
  start = record { entries = []; place = at_history };
  row = λ p token. in_place t p.entries p.place token;
  said = λ p. whole p.entries p.place;
}

-- the fault of a history
abbrev pub FaultyHistory : (prelude : Tables) (text : List ℕ) (fault : TextFault) → Type 0
FaultyHistory t bytes f = Faulty (history_language t) bytes f
