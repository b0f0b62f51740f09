-- What is true of every opening, edit, transaction and export; and of the fronts of histories.
use Rattle.std.specs.Prelude.{◌≡◌, ◌+◌, ◌≤◌, ℕ, false, List, All, length, map, slice_get, Some, Ok}
use Rattle.std.specs.Str.{bytes_eq}
use Rattle.mmsyntax.specs.Tables.{Contents}
use Rattle.mmsyntax.specs.Layout.{HasSpelling}
use Rattle.mmsyntax.specs.Assertions.{Distinct}
use Rattle.derivation.specs.Databases.{AllCheck}
use Rattle.library.specs.declared.library.Ranked.{Ranked}
use Rattle.library.specs.declared.command.Command.{Command}
use Rattle.library.specs.declared.command.Reply.{Reply}
use Rattle.library.specs.Library.{Setting, Verifies, label_of, opening, IsInExportOrder, ShowsInOrder, in_export_order}
use Rattle.library.specs.Library.{setting_over, Listed, shown_database}
use Rattle.library.specs.Fitting.{CommandFits, ReplyFits}
use Rattle.library.specs.Edits.{Edited, edit}
use Rattle.library.specs.Transactions.{Applied, apply, HasReplies, library_of, has_edit}
use Rattle.library.specs.Histories.{Entry, done_entry, EntriesFit, after_front, Grows, IsSettledBefore, IsLegal}
use Rattle.library.specs.Agrees.{Answer, committed, Agrees, IsSettledBelow}
use Rattle.mmsyntax.specs.declared.limits.TheConstants.{MOST_ASSERTIONS}

-- the opening library of what some text declares verifies where each proof checks over the earlier assertions, with as many slots as one
-- likes, from 1 to 4,096, if there is room
abbrev pub OpeningsVerify : Type 0
OpeningsVerify =
    (db : Contents) (slots : ℕ) → HasSpelling db → AllCheck db → 1 ≤ slots → slots ≤ MOST_ASSERTIONS → length db.assertions ≤ slots
    → Verifies (setting_over db slots) (opening db)

-- a command within the limits that is not refused leaves a library that verifies
abbrev pub EditsVerify : Type 0
EditsVerify =
    (s : Setting) (lib : List Ranked) (c : Command) (e : Edited) → Verifies s lib → CommandFits s.prelude c → edit s lib c ≡ Ok e
    → Verifies s e.library

-- so does a transaction, refused or not
abbrev pub TransactionsVerify : Type 0
TransactionsVerify =
    (s : Setting) (lib : List Ranked) (cs : List Command) → Verifies s lib → All (CommandFits s.prelude) cs
    → Verifies s (library_of lib (apply s lib cs))

-- a transaction without an edit leaves the library as it was
abbrev pub ReadsLeave : Type 0
ReadsLeave =
    (s : Setting) (lib : List Ranked) (cs : List Command) (a : Applied) → has_edit cs ≡ false → apply s lib cs ≡ Ok a → a.library ≡ lib

-- what a transaction on a library that verifies replies is within the limits of the prelude, where its commands are
abbrev pub RepliesFit : Type 0
RepliesFit =
    (s : Setting) (lib : List Ranked) (cs : List Command) (a : Applied) → Verifies s lib → All (CommandFits s.prelude) cs
    → apply s lib cs ≡ Ok a → All (ReplyFits s.prelude) a.replies

-- a library that verifies, in whatever order, is spelled as a database
abbrev pub LibrariesAreSpelled : Type 0
LibrariesAreSpelled = (l : Listed) → Verifies l.setting l.entries → HasSpelling (shown_database l)

-- in export order, each proof of a library that verifies checks over the earlier assertions
abbrev pub ShownLibrariesCheck : Type 0
ShownLibrariesCheck = (l : Listed) → Verifies l.setting l.entries → IsInExportOrder l.entries → AllCheck (shown_database l)

-- a library is shown in export order
abbrev pub LibrariesAreShown : Type 0
LibrariesAreShown = (lib : List Ranked) → ShowsInOrder lib (in_export_order lib)

-- assertions of different labels have one export order
abbrev pub ExportOrderIsOne : Type 0
ExportOrderIsOne = (lib a b : List Ranked) → Distinct bytes_eq (map label_of lib) → ShowsInOrder lib a → ShowsInOrder lib b → a ≡ b

-- ---- fronts of histories

-- from an opening library that verifies, the library after each front verifies, where the commands are within the limits of the prelude
abbrev pub FrontsVerify : Type 0
FrontsVerify =
    (s : Setting) (lib0 : List Ranked) (h : List Entry) (k : ℕ) → Verifies s lib0 → EntriesFit s.prelude h
    → Verifies s (after_front s lib0 h k)

-- a history is a later one of itself
abbrev pub GrowthIsReflexive : Type 0
GrowthIsReflexive = (h : List Entry) → Grows h h

-- a later one of a later one is a later one
abbrev pub GrowthIsTransitive : Type 0
GrowthIsTransitive = (f g h : List Entry) → Grows f g → Grows g h → Grows f h

-- the library after a front that is settled stays the same in every later history
abbrev pub SettledFrontsStay : Type 0
SettledFrontsStay =
    (s : Setting) (lib0 : List Ranked) (g h : List Entry) (k : ℕ) → Grows g h → k ≤ length g → IsSettledBefore k g
    → after_front s lib0 h k ≡ after_front s lib0 g k

-- a history that is legal from an opening library that verifies holds replies within the limits, where its commands are
abbrev pub LegalRepliesFit : Type 0
LegalRepliesFit =
    (s : Setting) (lib0 : List Ranked) (h : List Entry) (i : ℕ) (cs : List Command) (replies : List Reply) → Verifies s lib0
    → EntriesFit s.prelude h → IsLegal s lib0 h → slice_get h i ≡ Some (done_entry cs replies) → All (ReplyFits s.prelude) replies

-- ---- what is told of transactions

-- what agrees with a history agrees with every later one, where the entries below its place are settled
abbrev pub AgreementStays : Type 0
AgreementStays =
    (s : Setting) (lib0 : List Ranked) (g h : List Entry) (cs : List Command) (a : Answer) → Grows g h → IsSettledBelow g a
    → Agrees s lib0 g cs a → Agrees s lib0 h cs a

-- in a legal history, a transaction that committed with a number has the definition's replies over the library after the entries before
abbrev pub CommitsAreLegal : Type 0
CommitsAreLegal =
    (s : Setting) (lib0 : List Ranked) (h : List Entry) (cs : List Command) (k : ℕ) (replies : List Reply) → IsLegal s lib0 h
    → Agrees s lib0 h cs (committed (k + 1) replies)
    → HasReplies s (after_front s lib0 h k) cs replies
