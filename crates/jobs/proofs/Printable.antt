-- The outcomes of a run can be printed: their replies fit, and none is a conflict.
use Rattle.std.proofs.Common.{ℕ, List, [], ◌∷◌, length, map}
use Rattle.std.specs.Prelude.{All}
use Rattle.std.proofs.lemmas.List.Elements.{All-nil, All-cons, All-head, All-tail}
use Rattle.mmsyntax.specs.Tables.{Contents}
use Rattle.mmsyntax.specs.Layout.{HasSpelling}
use Rattle.derivation.specs.Databases.{AllCheck}
use Rattle.library.specs.declared.command.Command.{Command}
use Rattle.library.specs.declared.history.Entry.{Entry as CodeEntry}
use Rattle.library.specs.declared.library.Ranked.{Ranked}
use Rattle.library.specs.Library.{Setting, Listed, Verifies, opening}
use Rattle.library.specs.Fitting.{CommandFits}
use Rattle.library.specs.Histories.{Entry, seen_entry, after_front, EntriesFit, IsLegal}
use Rattle.librarylaws.proofs.Agreeing.{legal_replies_fit}
use Rattle.librarylaws.proofs.Fitting.{replies_fit}
use Rattle.librarylaws.proofs.Fronts.{fronts_verify}
use Rattle.transaction.specs.declared.outcome.Outcome.{Outcome}
use Rattle.transaction.specs.declared.outcome.Outcome.TheVariants.{Committed, Read, Conflict}
use Rattle.std.proofs.lemmas.Slice.Zip.{AllZip-long}
use Rattle.ranges.proofs.Members.{all_has}
use Rattle.transaction.specs.Closings.{HasOutcomes}
use Rattle.workers.specs.Works.{OutcomeAgrees, ScriptAgrees, all_of, place_behind}
use Rattle.reports.specs.Reports.{IsReportable, AreReportable}
use Rattle.editing.specs.Edits.{AreToldBy, IsShareIn}
use Rattle.checking.specs.Outcomes.{program_setting}
use Rattle.jobs.specs.Jobs.{IsWorked}
use Rattle.checking.proofs.Fronts.{opening_stands}
use Rattle.editing.proofs.Shares.{of_share, of_each}

-- ---- of a legal history from an opening library that verifies

module _ (s : Setting) (lib0 : List Ranked) (h : List Entry) (v : Verifies s lib0) (within : EntriesFit s.prelude h)
    (legal : IsLegal s lib0 h) where
  outcome_fits : (cs : List Command) (o : Outcome) → All (CommandFits s.prelude) cs → OutcomeAgrees s lib0 h cs o → IsReportable s.prelude o
  outcome_fits cs (Committed n replies) fit a = legal_replies_fit s lib0 h a.0 cs replies v within legal a.2
  outcome_fits cs (Read k replies) fit a =
      let lib = after_front s lib0 h k in
      replies_fit s lib cs (record { library = lib; replies = replies }) (fronts_verify s lib0 h k v within) fit a.1
  outcome_fits cs (Conflict place cell word before) fit a = a
  outcome_fits cs _ fit a = tt

  script_fits : (place : ℕ) (script : List (List Command)) (os : List Outcome) → All (All (CommandFits s.prelude)) script
      → ScriptAgrees s lib0 h place script os → All (IsReportable s.prelude) os
  script_fits place [] [] fit a = All-nil (IsReportable s.prelude)
  script_fits place [] (o ∷ os) fit a = absurd a
  script_fits place (cs ∷ rest) [] fit a = absurd a
  script_fits place (cs ∷ rest) (o ∷ os) fit a =
      let P = All (CommandFits s.prelude) in
      All-cons (IsReportable s.prelude) o os (outcome_fits cs o (All-head P cs rest fit) a.0)
      (script_fits (place_behind place o) rest os (All-tail P cs rest fit) a.4)

  rows_fit : (workers : ℕ) (scripts : List (List (List Command))) (rows : List (List Outcome))
      → All (All (All (CommandFits s.prelude))) scripts
      → AreToldBy s lib0 h workers scripts rows → AreReportable s.prelude rows
  rows_fit workers scripts rows fit t =
      of_each (IsReportable s.prelude) rows (length scripts) t.shares (AllZip-long HasOutcomes scripts rows t.each) t.parts (λ share has.
      script_fits 0 (all_of scripts share) (all_of rows share) (of_share (All (CommandFits s.prelude)) scripts fit share)
      (all_has (IsShareIn s lib0 h scripts rows) t.shares share t.run has).agrees)

-- ---- of a run

pub printable : (db : Contents) (workers room : ℕ) (scripts : List (List (List Command))) (rows : List (List Outcome))
    (history : List CodeEntry)
    (library : Listed) → HasSpelling db → AllCheck db → All (All (All (CommandFits db.prelude))) scripts
    → IsWorked db workers room scripts rows history library → AreReportable db.prelude rows
printable db workers room scripts rows history library spelled checks fit w =
    rows_fit (program_setting db) (opening db) (map seen_entry history) (opening_stands db spelled checks) w.edited.fit w.edited.after.legal
    w.home.sessions scripts rows fit w.edited.told_by
