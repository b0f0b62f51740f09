-- What the program answers to its own texts: `ok` to an export, and its library to the history of a run.
use Rattle.std.proofs.Common.{◌≡◌, ◌≢◌, ◌∙◌, ℕ, zero, suc, ◌≤◌, true, List, Result, Ok, Err, length, map, take, refl, sym, ap, subst, arith}
use Rattle.std.specs.Prelude.{IfOk, IfErr, String, string_bytes}
use Rattle.std.specs.declared.alloc.Global.{Global}
use Rattle.std.proofs.lemmas.List.{take_all}
use Rattle.mmtext.specs.declared.fault.TextFault.{TextFault}
use Rattle.mmtext.proofs.TextLaws.{spells_one, spells_without_fault}
use Rattle.mmsyntax.specs.Tables.{Contents}
use Rattle.library.specs.declared.history.Entry.{Entry}
use Rattle.library.specs.Library.{Verifies, opening}
use Rattle.library.specs.Histories.{seen_entry, after_all}
use Rattle.library.proofs.ExportOrder.{one_export_order}
use Rattle.historytext.specs.Grammar.{SpellsHistory}
use Rattle.historytext.specs.Places.{FaultyHistory, history_language}
use Rattle.historytext.proofs.HistoryLaws.{history_grammar}
use Rattle.jobs.specs.declared.job.Job.{Job}
use Rattle.jobs.specs.declared.job.Job.TheVariants.{Check, Run, Replay}
use Rattle.jobs.specs.declared.job.Printed.{Printed}
use Rattle.jobs.specs.declared.answering.Answered.TheVariants.{Refused}
use Rattle.checking.specs.declared.fault.Fault.{Fault}
use Rattle.checking.specs.declared.fault.Fault.TheVariants.{Text, Proof, Differs, NoMemory}
use Rattle.checking.specs.Outcomes.{program_setting}
use Rattle.checking.specs.Checks.{Bytes, ok_line, replayed_lines, IsChecked, IsHistory, IsDifference, PrintsReplay, IsReplay, IsReplayFault}
use Rattle.jobs.specs.declared.job.RunOptions.{RunOptions}
use Rattle.jobs.specs.Jobs.{Room, IsRun, DoneAsAsked}
use Rattle.jobs.specs.Jobs.{IsFaultOf, AnswersItsOwn, IsPrintedBy}
use Rattle.checking.specs.FaultLines.{line_of}
use Rattle.jobs.specs.Tasks.{IsToldBy}
use Rattle.jobs.specs.Laws.{RunsHaveNoFaultAgain}
use Rattle.checking.proofs.Accepted.{accepted_checks, accepted_faultless, one_database, checked_faultless}
use Rattle.checking.proofs.ReplayFaults.{no_difference}

-- without a fault, memory ran out
memory_alone : (f : Fault) → (f ≢ NoMemory → ⊥) → f ≡ NoMemory
memory_alone NoMemory h = refl
memory_alone _ h = absurd (h (λ e. cc))

-- ---- the history of a run

module _ (db text out : Bytes) (texts : List Bytes) (workers : ℕ) (room : Room) (run : IsRun db texts workers room true out text) where
  -- the entries that the run kept
  abbrev kept : List Entry
  kept = run.printed.entries

  -- the text of the database has one content, and that of the history one
  one_content : (contents : Contents) → IsChecked db contents → contents ≡ run.contents
  one_content contents checked = one_database db contents run.contents checked.read run.checked.read

  one_history : (contents : Contents) (history : List Entry) → IsChecked db contents → IsHistory contents.prelude text history
      → history ≡ kept
  one_history contents history checked read =
      let t = run.contents.prelude in
      let there = subst (λ (d : Contents). IsHistory d.prelude text history) (one_content contents checked) read in
      spells_one (history_language t) (SpellsHistory t) (history_grammar t) text history kept there.spelled (run.printed.spelled refl)

  text_faultless : length text ≤ 16777216 → (f : TextFault) → FaultyHistory run.contents.prelude text f → ⊥
  text_faultless short f faulty =
      let t = run.contents.prelude in
      spells_without_fault (history_language t) (SpellsHistory t) (history_grammar t) text kept f short (run.printed.spelled refl) faulty

  pub replay_faultless : length text ≤ 16777216 → (f : Fault) → IsReplayFault db text f → ⊥
  replay_faultless short (Text zero g) h = checked_faultless db run.contents run.checked (Text zero g) h
  replay_faultless short (Text (suc zero) g) h =
      text_faultless short g (subst (λ (d : Contents). FaultyHistory d.prelude text g) (one_content h.0.0 h.0.1) h.0.2)
  replay_faultless short (Proof label fault) h = checked_faultless db run.contents run.checked (Proof label fault) h
  replay_faultless short (Differs n) h =
      no_difference run.contents kept (Differs n) run.printed.worked.edited.after.legal
      (subst (λ es. IsDifference run.contents es (Differs n)) (one_history h.0 h.1 h.2 h.3)
      (subst (λ (d : Contents). IsDifference d h.1 (Differs n)) (one_content h.0 h.2) h.4))
  replay_faultless short _ h = h

  -- what its replay prints is the library of the run
  pub replay_printed : (again : Bytes) → IsReplay db text again → again ≡ replayed_lines (length kept) run.printed.library
  replay_printed again h =
      let s = program_setting run.contents in
      let first = opening run.contents in
      let entries = map seen_entry kept in
      let p = subst (λ es. PrintsReplay run.contents es again) (one_history h.contents h.history h.checked h.read)
      (subst (λ (d : Contents). PrintsReplay d h.history again) (one_content h.contents h.checked) h.printed) in
      let whole : take (length entries) entries ≡ entries = take_all (length entries) entries (omega arith) in
      let verifies : Verifies s (after_all s first entries) =
      subst (λ es. Verifies s (after_all s first es)) whole (run.printed.fronts (length entries)) in
      let same =
      one_export_order (after_all s first entries) p.library.entries run.printed.library.entries verifies.library.distinct p.after.shows
      run.printed.worked.edited.after.shows in
      let library : p.library ≡ run.printed.library =
      ap (λ x. record { setting = x; entries = p.library.entries }) (p.after.setting ∙ sym run.printed.worked.edited.after.setting)
      ∙ ap (λ es. record { setting = run.printed.library.setting; entries = es }) same in
      p.prints ∙ ap (replayed_lines (length kept)) library

pub runs_faultless : RunsHaveNoFaultAgain
runs_faultless options db history texts workers room out f run short h =
    replay_faultless db.items history.items out texts workers room run short f h

-- ---- what is answered, and told

pub answers_its_own : (options : RunOptions) (j : Job) (answer : Result Printed Fault) → IfOk answer (DoneAsAsked options j)
    → IfErr answer (λ f. f ≢ NoMemory → IsFaultOf options j f) → AnswersItsOwn j (IsPrintedBy answer)
answers_its_own options (Check db) (Ok printed) done fault =
    λ a short.
    let checked = accepted_checks db.items a short in
    done.0.prints ∙ ap ok_line (one_database db.items done.0.contents a.database done.0.checked.read checked.read)
answers_its_own options (Check db) (Err f) done fault = λ a short. memory_alone f (λ ne. accepted_faultless db.items a short f (fault ne))
answers_its_own options (Run db texts workers room) answer done fault = tt
answers_its_own options (Replay db history) (Ok printed) done fault =
    λ texts workers room out run short. replay_printed db.items history.items out texts workers room run printed.out.items done.0
answers_its_own options (Replay db history) (Err f) done fault =
    λ texts workers room out run short. memory_alone f
    (λ ne. replay_faultless db.items history.items out texts workers room run short f (fault ne))

-- the line of a fault is that of want of memory
pub tells_its_own : (j : Job) (f : Fault) (paths : List Bytes) (line : String Global) → string_bytes line ≡ line_of paths f
    → AnswersItsOwn j (IsPrintedBy (Err f)) → AnswersItsOwn j (IsToldBy (Refused line))
tells_its_own (Check db) f paths line told own = λ a short. told ∙ ap (line_of paths) (own a short)
tells_its_own (Run db texts workers room) f paths line told own = tt
tells_its_own (Replay db history) f paths line told own =
    λ texts workers room out run short. told ∙ ap (line_of paths) (own texts workers room out run short)
