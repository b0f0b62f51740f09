use Rattle.std.proofs.Common.{◌≡◌, ◌∙◌, ◌≤◌, ◌++◌, ℕ, List, [], length, sym, ap, subst, arith}
use Rattle.std.specs.Prelude.{All, if◌then◌else◌}
use Rattle.mmsyntax.specs.Tables.{Tables}
use Rattle.library.specs.declared.history.Entry.{Entry}
use Rattle.library.specs.Library.{opening}
use Rattle.historytext.specs.Grammar.{highest_count, SpellsHistory}
use Rattle.historytext.specs.Layout.{EntryFitsText, history_text}
use Rattle.historytext.proofs.LegalFits.{legal_histories_fit}
use Rattle.historytext.proofs.Spelled.{legal_histories_are_spelled}
use Rattle.export.proofs.Accepted.{exported_accepted}
use Rattle.transaction.specs.Closings.{lists_of}
use Rattle.checking.specs.Outcomes.{program_setting}
use Rattle.reports.specs.Reports.{AreReportable, report_text}
use Rattle.checking.specs.Checks.{library_lines}
use Rattle.checking.proofs.Fronts.{opening_stands, fronts_of}
use Rattle.jobs.proofs.Printable.{printable}
use Rattle.jobs.proofs.running.print_edited.Goals as goal

pub report_run-requires : goal.report_run-requires
report_run-requires c =
    let e = c.args.edited in
    let rows = lists_of e.outcomes.items in
    subst (λ p. AreReportable p rows) (sym c.prelude-2.ensures)
    (printable c.args.db.now c.requires.worked.0 c.requires.worked.1 c.args.scripts.now rows e.history e.library
    c.assertions-assertions.ensures.sound c.requires.checks c.requires.fit c.requires.worked.2)

pub history_where-requires : goal.history_where-requires
history_where-requires c =
    let db = c.args.db.now in
    let w = c.requires.worked.2.edited in
    let stands = opening_stands db c.assertions-assertions.ensures.sound c.requires.checks in
    let fit = legal_histories_fit (program_setting db) (opening db) c.args.edited.history stands w.fit w.after.legal in
    subst (λ p. All (EntryFitsText p) c.as_slice-2.result.now) (sym c.prelude.ensures)
    (subst (All (EntryFitsText db.prelude)) (sym c.as_slice-2.ensures) fit)

pub returns : goal.returns
returns c = λ workers room w.
    let db = c.args.db.now in
    let e = c.args.edited in
    let sound = c.assertions-assertions.ensures.sound in
    let rows = lists_of e.outcomes.items in
    let text : Tables → List Entry → List ℕ = λ p es. if c.args.asked then history_text p es else [] in
    let kept : c.in_ok-text.text.items ≡ text db.prelude e.history =
    c.in_ok-text.ensures ∙ ap (λ p. text p c.as_slice-2.result.now) c.prelude.ensures
    ∙ ap (text db.prelude) c.as_slice-2.ensures in
    let counted = c.count_of-count.ensures in
    let few : length e.history ≤ highest_count = omega (arith, counted.value, counted.small, ap length c.as_slice.ensures) in
    let spelled =
    legal_histories_are_spelled (program_setting db) (opening db) e.history (opening_stands db sound c.requires.checks) w.edited.fit
    w.edited.after.legal few in
    record {
      rows = rows;
      entries = e.history;
      library = e.library;
      worked = w;
      fronts = fronts_of db e.history sound c.requires.checks w.edited.fit;
      prints = c.in_ok-report_run.ensures ∙ ap (λ p. report_text p rows ++ library_lines e.library) c.prelude-2.ensures;
      accepted = exported_accepted e.library c.entries-entries.ensures.verifies c.entries-entries.ensures.ordered;
      kept = kept;
      spelled = λ yes.
          subst (λ bytes. SpellsHistory db.prelude bytes e.history)
          (sym (kept ∙ ap (λ b. if b then history_text db.prelude e.history else []) yes)) spelled;
    }
