-- What is left to show of `edit`.
use Rattle.std.proofs.Common.{◌≡◌, ◌∙◌, [], rules, refl, List, length, map, inl, inr, ap, subst, sym}
use Rattle.derivation.specs.Databases.{AllCheck}
use Rattle.std.specs.Prelude.{All}
use Rattle.std.specs.Prelude.{IfErr, IfOk, string_bytes}
use Rattle.std.proofs.lemmas.List.{length-map}
use Rattle.std.proofs.lemmas.Result.{err_from_is_err_and}
use Rattle.source.specs.Views.{seen_pairs}
use Rattle.giving.specs.Staying.{Change}
use Rattle.intake.specs.declared.taken.Taken.{Taken}
use Rattle.mmsyntax.specs.Tables.{Tables, Contents}
use Rattle.library.specs.Fitting.{CommandFits}
use Rattle.transaction.specs.Closings.{lists_of}
use Rattle.jobs.specs.Jobs.{room_of}
use Rattle.checking.specs.Checks.{Orders}
use Rattle.dressing.specs.Dressed.{IsDressed}
use Rattle.pasting.specs.Quotes.{Quotation}
use Rattle.pasting.specs.Views.{seen_quotation}
use Rattle.editscripts.specs.Quoted.{done_quotations}
use Rattle.editscripts.specs.Described.{done_descriptions}
use Rattle.edittext.specs.Edited.{edit_room}
use Rattle.edittext.specs.Finished.{IsFirstAccount}
use Rattle.editscripts.specs.Refusals.{IsToldBy}
use Rattle.editedsource.specs.Refusals.{IsStoppedOrFaulty}
use Rattle.editopening.specs.Opening.{opened_of}
use Rattle.editopening.specs.Refusals.{IsUnbegunLine}
use Rattle.edittext.specs.Refusals.{IsUneditedLine, IsWorkLine}
use Rattle.editscripts.specs.Views.{seen_texts, seen_descriptions, seen_quotes}
use Rattle.edittext.specs.Answers.{IsEditAnswer}
use Rattle.edittext.proofs.Ending.{lack_behind, printed, told_behind}
use Rattle.edittext.proofs.Beginning.{begun_of, run_of, closed_of, accounted, database_is, scripts_are}
use Rattle.editscripts.proofs.Lines.{told_more}
use Rattle.edittext.proofs.answering.edit.Goals as goal

pub begin-requires-sync-typeof-rt : goal.begin-requires-sync-typeof-rt
begin-requires-sync-typeof-rt g c κs within =
    let d = c.in_ok-old.ensures.declares in
    (search rules, ((refl, tt), (c.sources_are_whole.ensures d.statements c.in_ok-old.old.stand.scope d.declared, d)))

pub returns-in_err-begun-clause-refused : goal.returns-in_err-begun-clause-refused
returns-in_err-begun-clause-refused g c =
    let source = c.args.source.now in
    let texts = seen_texts c.args.texts.now in
    let paths = map (λ p. p.now) c.args.order.paths.now in
    let path = c.args.order.path.now in
    let s = c.in_ok-old.old.stand.scope in
    let p = err_from_is_err_and c.from_residual-in_err-begun.result c.from_residual-in_err-begun.ensures.1 in
    rw (p.1, p.2) (told_more (IsUnbegunLine path paths source s texts c.args.order.force)
    (IsUneditedLine path paths source texts c.args.order.workers (edit_room c.args.order.room) c.args.order.force)
    (λ line h. inr (inl (s, c.in_ok-old.ensures.declares, h))) c.in_err-begun.field-0.0 c.in_err-begun.ensures.refused)

pub run_over-requires-clause-checks : goal.run_over-requires-clause-checks
run_over-requires-clause-checks g c κs within = subst AllCheck (sym c.database-opened.ensures) c.in_ok-begun.ensures.begun.checks

pub run_over-requires-clause-fit : goal.run_over-requires-clause-fit
run_over-requires-clause-fit g c κs within =
    let is = c.in_ok-begun.ensures.begun in
    let same = ap (λ (x : Contents). x.prelude) (c.database-opened.ensures ∙ is.opened.database) in
    let scripts = sym c.as_slice-scripts.ensures.value in
    subst (λ (t : Tables). All (All (All (CommandFits t))) c.as_slice-scripts.result.now) (sym same)
    (subst (λ (k : List Orders). All (All (All (CommandFits c.in_ok-begun.begun.taken.database.prelude))) k) scripts is.fit)

pub returns-in_err-outcomes-clause-refused : goal.returns-in_err-outcomes-clause-refused
returns-in_err-outcomes-clause-refused g c =
    let source = c.args.source.now in
    let texts = seen_texts c.args.texts.now in
    let paths = map (λ p. p.now) c.args.order.paths.now in
    let path = c.args.order.path.now in
    let workers = c.args.order.workers in
    let room = edit_room c.args.order.room in
    let s = c.in_ok-old.old.stand.scope in
    let force = c.args.order.force in
    let begun = c.in_ok-begun.begun in
    let is = c.in_ok-begun.ensures.begun in
    let d = c.in_ok-old.ensures.declares in
    let db = c.database-opened.result.now in
    let ss = c.as_slice-scripts.result.now in
    let b = begun_of source texts s force begun d is in
    let over = database_is source texts s force begun d is db ss c.database-opened.ensures c.as_slice-scripts.ensures.value in
    let run = scripts_are source texts s force begun d is db ss c.database-opened.ensures c.as_slice-scripts.ensures.value in
    let p = err_from_is_err_and c.from_residual-in_err-outcomes.result c.from_residual-in_err-outcomes.ensures.1 in
    rw (p.1, p.2) (told_more
    (IsWorkLine paths db workers (room_of room db ss))
    (IsUneditedLine path paths source texts workers room force)
    (λ line h. inr (inr (record {
      begun = b;
      allowed = is.allowed;
      cause =
          subst (λ (k : List Orders). IsWorkLine paths (opened_of b) workers (room_of room (opened_of b) k) line) run
          (subst (λ (x : Contents). IsWorkLine paths x workers (room_of room x ss) line) over h);
    }))) c.in_err-outcomes.field-0.0 c.in_err-outcomes.ensures.refused)

pub finish-finished-requires-clause-chosen : goal.finish-finished-requires-clause-chosen
finish-finished-requires-clause-chosen g c κs within =
    let library = c.in_ok-begun.ensures.begun.for_scripts.library in
    ap (λ (t : Taken). length t.chosen.items) c.edit_of-edit.ensures.taken
    ∙ ap (λ cs. length cs.items) c.in_ok-closed.ensures.settled.chosen
    ∙ ap length (sym library.chosen_are) ∙ length-map c.in_ok-old.old.stand.scope.assertions _

pub returns-then-not-may_print-clause-told : goal.returns-then-not-may_print-clause-told
returns-then-not-may_print-clause-told g c =
    let source = c.args.source.now in
    let texts = seen_texts c.args.texts.now in
    let paths = map (λ p. p.now) c.args.order.paths.now in
    let workers = c.args.order.workers in
    let room = edit_room c.args.order.room in
    let asked = c.args.order.with_replies in
    let s = c.in_ok-old.old.stand.scope in
    let begun = c.in_ok-begun.begun in
    let is = c.in_ok-begun.ensures.begun in
    let d = c.in_ok-old.ensures.declares in
    let db = c.database-opened.result.now in
    let ss = c.as_slice-scripts.result.now in
    let over = c.database-opened.ensures in
    let same = c.as_slice-scripts.ensures.value in
    let e = c.in_ok-outcomes.field-0 in
    let account = c.in_ok-account.account in
    let first = subst (λ rs. IsFirstAccount paths texts begun (lists_of rs) asked account) c.as_slice-rows.ensures.value
    c.in_ok-account.ensures in
    let undone = c.if-not-may_print.ensures.some refl in (
      lists_of e.outcomes.items,
      run_of source texts s c.args.order.force begun d is db ss over same workers room e c.in_ok-outcomes.ensures.done,
      accounted source texts s c.args.order.force begun d is db ss over same paths workers room e c.in_ok-outcomes.ensures.done asked
          account first account.spoken account.mentions [] [] (ap (map string_bytes) first.none_spoken)
          (ap (map string_bytes) first.none_mentioned),
      λ none. undone.0 (c.as_slice.ensures.value ∙ none),
      undone.1,
      is.allowed,
    )

pub returns-clause-told : goal.returns-clause-told
returns-clause-told g c =
    let source = c.args.source.now in
    let texts = seen_texts c.args.texts.now in
    let paths = map (λ p. p.now) c.args.order.paths.now in
    let path = c.args.order.path.now in
    let workers = c.args.order.workers in
    let room = edit_room c.args.order.room in
    let asked = c.args.order.with_replies in
    let s = c.in_ok-old.old.stand.scope in
    let begun = c.in_ok-begun.begun in
    let is = c.in_ok-begun.ensures.begun in
    let d = c.in_ok-old.ensures.declares in
    let db = c.database-opened.result.now in
    let ss = c.as_slice-scripts.result.now in
    let over = c.database-opened.ensures in
    let whole = c.as_slice-scripts.ensures.value in
    let e = c.in_ok-outcomes.field-0 in
    let rows = lists_of e.outcomes.items in
    let worked = c.in_ok-outcomes.ensures.done in
    let k = c.in_ok-closed.closed in
    let t = c.close_run.new.begun.taken in
    let library = is.for_scripts.library in
    let choice = library.taken.choice in
    let qs = map seen_quotation c.as_slice-3.result.now in
    let quotes = seen_quotes begun.quotes.items in
    let same_quotes : qs ≡ done_quotations rows quotes =
    ap (map seen_quotation) c.as_slice-3.ensures.value
    ∙ c.in_ok-quotations.ensures
    ∙ ap (λ ys. done_quotations (lists_of c.as_slice-rows.result.now) (seen_quotes ys.items)) c.in_ok-closed.ensures.quotes
    ∙ ap (λ rs. done_quotations (lists_of rs) quotes) c.as_slice-rows.ensures.value in
    let ds = seen_pairs c.as_slice-4.result.now in
    let descriptions = seen_descriptions begun.descriptions.items in
    let same : ds ≡ done_descriptions rows descriptions =
    ap seen_pairs c.as_slice-4.ensures.value
    ∙ c.in_ok-descriptions.ensures
    ∙ ap (λ rs. done_descriptions (lists_of rs) (seen_descriptions c.as_slice-2.result.now)) c.as_slice-rows.ensures.value
    ∙ ap (λ ds. done_descriptions rows (seen_descriptions ds)) c.as_slice-2.ensures.value
    ∙ ap (λ ds. done_descriptions rows (seen_descriptions ds.items)) c.in_ok-closed.ensures.descriptions in
    let x = c.edit_of-edit.ensures in
    let chosen = library.chosen_are ∙ ap (λ cs. cs.items) (sym c.in_ok-closed.ensures.settled.chosen)
    ∙ ap (λ (t : Taken). t.chosen.items) (sym x.taken) in
    let done = rw (x.path, x.source, x.taken, x.replayed, x.given) at (c.finish-finished.ensures.finished choice chosen) in
    let refused = rw (x.path, x.source, x.taken, x.replayed, x.given) at (c.finish-finished.ensures.refused choice chosen) in
    let account = c.in_ok-account.account in
    let first = subst (λ rs. IsFirstAccount paths texts begun (lists_of rs) asked account) c.as_slice-rows.ensures.value
    c.in_ok-account.ensures in
    let force = c.args.order.force in
    let run = run_of source texts s force begun d is db ss over whole workers room e worked in
    let closed = closed_of source texts s force begun d is db ss over whole workers room e worked k t
    c.in_ok-closed.ensures.withdrawn c.in_ok-closed.ensures.settled in
    subst (λ r. IfOk r (IsEditAnswer path paths source texts workers room force c.args.order.partial asked)) (sym c.told_of.ensures)
    (told_behind (IsEditAnswer path paths source texts workers room force c.args.order.partial asked)
    (IsStoppedOrFaulty path source s choice t e.history k qs ds) account c.finish-finished.result
    (printed c.finish-finished.result done (λ f finished. (
      rows,
      record {
        run = run;
        closed = closed;
        edits = finished.edits;
        source_then = finished.is_edited;
        quotes = quotes;
        are_quotes = is.quotes;
        descriptions = descriptions;
        are_descriptive = is.descriptive;
        dressed =
            subst (λ (ds : List Change). IsDressed (done_quotations rows quotes) ds finished.is_edited.followed finished.edits f.out.items)
            same
            (subst (λ (qs : List Quotation). IsDressed qs ds finished.is_edited.followed finished.edits f.out.items) same_quotes
            finished.dressed);
        much = finished.much;
        verifies = finished.verifies;
      },
      accounted source texts s force begun d is db ss over whole paths workers room e worked asked account first f.spoken f.mentions _ _
          finished.spoken finished.mentions,
      λ all. sym c.as_slice.ensures.value ∙ c.if-not-may_print.ensures.whole refl all,
      is.allowed,
    )))
    refused
    (λ line stopped. (
      rows,
      run,
      accounted source texts s force begun d is db ss over whole paths workers room e worked asked account first account.spoken
          account.mentions [] [] (ap (map string_bytes) first.none_spoken) (ap (map string_bytes) first.none_mentioned),
      λ all. sym c.as_slice.ensures.value ∙ c.if-not-may_print.ensures.whole refl all,
      is.allowed,
      elim stopped [
        | inl stops ↦ inl (record { closed = closed; cause = stops })
        | inr f ↦ inr (record {
          closed = closed;
          edits = f.0;
          source_then = f.2;
          quotes = quotes;
          are_quotes = is.quotes;
          descriptions = descriptions;
          are_descriptive = is.descriptive;
          out = f.1;
          dressed =
              subst (λ (ds : List Change). IsDressed (done_quotations rows quotes) ds f.2.followed f.0 f.1) same
              (subst (λ (qs : List Quotation). IsDressed qs ds f.2.followed f.0 f.1) same_quotes f.3);
          cause = f.4;
        })
      ],
    )))

pub returns-clause-refused : goal.returns-clause-refused
returns-clause-refused g c =
    let source = c.args.source.now in
    let texts = seen_texts c.args.texts.now in
    let paths = map (λ p. p.now) c.args.order.paths.now in
    let Q = IsUneditedLine c.args.order.path.now paths source texts c.args.order.workers (edit_room c.args.order.room) c.args.order.force in
    subst (λ r. IfErr r (IsToldBy Q)) (sym c.told_of.ensures) (lack_behind Q c.in_ok-account.account c.finish-finished.result)
