-- What is left to show of `read_all`.
use Rattle.std.proofs.Common.{◌≡◌, ◌≤◌, ◌∙◌, ◌+◌, [], ℕ, length, map, refl, ap, subst, arith}
use Rattle.std.specs.Prelude.{◌≢◌, All, slice_index_or}
use Rattle.std.proofs.lemmas.List.{take_all}
use Rattle.std.proofs.lemmas.List.Elements.{All-push, All-same}
use Rattle.std.proofs.lemmas.Option.{slice_get_read}
use Rattle.mmtext.specs.declared.fault.TextFault.{TextFault}
use Rattle.mmtext.specs.declared.fault.FaultKind.TheVariants.{NoMemory}
use Rattle.library.specs.Fitting.{CommandFits}
use Rattle.scripts.specs.ScriptFaults.{FaultyScript}
use Rattle.checking.specs.Checks.{Bytes, AreScripts}
use Rattle.checking.proofs.ScriptFaults.{read_as}
use Rattle.locating.specs.Told.{text_line}
use Rattle.spreading.specs.Words.{text_of, place_at}
use Rattle.editscripts.specs.Expanded.{texts_of}
use Rattle.editscripts.specs.Refusals.{IsUnreadBy}
use Rattle.editscripts.specs.Views.{seen_texts}
use Rattle.editscripts.proofs.Expanding.{laid_at, laid_long, scripts_next}
use Rattle.editscripts.proofs.Lines.{told_more}
use Rattle.editscripts.proofs.expanded.read_all.Goals as goal

pub returns-in-Err-clause-refused : goal.returns-in-Err-clause-refused
returns-in-Err-clause-refused c = λ outs are.
    let p = c.args.prelude.now in
    let all = c.args.all.now in
    let paths = map (λ q. q.now) c.args.paths.now in
    let texts = seen_texts c.args.texts.now in
    let k = c.loop-place.place in
    let laid = c.index-all-place.result in
    let at = slice_get_read all (length all) k laid refl c.loop-place-test.true c.index-all-place.is in
    let one = laid_at outs all k laid are at in
    let found = c.in-Err.fault in
    let ts = one.0.words in
    let text : c.as_slice.result.now ≡ text_of ts = c.as_slice.ensures.value ∙ one.2.laid.text in
    let told : TextFault = record { place = c.place_of.result; kind = found.kind } in
    let own = slice_index_or texts k [] in
    told_more (λ line. (found.kind ≢ NoMemory) × (line ≡ text_line c.path_at-path.result.now c.text_at-text.result.now told))
    (IsUnreadBy paths p texts outs)
    (λ line h. record {
      script = k;
      before = c.loop-place.scripts.items;
      ordered = c.loop-place.invariant.scripts outs are;
      ranked = one.0;
      at = one.1;
      found = found;
      faulty = subst (λ (bytes : Bytes). FaultyScript p bytes found) text (c.in-Err.ensures.read.fault h.0);
      told = h.0;
      says =
          h.1
          ∙ ap (λ (path : Bytes). text_line path c.text_at-text.result.now told) c.path_at-path.ensures
          ∙ ap (λ (bytes : Bytes). text_line (slice_index_or paths (k + 1) []) bytes told) c.text_at-text.ensures
          ∙ ap (λ (n : ℕ). text_line (slice_index_or paths (k + 1) []) own (record { place = n; kind = found.kind }))
          (c.place_of.ensures ts one.2.laid
          ∙ ap (λ n. place_at ts n found.place) (ap (λ (bytes : Bytes). length bytes) c.text_at-text.ensures));
    })
    c.in_ok-unread-in-Err.field-0 c.in_ok-unread-in-Err.ensures

pub loop-place-preserved : goal.loop-place-preserved
loop-place-preserved c = record {
  scripts = λ outs are.
      let p = c.args.prelude.now in
      let all = c.args.all.now in
      let k = c.loop-place.place in
      let laid = c.index-all-place.result in
      let at = slice_get_read all (length all) k laid refl c.loop-place-test.true c.index-all-place.is in
      let one = laid_at outs all k laid are at in
      let text : c.as_slice.result.now ≡ text_of one.0.words = c.as_slice.ensures.value ∙ one.2.laid.text in
      scripts_next p outs k one.0 c.loop-place.scripts.items _ c.in-Ok.script one.1 (c.loop-place.invariant.scripts outs are)
      (read_as p _ (text_of one.0.words) c.in-Ok.script text c.in-Ok.ensures.read.found c.in-Ok.ensures.read.refused)
      c.in_ok-push-in-Ok.ensures.items;
  fit =
      let p = c.args.prelude.now in
      let F = All (All (CommandFits p)) in
      All-same F _ _ c.in_ok-push-in-Ok.ensures.items
      (All-push F c.loop-place.scripts.items c.in-Ok.script c.loop-place.invariant.fit c.in-Ok.ensures.fits);
}

pub returns-clause-scripts : goal.returns-clause-scripts
returns-clause-scripts c = λ outs are.
    let all = c.args.all.now in
    let long = laid_long outs all are in
    let k = c.loop-place.place in
    let within : length outs ≤ k = omega arith in
    subst (λ os. AreScripts c.args.prelude.now (texts_of os) c.loop-place.scripts.items) (take_all k outs within)
    (c.loop-place.invariant.scripts outs are)
