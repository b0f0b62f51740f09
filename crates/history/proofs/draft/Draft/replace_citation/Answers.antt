use Rattle.std.proofs.Common.{◌≡◌, Ok, Some, refl, sym, ap, ◌∙◌}
use Rattle.library.specs.Edits.{done, with_proof, recited, replace_tests}
use Rattle.catalog.specs.Entries.{living}
use Rattle.catalog.specs.Changes.{citing, changed_at}
use Rattle.history.specs.Drafts.{Drafted, now_in}
use Rattle.catalog.proofs.Changing.{changed-set}
use Rattle.history.proofs.Commands.{tested_some, tested_none, found_nowhere, known_label, HasLabel, has_label, free_in, library-changed}
use Rattle.history.proofs.draft.Draft.replace_citation.Goals as goal

pub returns-in_default-clause-taken : goal.returns-in_default-clause-taken
returns-in_default-clause-taken c =
    let d = c.args.self.now in
    let lib = now_in d in
    let i = c.draft.inside in
    let held : i.entries.items ≡ d.entries = ap (λ (x : Drafted). x.entries) c.draft.view_is in
    let slice : c.as_slice-entries.result.now ≡ i.entries.items = c.as_slice-entries.ensures.value in
    let w = c.args.label.now in
    rw c.refused.ensures (refl, found_nowhere lib w _ (free_in _ d.entries _ w (slice ∙ held) c.as_slice.ensures c.in_default.ensures.none))

pub returns-in-Err-clause-taken : goal.returns-in-Err-clause-taken
returns-in-Err-clause-taken c =
    let d = c.args.self.now in
    let lib = now_in d in
    let i = c.draft.inside in
    let held : i.entries.items ≡ d.entries = ap (λ (x : Drafted). x.entries) c.draft.view_is in
    let slice : c.as_slice-entries.result.now ≡ i.entries.items = c.as_slice-entries.ensures.value in
    let w = c.args.label.now in
    let at = c.in-Some.ensures.some in
    let e = c.in-Some.entry.now in
    let p = c.in-Some.place in
    let own : HasLabel i.places d.entries w p e =
    has_label i.places i.entries.items d.entries c.as_slice-entries.result.now c.as_slice.result.now w p e c.draft.invariant.0.indexed held
    slice at.0 at.1 c.as_slice.ensures in
    let tests = replace_tests d.setting lib c.args.old.now c.args.new.now e in
    rw c.refused-in-Err.ensures (
      refl,
      known_label i.places d.entries w p e _ own ∙ tested_some tests _ c.in-Err.reason c.in-Err.ensures.refused,
    )

pub returns-clause-taken : goal.returns-clause-taken
returns-clause-taken c =
    let d = c.args.self.now in
    let lib = now_in d in
    let i = c.draft.inside in
    let held : i.entries.items ≡ d.entries = ap (λ (x : Drafted). x.entries) c.draft.view_is in
    let slice : c.as_slice-entries.result.now ≡ i.entries.items = c.as_slice-entries.ensures.value in
    let w = c.args.label.now in
    let at = c.in-Some.ensures.some in
    let e = c.in-Some.entry.now in
    let p = c.in-Some.place in
    let own : HasLabel i.places d.entries w p e =
    has_label i.places i.entries.items d.entries c.as_slice-entries.result.now c.as_slice.result.now w p e c.draft.invariant.0.indexed held
    slice at.0 at.1 c.as_slice.ensures in
    let tests = replace_tests d.setting lib c.args.old.now c.args.new.now e in
    let change = citing c.args.old.now c.args.new.now in
    let now = c.in_ok-recite.ensures.done ∙ ap (changed_at p change) c.in_ok-list_citer.ensures.entries
    ∙ sym (changed-set change p d.entries (Some e) own.at) in
    let proof = recited c.args.old.now c.args.new.now e.assertion.proof in
    known_label i.places d.entries w p e _ own ∙ tested_none tests _ c.in-Ok.ensures.passed
    ∙ ap (λ l. Ok (done l)) (sym (library-changed i.places d.entries w p e (with_proof proof) own) ∙ ap living (sym now))
