use Rattle.std.proofs.Common.{[], ◌∷◌, ◌++◌, map, take, sym, ap, ◌∙◌}
use Rattle.std.specs.List.{flat_map}
use Rattle.std.proofs.lemmas.List.{flat_map_more, map-append, take_more}
use Rattle.mmsyntax.specs.Layout.{prelude_text, assertion_text}
use Rattle.library.specs.declared.library.Ranked.{Ranked}
use Rattle.export.proofs.Accepted.{exported_accepted}
use Rattle.export.proofs.text.put_library.Goals as goal

pub returns-in_err-put_prelude-clause-accepted : goal.returns-in_err-put_prelude-clause-accepted
returns-in_err-put_prelude-clause-accepted c =
    exported_accepted c.args.library.now c.entries-entries.ensures.verifies c.entries-entries.ensures.ordered

pub returns-in_err-put_assertion-clause-accepted : goal.returns-in_err-put_assertion-clause-accepted
returns-in_err-put_assertion-clause-accepted c =
    exported_accepted c.args.library.now c.entries-entries.ensures.verifies c.entries-entries.ensures.ordered

pub loop-entry-preserved : goal.loop-entry-preserved
loop-entry-preserved c =
    let t = c.prelude-prelude.result.now in
    let entries = c.entries-entries.result.now in
    let i = c.loop-entry.entry-index in
    let e = c.entry-item.result in
    let assertion = λ (x : Ranked). x.assertion in
    let front = take_more entries i e c.loop-entry-test.true ∙ ap (λ (x : Ranked). take i entries ++ x ∷ []) (sym c.entry-item.is) in
    let shown = ap (map assertion) front ∙ map-append assertion (take i entries) (e ∷ []) in
    c.in_ok-put_assertion.ensures
    ∙ ap (λ text. text ++ assertion_text t e.assertion) c.loop-entry.invariant
    ∙ flat_map_more (assertion_text t) (c.args.out.now.items ++ prelude_text t) (map assertion (take i entries)) e.assertion
    ∙ ap (λ xs. (c.args.out.now.items ++ prelude_text t) ++ flat_map (assertion_text t) xs) (sym shown)

pub returns-clause-accepted : goal.returns-clause-accepted
returns-clause-accepted c =
    exported_accepted c.args.library.now c.entries-entries.ensures.verifies c.entries-entries.ensures.ordered
