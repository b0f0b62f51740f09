-- What is left to show of `edited_lines`.
use Rattle.std.proofs.Common.{◌∙◌, ◌++◌, [], List, ℕ, ap}
use Rattle.std.specs.List.{flat_map}
use Rattle.std.proofs.lemmas.List.{take_all}
use Rattle.mmsyntax.specs.Tables.{Tables}
use Rattle.mmsyntax.specs.Layout.{assertion_text}
use Rattle.mmwriter.proofs.Pieces.{lines_more}
use Rattle.library.specs.declared.library.Ranked.{Ranked}
use Rattle.secondlook.proofs.edited.edited_lines.Goals as goal

pub loop-entry-preserved : goal.loop-entry-preserved
loop-entry-preserved c =
    let f : Ranked → List ℕ = λ r. assertion_text c.args.edited.now.setting.prelude r.assertion in
    let e = c.entry-item.result in
    lines_more f c.entries-entries.result.now c.loop-entry.entry-index e e [] c.put_assertion.new.out.items
    c.loop-entry-test.true c.entry-item.is
    (c.in_ok-put_assertion.ensures
    ∙ ap (λ (t : Tables). c.loop-entry.lines.items ++ assertion_text t e.assertion) c.prelude.ensures
    ∙ ap (λ (x : List ℕ). x ++ f e) c.loop-entry.invariant)

pub loop-entry-init : goal.loop-entry-init
loop-entry-init c = c.new-lines.ensures.items

pub returns : goal.returns
returns c =
    let l = c.loop-entry in
    l.invariant
    ∙ ap (flat_map (λ (r : Ranked). assertion_text c.args.edited.now.setting.prelude r.assertion))
    (take_all l.entry-index c.entries-entries.result.now c.loop-entry-test.false ∙ c.entries-entries.ensures.value)
