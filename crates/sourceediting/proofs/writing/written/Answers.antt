-- What is left to show of `written`.
use Rattle.std.proofs.Common.{◌≡◌, ◌∙◌, false, true, sym}
use Rattle.std.specs.Prelude.{All}
use Rattle.std.proofs.lemmas.Result.{IfOk-weaker}
use Rattle.source.specs.Views.{seen_words}
use Rattle.sourceediting.specs.Following.{KeepsPlaces, all_commands}
use Rattle.sourceediting.specs.Views.{seen_living}
use Rattle.items.specs.Rewriting.{IsRewritten}
use Rattle.sourceediting.specs.Written.{IsRearranged, IsWrittenAnew}
use Rattle.sourceediting.specs.WrittenWith.{IsNotPut}
use Rattle.sourceediting.proofs.Rewritten.{only_rewritten, all_rearranged}
use Rattle.sourceediting.proofs.Unwritten.{if_unwritten}
use Rattle.sourceediting.proofs.writing.written.Goals as goal

clash : false ≡ true → ⊥
clash e = cc

pub returns-then-keep_places-clause-written : goal.returns-then-keep_places-clause-written
returns-then-keep_places-clause-written g c =
    let commands = all_commands c.args.entries.now in
    let living = seen_living c.args.edits.now.planned.living.now in
    let gone = seen_words c.args.edits.now.planned.gone.now in
    let cs = c.args.edits.now.changes.now in
    let proofs = c.args.edits.now.proofs.now in
    let source = c.args.source.now in
    let all : All KeepsPlaces commands = c.keep_places.ensures.0 c.if-keep_places.true in
    IfOk-weaker c.rewritten.result (λ out. IsRewritten cs proofs source out.items)
    (λ out. IsWrittenAnew commands living gone (λ ps. ps ≡ proofs) cs source out.items)
    (λ out. only_rewritten commands living gone cs source out.items proofs all) c.rewritten.ensures.rewritten

pub returns-then-keep_places-clause-refused : goal.returns-then-keep_places-clause-refused
returns-then-keep_places-clause-refused g c = c.rewritten.ensures.refused

pub returns-clause-refused : goal.returns-clause-refused
returns-clause-refused g c = c.rearrange.ensures.refused

pub returns-clause-written : goal.returns-clause-written
returns-clause-written g c =
    let commands = all_commands c.args.entries.now in
    let living = seen_living c.args.edits.now.planned.living.now in
    let gone = seen_words c.args.edits.now.planned.gone.now in
    let cs = c.args.edits.now.changes.now in
    let source = c.args.source.now in
    let proofs = c.args.edits.now.proofs.now in
    let some : All KeepsPlaces commands → ⊥ = λ all.
    clash (sym c.if-keep_places.false ∙ c.keep_places.ensures.1 all) in
    IfOk-weaker c.rearrange.result (λ out. IsRearranged living gone cs proofs source out.items)
    (λ out. IsWrittenAnew commands living gone (λ ps. ps ≡ proofs) cs source out.items)
    (λ out. all_rearranged commands living gone cs source out.items proofs some) c.rearrange.ensures.arranged

pub returns-then-keep_places-clause-unwritten : goal.returns-then-keep_places-clause-unwritten
returns-then-keep_places-clause-unwritten g c = λ are.
    let s = g.D.Declared.scope c.args.declared.now in
    let x = c.args.edits.now in
    let all = All KeepsPlaces (all_commands c.args.entries.now) in
    if_unwritten (λ _. ⊥) (λ label. IsNotPut s x label × (all → ⊥)) c.rewritten.result (λ label h. absurd h) c.rewritten.ensures.unwritten

pub returns-clause-unwritten : goal.returns-clause-unwritten
returns-clause-unwritten g c = λ are.
    let s = g.D.Declared.scope c.args.declared.now in
    let x = c.args.edits.now in
    let commands = all_commands c.args.entries.now in
    let some : All KeepsPlaces commands → ⊥ = λ all.
    clash (sym c.if-keep_places.false ∙ c.keep_places.ensures.1 all) in
    if_unwritten (IsNotPut s x) (λ label. IsNotPut s x label × (All KeepsPlaces commands → ⊥)) c.rearrange.result (λ label h. (h, some))
    (c.rearrange.ensures.unwritten are)
