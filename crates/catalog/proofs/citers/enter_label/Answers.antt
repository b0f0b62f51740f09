use Rattle.std.proofs.Common.{◌<◌, length, set, rules, ◌∙◌}
use Rattle.std.proofs.lemmas.Result.{on_ok_weaker}
use Rattle.std.proofs.lemmas.Option.{slice_get-get_or}
use Rattle.mmsyntax.specs.declared.statement.Step.TheVariants.{Cite}
use Rattle.mmsyntax.proofs.Names.{bytes_eq-sym}
use Rattle.library.specs.Library.{label_of}
use Rattle.catalog.proofs.Changing.{get-set_same}
use Rattle.catalog.proofs.Covering.{entered-cited, entered-unknown, keeps-set, list-within}
use Rattle.catalog.proofs.Living.{has-not-at}
use Rattle.catalog.proofs.citers.enter_label.Goals as goal

pub returns-in_default-clause-entered : goal.returns-in_default-clause-entered
returns-in_default-clause-entered c =
    let w = c.args.label.now in
    entered-unknown c.args.citers.now c.args.entries.now (Cite w) c.args.place
    (λ p e at. bytes_eq-sym (label_of e) w ∙ has-not-at c.args.entries.now w p e c.in_default.ensures at)

pub bounds-citers-cited : goal.bounds-citers-cited
bounds-citers-cited c = list-within c.args.citers.now c.args.entries.now _ c.in-Some.cited c.in-Some.ensures c.requires.long

pub offset_bounds-citers-cited : goal.offset_bounds-citers-cited
offset_bounds-citers-cited c =
    let within : c.in-Some.cited < length c.args.citers.now =
    list-within c.args.citers.now c.args.entries.now _ c.in-Some.cited c.in-Some.ensures c.requires.long in
    search rules

pub enter-requires : goal.enter-requires
enter-requires c =
    let within : c.in-Some.cited < length c.args.citers.now =
    list-within c.args.citers.now c.args.entries.now _ c.in-Some.cited c.in-Some.ensures c.requires.long in
    c.requires.ascending c.in-Some.cited c.index-citers-cited.result within

pub returns-clause-kept : goal.returns-clause-kept
returns-clause-kept c =
    let cs = c.args.citers.now in
    let p = c.in-Some.cited in
    let within : p < length cs = list-within cs c.args.entries.now _ p c.in-Some.ensures c.requires.long in
    keeps-set cs p _ c.enter.new.list (slice_get-get_or cs p c.index-citers-cited.result within) c.enter.ensures.kept

pub returns-clause-entered : goal.returns-clause-entered
returns-clause-entered c =
    let cs = c.args.citers.now in
    let p = c.in-Some.cited in
    let list = c.enter.new.list in
    let w = c.args.label.now in
    let within : p < length cs = list-within cs c.args.entries.now _ p c.in-Some.ensures c.requires.long in
    on_ok_weaker c.enter.result (λ member.
    entered-cited (set cs p list) c.args.places.now c.args.entries.now w p c.args.place c.requires.indexed c.in-Some.ensures
    (record { list = list; at = get-set_same cs p list within; member = member })) c.enter.ensures.entered
