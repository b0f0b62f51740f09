-- The facts on the numbers come from the invariant.
use Rattle.std.proofs.Common.{List, Some, length, rules, slice_get, subst, ◌<◌, ◌≡◌}
use Rattle.std.proofs.lemmas.Option.{slice_get_read}
use Rattle.tlcore.specs.History.{WordsEntry}
use Rattle.tlcore.specs.Steps.{world_of}
use Rattle.tlcore.proofs.Stepping.{numbers_fit, words_fit}
use Rattle.tlcore.proofs.machine.advance.Goals as goal

pub act-requires-clause-words : goal.act-requires-clause-words
act-requires-clause-words c =
    let short : length c.args.history.now.items < 4611686018427387904 =
    subst (λ (h : List WordsEntry). length h < 4611686018427387904) c.deref.ensures.value c.is_short-short.ensures in
    let count : c.len.result ≡ length c.args.seats.now.items = search rules in
    let here : slice_get c.args.seats.now.items c.args.seat ≡ Some c.index_mut.result.now =
    slice_get_read c.args.seats.now.items c.len.result c.args.seat c.index_mut.result.now count c.if-seat-len.false
    c.index_mut.ensures.value in
    words_fit (world_of c.args.cells.now.items c.args.seats.now.items c.args.history.now.items) c.args.seat c.index_mut.result.now
    c.requires here short

pub act-requires-clause-numbers : goal.act-requires-clause-numbers
act-requires-clause-numbers c =
    let short : length c.args.history.now.items < 4611686018427387904 =
    subst (λ (h : List WordsEntry). length h < 4611686018427387904) c.deref.ensures.value c.is_short-short.ensures in
    let count : c.len.result ≡ length c.args.seats.now.items = search rules in
    let here : slice_get c.args.seats.now.items c.args.seat ≡ Some c.index_mut.result.now =
    slice_get_read c.args.seats.now.items c.len.result c.args.seat c.index_mut.result.now count c.if-seat-len.false
    c.index_mut.ensures.value in
    numbers_fit (world_of c.args.cells.now.items c.args.seats.now.items c.args.history.now.items) c.args.seat c.index_mut.result.now
    c.requires here short
