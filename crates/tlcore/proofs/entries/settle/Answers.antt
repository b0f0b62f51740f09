-- The element is written through its fields.
use Rattle.std.proofs.Common.{Some, length, refl, slice_get, slice_set, subst, sym, ◌∙◌, ◌≡◌}
use Rattle.std.proofs.lemmas.Option.{slice_get_read}
use Rattle.tlcore.specs.History.{WordsEntry, settle}
use Rattle.tlcore.proofs.Settling.{settle_past, settle_set}
use Rattle.tlcore.proofs.entries.settle.Goals as goal

pub returns-then-index-history : goal.returns-then-index-history
returns-then-index-history c =
    let e : slice_get c.args.history.now c.args.index ≡ Some c.index-history-index.result =
    slice_get_read c.args.history.now (length c.args.history.now) c.args.index c.index-history-index.result refl c.if-index-history.true
    c.index-history-index.is in
    subst (λ (y : WordsEntry). slice_set c.args.history.now c.args.index (record y { status = c.args.status })
    ≡ settle c.args.history.now c.args.index c.args.status)
    (c.index-history-index.is ∙ sym c.entry.view_is) (settle_set c.args.history.now c.args.index c.args.status c.index-history-index.result
    e)

pub returns-else-index-history : goal.returns-else-index-history
returns-else-index-history c = settle_past c.args.history.now c.args.index c.args.status c.if-index-history.false
