-- What is left to show of `look_at_draft`.
use Rattle.std.proofs.Common.{List, ℕ, ap, subst}
use Rattle.mmtext.specs.Words.{Word}
use Rattle.source.specs.Views.{seen_words}
use Rattle.comments.specs.Kept.{AreKept}
use Rattle.sourceediting.specs.Views.{seen_following}
use Rattle.std.proofs.lemmas.Result.{err_from_is_err_and, on_ok_weaker}
use Rattle.givetext.proofs.Looked.{edited_by}
use Rattle.givetext.proofs.Stopped.{draft_stopped}
use Rattle.givetext.proofs.looking.look_at_draft.Goals as goal

pub returns-clause-edited : goal.returns-clause-edited
returns-clause-edited g c choice taken is =
    let d = c.args.draft.now in
    let source = c.args.edits.now.source.now in
    let replayed = c.args.edits.now.replayed.now in
    let old = c.args.old.now.stand.scope in
    on_ok_weaker c.keep_comments.result
    (λ kept. edited_by source old choice taken replayed.entries replayed.edited d is
    (subst (λ (text : List ℕ). AreKept d.changes (seen_following d.following).gone source text) c.as_slice-text.ensures.value
    (subst (λ (ws : List Word). AreKept d.changes ws source c.as_slice-text.result.now) (ap seen_words c.as_slice-gone.ensures.value) kept))
    c.in_ok-look_at.ensures.looked) c.keep_comments.ensures.kept

pub returns-in_err-look_at-clause-refused : goal.returns-in_err-look_at-clause-refused
returns-in_err-look_at-clause-refused g c choice taken is =
    let d = c.args.draft.now in
    let source = c.args.edits.now.source.now in
    let replayed = c.args.edits.now.replayed.now in
    let old = c.args.old.now.stand.scope in
    let p = err_from_is_err_and c.from_residual.result c.from_residual.ensures.1 in
    rw (p.1, p.2) (λ told. draft_stopped source old choice taken replayed.entries replayed.edited d is c.in_err-look_at.field-0.0
    (c.in_err-look_at.ensures.refused taken replayed.entries source is.written))
