-- What is left to show of `give_edits`.
use Rattle.std.proofs.Common.{subst}
use Rattle.std.specs.Prelude.{◌≢◌, IfErr, IfOk, OnOk}
use Rattle.std.proofs.lemmas.Result.{err_from_is_err_and}
use Rattle.givetext.specs.Drafts.{IsDraft}
use Rattle.givetext.specs.Parts.{IsEdited, IsStopped}
use Rattle.givetext.specs.declared.refusal.Refusal.{Refusal}
use Rattle.givetext.specs.declared.refusal.Refusal.TheVariants.{NoMemory}
use Rattle.givetext.proofs.call.give_edits.Goals as goal

pub returns-in_err-new-clause-refused : goal.returns-in_err-new-clause-refused
returns-in_err-new-clause-refused g c choice are =
    let source = c.args.edits.now.source.now in
    let old = c.args.old.now.stand.scope in
    let taken = c.args.edits.now.taken.now in
    let run = c.args.edits.now.replayed.now in
    let is = subst (λ r. IfOk r (IsDraft source old choice taken run.entries run.edited)) c.in_ok-draft.was
    (c.draft_edits.ensures.drafted choice are) in
    let p = err_from_is_err_and c.from_residual-in_err-new.result c.from_residual-in_err-new.ensures.1 in
    rw (p.1, p.2)
    (subst (λ r. IfErr r (λ (why : Refusal). why ≢ NoMemory → IsStopped source old choice taken run.entries run.edited why))
    c.in_err-new.was (c.read_draft.ensures.refused source choice taken run.entries run.edited is))

pub returns-in_err-look_at_draft-clause-refused : goal.returns-in_err-look_at_draft-clause-refused
returns-in_err-look_at_draft-clause-refused g c choice are =
    let source = c.args.edits.now.source.now in
    let old = c.args.old.now.stand.scope in
    let taken = c.args.edits.now.taken.now in
    let run = c.args.edits.now.replayed.now in
    let is = subst (λ r. IfOk r (IsDraft source old choice taken run.entries run.edited)) c.in_ok-draft.was
    (c.draft_edits.ensures.drafted choice are) in
    let p = err_from_is_err_and c.from_residual-in_err-look_at_draft.result c.from_residual-in_err-look_at_draft.ensures.1 in
    rw (p.1, p.2)
    (subst (λ r. IfErr r (λ (why : Refusal). why ≢ NoMemory → IsStopped source old choice taken run.entries run.edited why))
    c.in_err-look_at_draft.was (c.look_at_draft.ensures.refused choice taken is))

pub returns-clause-edited : goal.returns-clause-edited
returns-clause-edited g c choice are =
    let source = c.args.edits.now.source.now in
    let old = c.args.old.now.stand.scope in
    let taken = c.args.edits.now.taken.now in
    let run = c.args.edits.now.replayed.now in
    let is = subst (λ r. IfOk r (IsDraft source old choice taken run.entries run.edited)) c.in_ok-draft.was
    (c.draft_edits.ensures.drafted choice are) in
    subst (λ r. OnOk r (IsEdited source old choice taken run.entries run.edited c.in_ok-draft.draft.text.items))
    c.in_ok-look_at_draft.was (c.look_at_draft.ensures.edited choice taken is)
