-- What is left to show of `read_draft`.
use Rattle.std.proofs.Common.{List, ℕ, refl, subst, sym}
use Rattle.givetext.specs.Causes.{IsTextThen}
use Rattle.givetext.specs.Drafts.{known_in}
use Rattle.givetext.proofs.Stopped.{draft_stopped}
use Rattle.givetext.proofs.looking.read_draft.Goals as goal

pub returns-in_ok-unread-in-Err-clause-refused : goal.returns-in_ok-unread-in-Err-clause-refused
returns-in_ok-unread-in-Err-clause-refused g c source choice taken entries edited is told =
    let d = c.args.draft.now in
    let old = g.D.Declared.scope c.args.old.now in
    let k = known_in old taken entries edited d in
    let out = c.as_slice-out.ensures.value in
    draft_stopped source old choice taken entries edited d is c.in_ok-unread-in-Err.field-0
    (c.in_ok-unread-in-Err.ensures k source refl refl (sym c.as_slice-own.ensures.value)
    (subst (λ (text : List ℕ). IsTextThen k source text) (sym out) is.written) c.in-Err.ensures.fault)
