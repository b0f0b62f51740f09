-- What is left to show of `draft_of`.
use Rattle.std.proofs.Common.{◌≡◌, ◌++◌, codes}
use Rattle.std.specs.Prelude.{◌≢◌}
use Rattle.givetext.specs.Refusals.{refusal_text}
use Rattle.givetext.specs.declared.refusal.Refusal.TheVariants.{NoMemory}
use Rattle.editedsource.specs.Refusals.{IsStoppedLine}
use Rattle.editscripts.proofs.Lines.{told_more}
use Rattle.editedsource.proofs.completing.draft_of.Goals as goal

pub returns-in_ok-ungiven-in-Err-clause-refused : goal.returns-in_ok-ungiven-in-Err-clause-refused
returns-in_ok-ungiven-in-Err-clause-refused c =
    λ choice are.
    let path = c.args.edit.now.path.now in
    let library = c.args.edit.now.library in
    let run = library.replayed.now in
    let why = c.in-Err.why in
    told_more (λ line. (why ≢ NoMemory) × (line ≡ path ++ (codes ": " ++ refusal_text why)))
    (IsStoppedLine path library.source.now c.args.old.now.stand.scope choice library.taken.now run.entries run.edited)
    (λ line h. record { why = why; stopped = c.in-Err.ensures.refused choice are h.0; told = h.0; says = h.1 })
    c.in_ok-ungiven-in-Err.field-0 c.in_ok-ungiven-in-Err.ensures
