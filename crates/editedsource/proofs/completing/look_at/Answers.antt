-- What is left to show of `look_at`.
use Rattle.std.proofs.Common.{◌≡◌, ◌++◌, codes}
use Rattle.std.specs.Prelude.{◌≢◌}
use Rattle.givetext.specs.Refusals.{refusal_text}
use Rattle.givetext.specs.declared.refusal.Refusal.TheVariants.{NoMemory}
use Rattle.editedsource.specs.Refusals.{IsStoppedLine}
use Rattle.editscripts.proofs.Lines.{told_more}
use Rattle.editedsource.proofs.completing.look_at.Goals as goal

pub returns-in_ok-ungiven-in-Err-clause-refused : goal.returns-in_ok-ungiven-in-Err-clause-refused
returns-in_ok-ungiven-in-Err-clause-refused g c =
    λ choice taken is.
    let path = c.args.edit.now.path.now in
    let why = c.in-Err.why in
    let run = c.args.edit.now.library.replayed.now in
    told_more (λ line. (why ≢ NoMemory) × (line ≡ path ++ (codes ": " ++ refusal_text why)))
    (IsStoppedLine path c.args.edit.now.library.source.now c.args.old.now.stand.scope choice taken run.entries run.edited)
    (λ line h. record { why = why; stopped = c.in-Err.ensures.refused choice taken is h.0; told = h.0; says = h.1 })
    c.in_ok-ungiven-in-Err.field-0 c.in_ok-ungiven-in-Err.ensures
