-- What is left to show of `read_old`.
use Rattle.std.proofs.Common.{◌≡◌, rules}
use Rattle.std.specs.Prelude.{◌≢◌}
use Rattle.intake.specs.declared.refusal.Refusal.TheVariants as untaken
use Rattle.mmtext.specs.declared.fault.FaultKind.TheVariants.{NoMemory}
use Rattle.taketext.specs.Refusals.{refusal_line}
use Rattle.editopening.specs.Refusals.{IsFaultyLine}
use Rattle.editscripts.proofs.Lines.{told_more}
use Rattle.editopening.proofs.reading.read_old.Goals as goal

pub returns-in_ok-untaken-in-Err-clause-refused : goal.returns-in_ok-untaken-in-Err-clause-refused
returns-in_ok-untaken-in-Err-clause-refused g c =
    let other : c.in-Err.fault.kind ≢ NoMemory = search rules in
    let path = c.args.path.now in
    let source = c.args.source.now in
    let why = untaken.Source c.in-Err.fault in
    told_more (λ line. (why ≢ untaken.NoMemory) × (line ≡ refusal_line path source why)) (IsFaultyLine path source)
    (λ line h. record { found = c.in-Err.fault; faulty = c.in-Err.ensures.fault other; says = h.1 })
    c.in_ok-untaken-in-Err.field-0 c.in_ok-untaken-in-Err.ensures
