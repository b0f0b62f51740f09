use Rattle.derivation.proofs.Relabelling.{relabelled-derives, replaced-derives, relabelled-proves, renamed-proves}
use Rattle.derivation.proofs.laws.relabelling.Goals as goal

pub returns-clause-changed : goal.returns-clause-changed
returns-clause-changed c = relabelled-derives

pub returns-clause-replaced : goal.returns-clause-replaced
returns-clause-replaced c = replaced-derives

pub returns-clause-steps : goal.returns-clause-steps
returns-clause-steps c = relabelled-proves

pub returns-clause-renamed : goal.returns-clause-renamed
returns-clause-renamed c = renamed-proves
