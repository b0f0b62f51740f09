-- What is left to show of `cites_one`: a look-up finds a label that is one of these.
use Rattle.std.proofs.Common.{◌∙◌, sym, ap}
use Rattle.std.specs.Prelude.{is_some}
use Rattle.std.specs.Str.{bytes_eq}
use Rattle.mmsyntax.specs.declared.step_ref.StepRef.{StepRef}
use Rattle.mmsyntax.specs.ProofWords.{seen_step}
use Rattle.mmsyntax.proofs.Distinct.{is_some-place_of}
use Rattle.standins.specs.Ending.{cites_one}
use Rattle.standins.proofs.withdrawing.cites_one.Goals as goal

pub returns-in-Cite : goal.returns-in-Cite
returns-in-Cite c =
    let axioms = c.args.axioms.now in
    let w = c.in-Cite.label.now in
    c.is_some.ensures
    ∙ ap is_some c.place.ensures.place
    ∙ is_some-place_of (bytes_eq w) axioms
    ∙ ap (λ (s : StepRef). cites_one axioms (seen_step s)) (sym c.in-Cite.is)
