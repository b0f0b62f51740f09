-- What is left to show of `with_proofs`: a library whose proofs check is taken of the source, and another has a first fault.
use Rattle.std.proofs.Common.{rules, ◌≡◌, ◌∙◌, sym}
use Rattle.taking.specs.Reasons.{told_in}
use Rattle.derivation.specs.declared.fault.ProofFaultKind.TheVariants.{TooLong}
use Rattle.gathering.specs.Gatherings.{told_names}
use Rattle.intake.proofs.Long.{long_first}
use Rattle.intake.proofs.Steps.{refused_for_proof}
use Rattle.intake.proofs.declaring.with_proofs.Goals as goal

pub returns-in_default-clause-taken : goal.returns-in_default-clause-taken
returns-in_default-clause-taken g c =
    λ s w is. record {
      taken = is.taken;
      checks = rw c.in_default.is at c.in_ok-found.ensures;
      chosen_are = is.flags_are ∙ sym c.in_ok-chosen.ensures.items;
    }

pub returns-then-eq-clause-long : goal.returns-then-eq-clause-long
returns-then-eq-clause-long g c =
    let same : c.in-Some.fault.kind ≡ TooLong = search rules in
    long_first c.args.database c.in-Some.number c.in-Some.fault (rw c.in-Some.is at c.in_ok-found.ensures) same

pub returns-clause-refused : goal.returns-clause-refused
returns-clause-refused g c =
    λ s w is.
    refused_for_proof s w c.args.database (told_in c.args.axioms.items) (told_names c.args.names.items) c.args.chosen.now is
    c.in_ok-label.label c.in-Some.fault c.in_ok-label.ensures
