use Rattle.std.proofs.Common.{◌∙◌, ◌++◌, ◌∷◌, [], Some, ap, arith, refl, sym}
use Rattle.std.specs.declared.io.ErrorKind.TheVariants.{AlreadyExists}
use Rattle.outside.specs.Deeds.{makes}
use Rattle.outside.specs.declared.reason.Reason.TheVariants.{NameTaken}
use Rattle.outside.specs.declared.trouble.Trouble.TheVariants.{Refused}
use Rattle.outside.proofs.Trying.{all_vain, does_more, longer_differs, reason_fails, taken_more, unmade_fails, vain_more}
use Rattle.outside.proofs.beside.make_beside.Goals as goal

pub returns-in-Ok-create_new-clause-made : goal.returns-in-Ok-create_new-clause-made
returns-in-Ok-create_new-clause-made g c =
    let (tried, in_vain, fails, did) = c.loop-number.invariant in
    record {
      another = λ same. longer_differs c.args.real.now _ _ (sym c.in-Ok.ensures.ok ∙ same);
      tried = tried;
      in_vain = in_vain;
      did = does_more did (rw c.as_str.ensures.value at c.in-Ok-create_new.ensures.does);
    }

pub returns-in-PermissionDenied-clause-unmade : goal.returns-in-PermissionDenied-clause-unmade
returns-in-PermissionDenied-clause-unmade g c =
    let (tried, in_vain, fails, did) = c.loop-number.invariant in
    let kind = ap (λ k. Some k) (sym c.kind.ensures ∙ c.in-PermissionDenied.is) in
    (tried, c.as_str.result.now, in_vain, does_more did (rw kind at c.in-Err.ensures.does))

pub returns-in_default-kind : goal.returns-in_default-kind
returns-in_default-kind g c =
    let (tried, in_vain, fails, did) = c.loop-number.invariant in record {
      at = tt;
      made = tt;
      unmade = (
        tried ++ makes c.as_str.result.now _ ∷ [],
        vain_more tried _ (all_vain tried in_vain) (λ e. absurd cc),
        reason_fails _ _ (unmade_fails tried c.as_str.result.now _ _ c.trouble_of.ensures),
        does_more did c.in-Err.ensures.does,
      );
    }

pub loop-number-preserved : goal.loop-number-preserved
loop-number-preserved g c =
    let (tried, in_vain, fails, did) = c.loop-number.invariant in
    let kind = ap (λ k. Some k) (sym c.kind.ensures ∙ c.in-AlreadyExists.is) in (
      tried ++ makes c.as_str.result.now (Some AlreadyExists) ∷ [],
      taken_more tried c.as_str.result.now in_vain,
      λ more. unmade_fails tried c.as_str.result.now AlreadyExists (Refused NameTaken) (λ e. absurd cc, refl),
      does_more did (rw kind at c.in-Err.ensures.does),
    )

pub returns-clause-unmade : goal.returns-clause-unmade
returns-clause-unmade g c =
    let (tried, in_vain, fails, did) = c.loop-number.invariant in
    (tried, all_vain tried in_vain, fails (omega (arith, c.loop-number-test.false)), did)
