use Rattle.std.proofs.Common.{◌∷◌, ◌++◌, [], Some, refl, subst, sym}
use Rattle.std.specs.declared.io.ErrorKind.TheVariants.{PermissionDenied}
use Rattle.outside.specs.Deeds.{IsReasonOf, makes}
use Rattle.outside.specs.declared.reason.Reason.TheVariants.{NotPermitted}
use Rattle.outside.specs.declared.trouble.Trouble.TheVariants.{Refused}
use Rattle.outside.proofs.Trying.{denied_vain, finished, unmade_fails, vain_put}
use Rattle.outside.proofs.beside.put_over.Goals as goal

pub returns-in-Ok : goal.returns-in-Ok
returns-in-Ok g c =
    let (ds, did, end) = c.finish.ensures in
    finished _ (Some c.args.real.now) c.args.real.now _ c.args.text.now c.finish.result
    c.in-Ok.ensures.made ds did end

pub returns-in-Err-Denied : goal.returns-in-Err-Denied
returns-in-Err-Denied g c =
    let (tried, beside, in_vain, did) = rw c.in-Err-Denied.field-0-is at c.in-Err-Denied.ensures.unmade in (
      tried ++ makes beside (Some PermissionDenied) ∷ [],
      did,
      vain_put c.args.real.now c.not_written.result _ c.not_written.ensures.none (denied_vain tried beside in_vain)
          (subst (λ why. IsReasonOf why (tried ++ makes beside (Some PermissionDenied) ∷ [])) (sym c.not_written.ensures.why)
          (unmade_fails tried beside PermissionDenied (Refused NotPermitted) (λ e. absurd cc, refl))),
    )

pub returns-in-Err-Other : goal.returns-in-Err-Other
returns-in-Err-Other g c =
    let (tried, vain, reason, did) = rw c.in-Err-Other.field-0-is at c.in-Err-Other.ensures.unmade in (
      tried,
      did,
      vain_put c.args.real.now c.not_written-in-Err-Other.result _ c.not_written-in-Err-Other.ensures.none vain
          (subst (λ why. IsReasonOf why tried) (sym c.not_written-in-Err-Other.ensures.why) reason),
    )
