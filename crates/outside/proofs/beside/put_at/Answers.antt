use Rattle.std.proofs.Common.{ℕ, List, Bor, ◌∷◌, ◌++◌, [], Some, inl, option_map, subst, sym}
use Rattle.std.specs.declared.io.ErrorKind.TheVariants.{PermissionDenied}
use Rattle.outside.specs.Deeds.{IsReasonOf, makes}
use Rattle.outside.proofs.Trying.{does_more, finished, put_beside, put_denied, vain_put}
use Rattle.outside.proofs.beside.put_at.Goals as goal

pub returns-in-Ok : goal.returns-in-Ok
returns-in-Ok g c =
    let (ds, did, end) = c.finish.ensures in
    let old = option_map (λ (p : Bor (List ℕ)). p.now) c.args.old in
    let (all, done, put) = finished _ old c.args.real.now _ c.args.text.now c.finish.result
    c.in-Ok.ensures.made ds did end in
    (all, done, put_beside old c.args.real.now c.args.text.now c.finish.result all put)

pub returns-in-Err-Denied : goal.returns-in-Err-Denied
returns-in-Err-Denied g c =
    let (tried, beside, in_vain, did) = rw c.in-Err-Denied.field-0-is at c.in-Err-Denied.ensures.unmade in
    let (cut, done, put) = c.cut_over.ensures in (
      (tried ++ makes beside (Some PermissionDenied) ∷ []) ++ cut,
      does_more did done,
      put_denied _ c.args.real.now beside c.args.text.now tried cut c.cut_over.result in_vain put,
    )

pub returns-in-Err-Other : goal.returns-in-Err-Other
returns-in-Err-Other g c =
    let (tried, vain, reason, did) = rw c.in-Err-Other.field-0-is at c.in-Err-Other.ensures.unmade in (
      tried,
      did,
      inl (vain_put c.args.real.now c.not_written.result _ c.not_written.ensures.none vain
          (subst (λ why. IsReasonOf why tried) (sym c.not_written.ensures.why) reason)),
    )
