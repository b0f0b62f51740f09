-- What is left to show of `put_coming`.
use Rattle.std.proofs.Common.{◌∙◌, ◌++◌, refl, ap, append_assoc}
use Rattle.arranging.proofs.printing.Source.put_coming.Goals as goal

pub returns-clause-put : goal.returns-clause-put
returns-clause-put c = λ old h yes.
    let put = c.in_ok-is_put.ensures.put old h yes in
    let front = c.args.coming.front.now in
    let back = c.args.coming.back.now in
    let out = c.args.out.now.items in (
      front ++ (put.0 ++ back),
      c.in_ok-extend_from_slice-2.ensures.items
          ∙ (ap (λ o. o ++ back) (put.1 ∙ ap (λ o. o ++ put.0) c.in_ok-extend_from_slice.ensures.items)
          ∙ (append_assoc (out ++ front) put.0 back ∙ append_assoc out front (put.0 ++ back))),
      record { along = put.0; reads = put.2; whole = refl },
    )
