use Rattle.std.proofs.Common.{[], ◌∷◌, ◌++◌, length-append, sym, ap, ◌∙◌, arith}
use Rattle.std.proofs.lemmas.List.{map-append}
use Rattle.sourcecheck.specs.Checkers.{checker_of}
use Rattle.sourcecheck.proofs.checkers.checkers_of.Goals as goal

pub loop-claimant-preserved : goal.loop-claimant-preserved
loop-claimant-preserved c =
    let done = c.loop-claimant.yielded in
    let claimant = c.in-Some.claimant in
    let was = c.loop-claimant.invariant in
    let long = was.1 in
    let room = was.2 in
    let more = length-append done (claimant ∷ []) in
    let many = c.push_reserved.ensures.len in
    let wide = c.push_reserved.ensures.capacity in (
      c.push_reserved.ensures.items ∙ (ap (λ cs. cs ++ checker_of claimant ∷ []) was.0 ∙ sym (map-append checker_of done (claimant ∷ []))),
      omega (arith, more, many, long),
      omega (arith, room, wide),
    )
