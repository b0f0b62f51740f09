use Rattle.std.proofs.Common.{◌≡◌, ◌<◌, None, List, length, map, All, sym, ap, subst, ◌∙◌, arith}
use Rattle.std.proofs.lemmas.List.{length-map, with_items_is}
use Rattle.claims.specs.Claims.{AreClaimed}
use Rattle.proofcheck.specs.declared.checkers.Checker.{Checker}
use Rattle.proofcheck.specs.Reports.{FoundAmong, earliest}
use Rattle.proofcheck.specs.Checkers.{checker_of, IsReady}
use Rattle.proofcheck.proofs.Reports.{all_ready, found_everywhere}
use Rattle.proofcheck.proofs.checkers.check_shared.Goals as goal

pub check_beside-requires-clause-ready : goal.check_beside-requires-clause-ready
check_beside-requires-clause-ready g c κs within =
    let home = c.in_ok-numbers.numbers in
    subst (All (IsReady home)) (sym (c.as_mut_slice.ensures.value ∙ c.in_ok-checkers.ensures))
    (all_ready home c.in_ok-numbers.claimants.items c.in_ok-numbers.ensures.new)

pub returns : goal.returns
returns g c =
    let db = c.args.framed.now.db.now in
    let home = c.in_ok-numbers.numbers in
    let checkers : List Checker = c.check_beside.new.checkers in
    let sizes = c.in_ok-numbers.ensures.sizes in
    let some = c.count_checkers-many.ensures.some in
    let long = length-map c.in_ok-numbers.claimants.items checker_of in
    let before = ap length (c.as_mut_slice.ensures.value ∙ c.in_ok-checkers.ensures) in
    let many = c.check_beside.ensures.many in
    let filled : 0 < length checkers = omega (arith, some, sizes.2, long, before, many) in
    let count : home.count ≡ length db.assertions = sizes.0 ∙ ap length c.assertions-count.ensures.value in
    let same = with_items_is c.in_ok-checkers.checkers checkers (many ∙ c.as_mut_slice.ensures.len) in
    let claimed = subst (λ (cs : List Checker). AreClaimed home (map (λ c. c.claimant) cs)) same c.first_found.ensures.claimed in
    let is = c.first_found.ensures.first ∙ ap (λ (cs : List Checker). earliest None (map (λ c. c.found) cs)) same in
    subst (FoundAmong db (λ k. k < length db.assertions)) (sym is)
    (found_everywhere db home checkers c.check_beside.ensures.checked filled count claimed)
