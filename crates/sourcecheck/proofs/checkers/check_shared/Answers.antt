-- What is left to show of `check_shared`.
use Rattle.std.proofs.Common.{◌≡◌, ◌<◌, None, List, length, map, All, sym, ap, subst, ◌∙◌, arith}
use Rattle.std.proofs.lemmas.List.{length-map, with_items_is}
use Rattle.std.proofs.lemmas.List.Elements.{All-weaker}
use Rattle.claims.specs.Claims.{AreClaimed, IsClaimantOf}
use Rattle.sourcecheck.specs.declared.checkers.Checker.{Checker}
use Rattle.sourcecheck.specs.Found.{earliest}
use Rattle.sourcecheck.specs.Checkers.{HasChecked, IsFoundAmong, checker_of, IsReady}
use Rattle.sourcecheck.proofs.Beside.{all_ready, found_everywhere}
use Rattle.sourcecheck.proofs.checkers.check_shared.Goals as goal

pub check_beside-requires-clause-ready : goal.check_beside-requires-clause-ready
check_beside-requires-clause-ready g c κs within =
    let home = c.in_ok-numbers.numbers in
    subst (All (IsReady home)) (sym (c.as_mut_slice.ensures.value ∙ c.in_ok-checkers.ensures))
    (all_ready home c.in_ok-numbers.claimants.items c.in_ok-numbers.ensures.new)

pub returns : goal.returns
returns g c =
    let xs = c.args.framed.now.declared.now.stand.scope.assertions in
    let home = c.in_ok-numbers.numbers in
    let checkers : List Checker = c.check_beside.new.checkers in
    let sizes = c.in_ok-numbers.ensures.sizes in
    let some = c.count_checkers-many.ensures.some in
    let long = length-map c.in_ok-numbers.claimants.items checker_of in
    let before = ap length (c.as_mut_slice.ensures.value ∙ c.in_ok-checkers.ensures) in
    let many = c.check_beside.ensures.many in
    let filled : 0 < length checkers = omega (arith, some, sizes.2, long, before, many) in
    let count : home.count ≡ length xs = sizes.0 ∙ c.assertions-count.ensures in
    let same = with_items_is c.in_ok-checkers.checkers checkers (many ∙ c.as_mut_slice.ensures.len) in
    let claimed = subst (λ (cs : List Checker). AreClaimed home (map (λ c. c.claimant) cs)) same c.first_found.ensures.claimed in
    let is = c.first_found.ensures.first ∙ ap (λ (cs : List Checker). earliest None (map (λ c. c.found) cs)) same in
    subst (IsFoundAmong xs (λ k. k < length xs)) (sym is)
    (found_everywhere xs home checkers c.check_beside.ensures.checked filled count claimed)

pub first_found-requires-clause-own : goal.first_found-requires-clause-own
first_found-requires-clause-own g c =
    let home = c.in_ok-numbers.numbers in
    let checkers : List Checker = c.check_beside.new.checkers in
    let same = with_items_is c.in_ok-checkers.checkers checkers (c.check_beside.ensures.many ∙ c.as_mut_slice.ensures.len) in
    subst (All (λ (c : Checker). IsClaimantOf home c.claimant)) (sym same)
    (All-weaker (HasChecked c.args.framed.now.declared.now.stand.scope.assertions home) (λ c. IsClaimantOf home c.claimant) (λ c of. of.own)
    checkers c.check_beside.ensures.checked)

pub first_found-requires-clause-all : goal.first_found-requires-clause-all
first_found-requires-clause-all g c =
    let checkers : List Checker = c.check_beside.new.checkers in
    let same = with_items_is c.in_ok-checkers.checkers checkers (c.check_beside.ensures.many ∙ c.as_mut_slice.ensures.len) in
    let sizes = c.in_ok-numbers.ensures.sizes in
    ap length same ∙ c.check_beside.ensures.many ∙ ap length (c.as_mut_slice.ensures.value ∙ c.in_ok-checkers.ensures)
    ∙ length-map c.in_ok-numbers.claimants.items checker_of ∙ sizes.2 ∙ sym sizes.1

pub first_found-requires-clause-none : goal.first_found-requires-clause-none
first_found-requires-clause-none g c = c.in_ok-spent.ensures.items

pub first_found-requires-clause-room : goal.first_found-requires-clause-room
first_found-requires-clause-room g c =
    let checkers : List Checker = c.check_beside.new.checkers in
    let same = with_items_is c.in_ok-checkers.checkers checkers (c.check_beside.ensures.many ∙ c.as_mut_slice.ensures.len) in
    let long =
    ap length same ∙ c.check_beside.ensures.many ∙ ap length (c.as_mut_slice.ensures.value ∙ c.in_ok-checkers.ensures)
    ∙ length-map c.in_ok-numbers.claimants.items checker_of ∙ c.in_ok-numbers.ensures.sizes.2 in
    omega (arith, long, c.in_ok-spent.ensures.capacity)

pub check_beside-requires-clause-count : goal.check_beside-requires-clause-count
check_beside-requires-clause-count g c κs within = c.in_ok-numbers.ensures.sizes.0 ∙ c.assertions-count.ensures
