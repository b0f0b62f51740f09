use Rattle.std.proofs.Common.{◌≡◌, None, All, List, [], ◌∷◌, ◌++◌, length, map, length-append, refl, sym, ap, subst, ◌∙◌, arith, rules}
use Rattle.std.specs.Vec.Iter.{into_iter_items, into_iter_len}
use Rattle.std.proofs.lemmas.Iterator.Adapters.{YieldsList-from_vec}
use Rattle.std.proofs.lemmas.Iterator.Consumers.{YieldsList-end}
use Rattle.std.proofs.lemmas.List.{map-append}
use Rattle.std.proofs.lemmas.List.Elements.{All-map}
use Rattle.claims.specs.Claims.{IsClaimantOf}
use Rattle.sourcecheck.specs.declared.checkers.Checker.{Checker}
use Rattle.sourcecheck.specs.Found.{earlier, earliest}
use Rattle.sourcecheck.proofs.Found.{earliest_last}
use Rattle.sourcecheck.proofs.checkers.first_found.Goals as goal

map_same : {A : Type 0} (xs : List A) → map (λ x. x) xs ≡ xs
map_same [] = refl
map_same (x ∷ xs) = ap (λ ys. x ∷ ys) (map_same xs)

pub loop-checker-preserved : goal.loop-checker-preserved
loop-checker-preserved c =
    let done = c.loop-checker.yielded in
    let checker : Checker = c.in-Some.checker in
    let found = λ (c : Checker). c.found in
    let claimant = λ (c : Checker). c.claimant in
    let was = c.loop-checker.invariant in
    let long = was.2 in
    let room = was.3 in
    let more = length-append done (checker ∷ []) in
    let many = c.push_reserved.ensures.len in
    let wide = c.push_reserved.ensures.capacity in (
      c.earlier_of-first.ensures
          ∙ (ap (λ first. earlier first checker.found) was.0 ∙ (sym (earliest_last None (map found done) checker.found)
          ∙ ap (earliest None) (sym (map-append found done (checker ∷ []))))),
      c.push_reserved.ensures.items
          ∙ (ap (λ cs. cs ++ checker.claimant ∷ []) was.1 ∙ sym (map-append claimant done (checker ∷ []))),
      omega (arith, more, many, long),
      omega (arith, room, wide),
    )

pub close-requires-clause-own : goal.close-requires-clause-own
close-requires-clause-own c =
    let claimant = λ (c : Checker). c.claimant in
    let iterator = c.into_iter-checker-iterator.result in
    let items : into_iter_items iterator ≡ c.args.checkers.items = search rules in
    let long : into_iter_len iterator ≡ length c.args.checkers.items = search rules in
    let end = YieldsList-end (YieldsList-from_vec c.args.checkers.items items long) c.loop-checker.yielded c.loop-checker.checker-iterator
    c.loop-checker.yielded_by c.next.result c.next.new.self c.in-None.is c.next.ensures.steps in
    let all : c.loop-checker.yielded ≡ c.args.checkers.items = sym (map_same c.loop-checker.yielded) ∙ end.0 in
    let claimants = c.loop-checker.invariant.1 ∙ ap (map claimant) all in
    subst (All (IsClaimantOf c.args.numbers)) (sym claimants)
    (All-map (IsClaimantOf c.args.numbers) claimant c.args.checkers.items c.requires.own)
