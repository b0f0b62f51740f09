-- What is left to show of `are_within`.
use Rattle.std.proofs.Common.{◌≡◌, ℕ, ◌+◌, suc, true, add-one, List, ◌∷◌, Option, Some, None, All, Contains, drop, get_or, refl, sym, subst, arith}
use Rattle.std.specs.Option.{is_some}
use Rattle.std.proofs.Math.Seq.{drop-cons}
use Rattle.std.proofs.lemmas.List.{drop_all}
use Rattle.std.proofs.lemmas.List.Elements.{All-cons, All-nil, All-tail}
use Rattle.derivation.specs.Lookups.{IsPlaceOfPair}
use Rattle.library.proofs.alike.are_within.Goals as goal

-- a pair that has a place is there
there : (ps : List (ℕ × ℕ)) (q : ℕ × ℕ) (o : Option ℕ) → IsPlaceOfPair ps q o → is_some o ≡ true → Contains ps q
there ps q None h some = absurd cc
there ps q (Some i) h some = (i, h.0, h.1)

pub loop-pair-preserved : goal.loop-pair-preserved
loop-pair-preserved c =
    let ps = c.args.pairs.now in
    let i = c.loop-pair.pair-index in
    let P = Contains c.args.others.now in
    let x = get_or ps i (0, 0) in
    let here = there c.args.others.now x c.place_of.result c.place_of.ensures c.if-is_none.ensures in
    let split : drop i ps ≡ x ∷ drop (i + 1) ps = rw add-one (drop-cons ps i (0, 0) c.loop-pair-test.true) in (
      λ h. c.loop-pair.invariant.0 (subst (All P) (sym split) (All-cons P x (drop (i + 1) ps) here h)),
      λ all. All-tail P x (drop (i + 1) ps) (subst (All P) split (c.loop-pair.invariant.1 all)),
    )

pub returns : goal.returns
returns c = (
  λ _. c.loop-pair.invariant.0
      (subst (All (Contains c.args.others.now)) (sym (drop_all c.loop-pair.pair-index c.args.pairs.now c.loop-pair-test.false))
      (All-nil (Contains c.args.others.now))),
  λ _. refl,
)
