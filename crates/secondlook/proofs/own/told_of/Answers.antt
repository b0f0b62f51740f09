-- What is left to show of `told_of`.
use Rattle.std.proofs.Common.{◌≡◌, ◌<◌, ◌+◌, ◌++◌, ◌∷◌, [], List, ℕ, add-one, get_or, length, map, take, sym, ap, subst, ◌∙◌}
use Rattle.std.specs.Prelude.{IfOk}
use Rattle.std.specs.Borrow.{Bor}
use Rattle.std.proofs.Math.Seq.{take-suc}
use Rattle.std.proofs.lemmas.List.{take_all, map_push}
use Rattle.source.specs.Views.{seen_pairs}
use Rattle.taking.specs.declared.reason.Reason.{Reason}
use Rattle.sourceediting.specs.Marked.{marked}
use Rattle.secondlook.proofs.own.told_of.Goals as goal

-- one more label
told_more : (axioms : List (Bor (List ℕ) × Reason)) (i : ℕ) (d : Bor (List ℕ) × Reason) (pairs new : List (Bor (List ℕ) × Bor (List ℕ)))
    → i < length axioms → seen_pairs pairs ≡ marked (map (λ p. p.0.now) (take i axioms))
    → new ≡ pairs ++ ((get_or axioms i d).0, (get_or axioms i d).0) ∷ []
    → seen_pairs new ≡ marked (map (λ p. p.0.now) (take (i + 1) axioms))
told_more axioms i d pairs new h so_far is =
    let label = λ (p : Bor (List ℕ) × Reason). p.0.now in
    let w = label (get_or axioms i d) in
    ap seen_pairs is
    ∙ map_push (λ (p : Bor (List ℕ) × Bor (List ℕ)). (p.0.now, p.1.now)) pairs ((get_or axioms i d).0, (get_or axioms i d).0)
    ∙ ap (λ xs. xs ++ (w, w) ∷ []) so_far
    ∙ sym (map_push (λ (v : List ℕ). (v, v)) (map label (take i axioms)) w)
    ∙ ap marked (sym (map_push label (take i axioms) (get_or axioms i d)))
    ∙ ap (λ xs. marked (map label xs)) (sym (ap (λ n. take n axioms) (add-one i) ∙ take-suc axioms i d h))

pub loop-label-init : goal.loop-label-init
loop-label-init c = ap seen_pairs c.new-pairs.ensures.items

pub loop-label-preserved : goal.loop-label-preserved
loop-label-preserved c =
    told_more c.args.axioms.now c.loop-label.label-index _ c.loop-label.pairs.items c.push.new.self.items c.loop-label-test.true
    c.loop-label.invariant c.in_ok-push.ensures.items

pub returns : goal.returns
returns c =
    let l = c.loop-label in
    let all = take_all l.label-index c.args.axioms.now c.loop-label-test.false in
    subst (λ ps. IfOk c.new.result (λ made. made ≡ ps)) (l.invariant ∙ ap (λ xs. marked (map (λ p. p.0.now) xs)) all) c.new.ensures
