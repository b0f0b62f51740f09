-- What is left to show of `own_of`.
use Rattle.std.proofs.Common.{◌≡◌, ◌∙◌, ◌+◌, ◌<◌, ◌≤◌, List, ℕ, Bool, false, Some, map, take, get_or, length, sym, subst, ap, arith, inl, inr}
use Rattle.std.specs.Prelude.{◌&&◌, slice_get}
use mathlib.Core.Bool.{not}
use Rattle.std.proofs.lemmas.List.{take_all, get_or_read, length_push}
use Rattle.std.proofs.lemmas.Option.{slice_get_cases}
use Rattle.source.specs.Scopes.{Assertion, is_in}
use Rattle.taking.specs.Reasons.{Choice}
use Rattle.intake.specs.Intakes.{axioms_of}
use Rattle.sourceediting.specs.Following.{is_own}
use Rattle.sourceediting.proofs.Marks.{told_found}
use Rattle.sourceediting.proofs.Origins.{label_is}
use Rattle.sourceediting.proofs.Others.{own_more}
use Rattle.secondlook.proofs.own.own_of.Given.{Over}
use Rattle.secondlook.proofs.own.own_of.Goals as goal
use Rattle.secondlook.proofs.own.own_of.Goals.{then-index, else-index}

flags_more : (g : Over) (c : goal.In_ok-push g) (choice : Choice)
    → map (λ (x : Assertion). is_in choice.chosen x.label) (g.D.Declared.scope c.args.declared.now).assertions
    ≡ c.args.taken.now.chosen.items
    → c.push.new.self.items
    ≡ map (is_own choice (axioms_of c.args.taken.now)) (take (c.loop-place.place + 1) (g.D.Declared.scope c.args.declared.now).assertions)
flags_more g c choice are =
    let xs : List Assertion = (g.D.Declared.scope c.args.declared.now).assertions in
    let flags = c.args.taken.now.chosen.items in
    let i = c.loop-place.place in
    let within : i < length xs = omega arith in
    let x : (a : Assertion) × (slice_get xs i ≡ Some a) = elim (slice_get_cases xs i).1 [
      | inl y ↦ (y.0, y.2)
      | inr n ↦ absurd (let past : length xs ≤ i = n.0 in omega arith)
    ] in
    let l = c.in-Some.label in
    let axioms = axioms_of c.args.taken.now in
    let same : l.now ≡ x.0.label = label_is l c.label.result x.0 _ c.in-Some.is c.label.ensures x.1 in
    let is_told : c.is_some-is_told.result ≡ is_in (map (λ p. p.0) axioms) x.0.label =
    told_found c.args.taken.now.axioms.items c.as_slice.result.now c.in_ok-told.told l.now x.0.label c.text_for.result
    c.is_some-is_told.result
    c.as_slice.ensures.value c.in_ok-told.ensures c.text_for.ensures c.is_some-is_told.ensures same in
    let chosen : c.index.result.now ≡ get_or flags i false =
    get_or_read flags i c.index.result.now (omega (arith, c.requires)) c.index.ensures false in
    let flag : c.if-index.push ≡ (c.index.result.now && not c.is_some-is_told.result) =
    elim c.if-index.branch [
      | then-index w ↦ w.push-is ∙ ap (λ (b : Bool). b && not c.is_some-is_told.result) (sym w.if-index.true)
      | else-index w ↦ w.push-is ∙ w.if-index.false ∙ ap (λ (b : Bool). b && not c.is_some-is_told.result) (sym w.if-index.false)
    ] in
    own_more choice axioms xs flags i x.0 x.1 are c.loop-place.own.items c.push.new.self.items c.if-index.push c.index.result.now
    c.is_some-is_told.result (c.loop-place.invariant.flags choice are) c.in_ok-push.ensures.items flag chosen is_told

pub loop-place-preserved : goal.loop-place-preserved
loop-place-preserved g c = record {
  many =
      ap length c.in_ok-push.ensures.items
      ∙ length_push c.loop-place.own.items c.if-index.push
      ∙ ap (λ (n : ℕ). n + 1) c.loop-place.invariant.many;
  flags = flags_more g c;
}

pub returns-clause-flags : goal.returns-clause-flags
returns-clause-flags g c choice are =
    let xs : List Assertion = (g.D.Declared.scope c.args.declared.now).assertions in
    let i = c.loop-place.place in
    subst (λ (ys : List Assertion). c.loop-place.own.items ≡ map (is_own choice (axioms_of c.args.taken.now)) ys)
    (take_all i xs (omega arith))
    (c.loop-place.invariant.flags choice are)

pub loop-place-init : goal.loop-place-init
loop-place-init g c = record {
  many = ap length c.new-own.ensures.items;
  flags = λ choice are. c.new-own.ensures.items;
}

pub returns-clause-many : goal.returns-clause-many
returns-clause-many g c =
    let at_end : c.loop-place.place ≡ length (g.D.Declared.scope c.args.declared.now).assertions = omega arith in
    c.loop-place.invariant.many ∙ at_end
