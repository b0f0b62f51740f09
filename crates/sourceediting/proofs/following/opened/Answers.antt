-- What is left to show of `opened`.
use Rattle.std.proofs.Common.{◌≡◌, ◌<◌, ◌≤◌, ◌++◌, ◌∷◌, [], ℕ, inl, inr, List, Some, true, false, map, get_or, length, ap, sym, subst, refl, ◌∙◌, arith, rules, take}
use Rattle.std.specs.Prelude.{slice_get}
use Rattle.std.proofs.lemmas.List.{take_all}
use Rattle.std.proofs.lemmas.Option.{slice_get_cases, slice_get_read}
use Rattle.source.specs.Scopes.{Assertion}
use Rattle.sourceediting.specs.Following.{opened}
use Rattle.sourceediting.specs.Views.{seen_living}
use Rattle.sourceediting.proofs.Labels.{as_many, opened_more}
use Rattle.sourceediting.proofs.Origins.{label_is, paired_more, paired_same, paired_past}
use Rattle.sourceediting.proofs.following.opened.Goals as goal
use Rattle.sourceediting.proofs.following.opened.Goals.{then-chosen-place+in-Some+in-Some-get+in_ok-push, else-chosen-place}

pub loop-place-preserved : goal.loop-place-preserved
loop-place-preserved g c choice are =
    let xs : List Assertion = (g.D.Declared.scope c.args.declared.now).assertions in
    let flags = c.args.chosen.now in
    let i = c.loop-place.place in
    let library = c.assertions-assertions.result.now in
    let within : i < length xs = omega arith in
    let before = c.loop-place.invariant choice are in
    let ps = before.0 in
    let living = c.loop-place.living.items in
    elim (slice_get_cases xs i).1 [
      | inl x ↦
          elim c.if-chosen-place.branch [
            | then-chosen-place+in-Some+in-Some-get+in_ok-push w ↦
                let l = w.in-Some.label in
                let a = w.in-Some-get.assertion.now in
                let yes : get_or flags i false ≡ true = search rules in
                let same : l.now ≡ x.0.label = label_is l w.label.result x.0 _ w.in-Some.is w.label.ensures x.2 in
                let many : w.len.result ≡ length ps = omega (arith, w.len.ensures, c.loop-place.living.ok.0, as_many living ps before.1) in
                let there : slice_get library (length ps) ≡ Some a =
                let found = w.in-Some-get.ensures.lookup in
                subst (λ (n : ℕ). slice_get library n ≡ Some a) many
                (slice_get_read library (length library) w.len.result a refl found.3.0 found.1) in
                let made : seen_living c.if-chosen-place.living.items ≡ map opened (ps ++ (l.now, a.label) ∷ []) =
                opened_more living c.if-chosen-place.living.items ps l w.as_slice-first.result a.label before.1
                (ap (λ v. v.items) w.living-is ∙ w.in_ok-push.ensures.items) w.as_slice-first.ensures in
                (ps ++ (l.now, a.label) ∷ [], made, paired_more choice xs flags i x.0 x.2 are library ps a l.now yes same there before.2)
            | else-chosen-place w ↦
                let no : get_or flags i false ≡ false = search rules in
                (ps, rw w.living-is before.1, paired_same choice xs flags i x.0 x.2 are library ps no before.2)
          ]
      | inr m ↦ absurd (let past : length xs ≤ i = m.0 in omega (arith, within))
    ]

pub returns-in_default-get : goal.returns-in_default-get
returns-in_default-get g c choice are =
    let xs : List Assertion = (g.D.Declared.scope c.args.declared.now).assertions in
    let before = c.loop-place.invariant choice are in
    let ps = before.0 in
    let many : c.len.result ≡ length ps = omega (
      arith,
      c.len.ensures,
      c.loop-place.living.ok.0,
      as_many c.loop-place.living.items ps before.1,
    ) in
    let few : length c.args.database.now.assertions ≤ length ps =
    let past = rw c.assertions-assertions.ensures.value at c.in_default-get.ensures.lookup.3 in
    omega (arith, past, many) in
    before.1
    ∙ ap (map opened) (paired_past choice xs c.loop-place.place c.args.database.now.assertions ps few
    (rw (sym c.assertions-assertions.ensures.value) before.2))

pub returns : goal.returns
returns g c choice are =
    let xs : List Assertion = (g.D.Declared.scope c.args.declared.now).assertions in
    let before = c.loop-place.invariant choice are in
    let all : take c.loop-place.place xs ≡ xs = take_all c.loop-place.place xs (omega arith) in
    before.1 ∙ ap (map opened) (rw (sym c.assertions-assertions.ensures.value, sym all) before.2.pairs)
