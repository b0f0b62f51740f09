-- What is left to show of `other_at`.
use Rattle.std.proofs.Common.{◌≡◌, ◌∙◌, ◌≤◌, List, inl, inr, length, sym, ap, arith}
use Rattle.std.specs.Prelude.{slice_get}
use Rattle.std.specs.Option.{option_map}
use Rattle.std.proofs.lemmas.Option.{slice_get_cases}
use Rattle.source.specs.Scopes.{Assertion}
use Rattle.giving.specs.Staying.{others}
use Rattle.givetext.proofs.Numbers.{found_past, found_later, found_here}
use Rattle.givetext.proofs.again.other_at.Goals as goal

pub loop-place-preserved-then-is_own : goal.loop-place-preserved-then-is_own
loop-place-preserved-then-is_own g c =
    let xs : List Assertion = (g.D.Declared.scope c.args.declared.now).assertions in
    let own = c.args.own.now in
    let i = c.loop-place.place in
    elim (slice_get_cases xs i).1 [
      | inl x ↦
          found_past own xs i c.loop-place.left (slice_get (others own xs) c.args.number) c.loop-place.invariant x.0
          c.loop-place-test.true x.2 c.if-is_own.true
      | inr m ↦ absurd (let past : length xs ≤ i = m.0 in omega (arith, c.requires))
    ]

pub loop-place-preserved : goal.loop-place-preserved
loop-place-preserved g c =
    let xs : List Assertion = (g.D.Declared.scope c.args.declared.now).assertions in
    let own = c.args.own.now in
    let i = c.loop-place.place in
    let some : c.loop-place.left ≡ 0 → ⊥ = λ e. c.if-left-eq0.false e in
    elim (slice_get_cases xs i).1 [
      | inl x ↦
          found_later own xs i c.loop-place.left (slice_get (others own xs) c.args.number) c.loop-place.invariant x.0
          c.loop-place-test.true x.2 c.if-is_own.false some
      | inr m ↦ absurd (let past : length xs ≤ i = m.0 in omega (arith, c.requires))
    ]

pub returns-then-left-eq0 : goal.returns-then-left-eq0
returns-then-left-eq0 g c =
    let xs : List Assertion = (g.D.Declared.scope c.args.declared.now).assertions in
    let own = c.args.own.now in
    let i = c.loop-place.place in
    elim (slice_get_cases xs i).1 [
      | inl x ↦
          c.label.ensures
          ∙ ap (option_map (λ (x : Assertion). x.label)) (x.2
          ∙ sym (found_here own xs i c.loop-place.left (slice_get (others own xs) c.args.number) c.loop-place.invariant x.0
          c.loop-place-test.true x.2 c.if-is_own.false c.if-left-eq0.true))
      | inr m ↦ absurd (let past : length xs ≤ i = m.0 in omega (arith, c.requires))
    ]
