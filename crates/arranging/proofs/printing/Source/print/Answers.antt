-- What is left to show of `print`.
use Rattle.std.proofs.Common.{◌≡◌, ◌≤◌, ◌∙◌, ◌+◌, ◌-◌, ◌++◌, [], length, take, drop, get_or, refl, sym, ap, subst, arith, append_assoc}
use Rattle.std.specs.Prelude.{IfSome, MatchOption}
use Rattle.std.proofs.Math.Seq.{drop-length}
use Rattle.std.proofs.lemmas.List.{take_rest, drop_all, drop_more, length-drop}
use Rattle.items.specs.Machine.{IsPut}
use Rattle.items.specs.Bare.{HasBare}
use Rattle.items.proofs.Found.{many_found, spells_found}
use Rattle.arranging.specs.Arranged.{Says, IsLayout}
use Rattle.arranging.specs.declared.coming.Placed.TheVariants.{Stays}
use Rattle.arranging.specs.Printing.{SaysNext}
use Rattle.arranging.proofs.printing.Source.print.Goals as goal

pub returns-clause-printed : goal.returns-clause-printed
returns-clause-printed c = λ old h.
    let text = c.args.self.text.now in
    let fs = c.args.self.items.now in
    let cs = c.args.self.changes.now in
    let proofs = c.args.self.proofs.now in
    let layout = c.args.layout.now in
    let rest = drop c.behind.result text in
    let many = many_found text 0 fs old h in
    let enough = c.if-place-self.false in
    let place : length old ≤ c.loop-placed.place = omega (arith, many, enough) in
    let all : c.loop-placed.placed-index ≡ length layout = omega arith in
    let none = ap (λ n. drop n layout) all ∙ drop-length layout in
    let left = drop_all c.loop-placed.place old place in (
      rest,
      spells_found text fs old c.behind.result h (c.behind.ensures.behind old h),
      subst (Says cs proofs old rest old layout)
          (sym (c.in_ok-extend_from_slice.ensures.items ∙ ap (λ o. c.loop-placed.out.items ++ o) (take_rest text c.behind.result)))
          (c.loop-placed.invariant.said old rest rest h
          (subst (λ ps. Says cs proofs old rest (drop c.loop-placed.place old) ps rest) (sym none) (left, refl))),
    )

pub loop-placed-preserved : goal.loop-placed-preserved
loop-placed-preserved c =
    let text = c.args.self.text.now in
    let layout = c.args.layout.now in
    let i = c.loop-placed.placed-index in
    let next = drop_more layout i Stays c.loop-placed-test.true in record {
      said = λ old rest later found h.
          let put =
          subst (λ made. IfSome made (λ n. IsPut c.loop-placed.out.items c.put.new.out.items
          (SaysNext c.args.self.changes.now c.args.self.proofs.now old (get_or layout i Stays) c.loop-placed.place n))) c.in-Some.is
          (c.in_ok-next.ensures.put old found) in
          subst (Says c.args.self.changes.now c.args.self.proofs.now old rest old layout)
          (sym (ap (λ o. o ++ later) put.1 ∙ append_assoc c.loop-placed.out.items put.0 later))
          (c.loop-placed.invariant.said old rest (put.0 ++ later) found
          (subst (λ ps. Says c.args.self.changes.now c.args.self.proofs.now old rest (drop c.loop-placed.place old) ps (put.0 ++ later))
          (sym next) (put.2 rest (drop (i + 1) layout) later h)));
      left = λ e old found h.
          subst (λ made. MatchOption made (HasBare c.args.self.proofs.now text)
          (λ n. IsLayout e (take n old) (drop n old) (drop (i + 1) layout))) c.in-Some.is
          (c.in_ok-next.ensures.bare e old (drop (i + 1) layout) found
          (subst (λ ps. IsLayout e (take c.loop-placed.place old) (drop c.loop-placed.place old) ps) next
          (c.loop-placed.invariant.left e old found h)));
    }

pub returns-in_default-clause-bare : goal.returns-in_default-clause-bare
returns-in_default-clause-bare c = λ e old found h.
    let text = c.args.self.text.now in
    let layout = c.args.layout.now in
    let i = c.loop-placed.placed-index in
    subst (λ made. MatchOption made (HasBare c.args.self.proofs.now text) (λ n. IsLayout e (take n old) (drop n old) (drop (i + 1) layout)))
    c.in_default.is
    (c.in_ok-next.ensures.bare e old (drop (i + 1) layout) found
    (subst (λ ps. IsLayout e (take c.loop-placed.place old) (drop c.loop-placed.place old) ps)
    (drop_more layout i Stays c.loop-placed-test.true) (c.loop-placed.invariant.left e old found h)))

pub returns-then-place-self-clause-bare : goal.returns-then-place-self-clause-bare
returns-then-place-self-clause-bare c = λ e old found h.
    let place = c.loop-placed.place in
    let many = many_found c.args.self.text.now 0 c.args.self.items.now old found in
    let few = c.if-place-self.true in
    let none = drop_all c.loop-placed.placed-index c.args.layout.now c.loop-placed-test.false in
    let left : drop place old ≡ [] =
    subst (λ ps. IsLayout e (take place old) (drop place old) ps) none (c.loop-placed.invariant.left e old found h) in
    let count : length old - place ≡ 0 = sym (length-drop place old) ∙ ap length left in
    absurd (omega (arith, many, few, count))
