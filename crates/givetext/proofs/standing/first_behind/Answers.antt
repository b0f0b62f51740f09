-- What is left to show of `first_behind`.
use Rattle.std.proofs.Common.{◌≡◌, ◌∙◌, ◌≤◌, List, Option, inl, inr, length, sym, ap, subst, arith}
use Rattle.std.specs.Prelude.{IfSome, Vec}
use Rattle.std.specs.declared.alloc.Global.{Global}
use Rattle.std.proofs.lemmas.Option.{slice_get_cases}
use Rattle.mmtext.specs.Words.{Word}
use Rattle.source.specs.Scopes.{Assertion}
use Rattle.giving.specs.Staying.{changed}
use Rattle.items.specs.declared.reading.Item.{Item as Found}
use Rattle.items.specs.Reading.{AreItems}
use Rattle.sourceediting.proofs.Origins.{label_is}
use Rattle.sourceediting.proofs.Others.{other_there}
use Rattle.givetext.specs.Causes.{StandInOrder}
use Rattle.givetext.specs.Parts.{AreNumbers, NamesLater}
use Rattle.givetext.proofs.Orders.{stand_in_order}
use Rattle.givetext.proofs.standing.first_behind.Goals as goal

pub returns-in-Some-first_behind_at : goal.returns-in-Some-first_behind_at
returns-in-Some-first_behind_at g c =
    let out = c.args.out.now in
    let xs : List Assertion = (g.D.Declared.scope c.args.declared.now).assertions in
    let own = c.args.own.now in
    let cs = c.args.changes.now in
    let i = c.loop-place.place in
    let fs = c.in-Some.items.items in
    let are : AreItems out fs =
    subst (λ (o : Option (Vec Found Global)). IfSome o (λ found. AreItems out found.items)) c.in-Some.is c.in_ok-items.ensures.found in
    let numbers : AreNumbers fs c.in_ok-places.places =
    subst (λ (gs : List Found). AreNumbers gs c.in_ok-places.places) c.as_slice.ensures.value c.in_ok-places.ensures in
    let label = c.in-Some-first_behind_at.label.now in
    let by = c.in-Some-label.by in
    let first = c.label_then-in-Some-first_behind_at.result.now in
    let second = c.label_then.result.now in
    elim (slice_get_cases xs i).1 [
      | inl x ↦
          let names : NamesLater cs fs label x.0 = c.in-Some-first_behind_at.ensures fs x.0 numbers x.2 in
          let mine : by.now ≡ x.0.label = label_is by c.label.result x.0 _ c.in-Some-label.is c.label.ensures x.2 in
          let then : changed cs x.0.label ≡ first = ap (changed cs) (sym mine) ∙ sym c.label_then-in-Some-first_behind_at.ensures in
          let cited : changed cs label ≡ second = sym c.label_then.ensures in (
            subst (λ (l : Word). StandInOrder out l second) then
                (subst (StandInOrder out (changed cs x.0.label)) cited
                (stand_in_order out fs are.0 are.1 (changed cs x.0.label) (changed cs label) names.1)),
            record {
              citing = x.0;
              there = other_there own xs i x.0 c.loop-place-test.true x.2 c.if-is_own.false;
              is = then;
              cited = label;
              named = names.0;
              now = cited;
            },
          )
      | inr m ↦ absurd (let past : length xs ≤ i = m.0 in omega (arith, c.requires))
    ]
