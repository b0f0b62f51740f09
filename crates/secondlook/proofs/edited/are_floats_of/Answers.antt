-- What is left to show of `are_floats_of`.
use Rattle.std.proofs.Common.{◌≡◌, ◌∙◌, true, false, take, sym, subst, refl, List, arith, rules}
use Rattle.std.specs.Prelude.{All, IsTrue}
use Rattle.std.proofs.lemmas.List.{take_all}
use Rattle.std.proofs.lemmas.List.Elements.{All-more}
use Rattle.mmsyntax.specs.declared.statement.Float.{Float}
use Rattle.secondlook.specs.Again.{IsFloatOf}
use Rattle.secondlook.proofs.edited.are_floats_of.Goals as goal

pub loop-float-preserved : goal.loop-float-preserved
loop-float-preserved c =
    let is : Float → Type 0 = IsFloatOf c.args.prelude.now c.args.other.now in
    let f = c.float-item.result in
    let yes : IsTrue c.is_float_of.result = search rules in
    All-more is c.floats-float-items.result.now c.loop-float.float-index f c.loop-float-test.true c.loop-float.invariant
    (subst is c.float-item.is (c.is_float_of.ensures.0 yes))

pub returns : goal.returns
returns c = (
  λ yes.
      let xs = c.floats-float-items.result.now in
      let k = c.loop-float.float-index in
      let all : take k xs ≡ xs = take_all k xs (omega arith) in
      subst (λ (fs : List Float). All (IsFloatOf c.args.prelude.now c.args.other.now) fs) (all ∙ c.floats-float-items.ensures.value)
      c.loop-float.invariant,
  λ all. refl,
)

pub returns-then-not-is_float_of : goal.returns-then-not-is_float_of
returns-then-not-is_float_of c =
    let xs = c.floats-float-items.result.now in
    let f = c.float-item.result in
    let is : Float → Type 0 = IsFloatOf c.args.prelude.now c.args.other.now in
    let isnt : c.is_float_of.result ≡ false = search rules in (
      λ yes. absurd cc,
      λ all.
          let here : All is xs = subst (All is) (sym c.floats-float-items.ensures.value) all in
          let one : IsTrue c.is_float_of.result =
          c.is_float_of.ensures.1 (subst is (sym c.float-item.is) (here c.loop-float.float-index f c.loop-float-test.true)) in
          absurd (let e : false ≡ true = sym isnt ∙ one in cc),
    )
