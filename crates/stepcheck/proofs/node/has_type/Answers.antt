use Rattle.std.proofs.Common.{◌≡◌, None, Some, refl, sym, ap, ◌∙◌}
use Rattle.std.specs.Prelude.{slice_get}
use Rattle.std.specs.Option.{option_copied}
use Rattle.std.proofs.lemmas.Bool.{eqb-true, eq-eqb}
use Rattle.std.proofs.lemmas.Option.{slice_get_read, slice_get_past}
use Rattle.mmsyntax.specs.declared.statement.Symbol.TheVariants.{Const, Var}
use Rattle.stepcheck.proofs.node.has_type.Goals as goal

pub returns-then-place-floats : goal.returns-then-place-floats
returns-then-place-floats c =
    let none : slice_get c.args.prelude.now.floats c.args.float ≡ None =
    rw c.floats-floats.ensures.value at (slice_get_past c.floats-floats.result.now c.args.float c.if-place-floats.true) in
    (λ t. cc, λ h. let some = h.1 in cc)

pub returns-in-None : goal.returns-in-None
returns-in-None c =
    let none = sym c.first.ensures.value ∙ ap option_copied c.in-None.is in (λ t. cc, λ h. let some = h.2 in cc)

pub returns-in-Const : goal.returns-in-Const
returns-in-Const c =
    let typed = c.index-floats-place.result in
    let here : slice_get c.args.prelude.now.floats c.args.float ≡ Some typed = rw c.floats-floats.ensures.value at
    (slice_get_read c.floats-floats.result.now _ c.args.float typed refl c.if-place-floats.false c.index-floats-place.is) in
    let first : slice_get c.args.symbols.now 0 ≡ Some (Const c.in-Const.c) =
    sym c.first.ensures.value ∙ ap option_copied c.in-Some.is ∙ ap Some (sym c.in-Const.ensures) in (
      λ same. (typed, here, first ∙ ap (λ n. Some (Const n)) (eqb-true _ _ same)),
      λ h. let there = h.1 in let symbol = h.2 in eq-eqb c.in-Const.c typed.type_code cc,
    )

pub returns-in-Var : goal.returns-in-Var
returns-in-Var c =
    let first : slice_get c.args.symbols.now 0 ≡ Some (Var c.in-Var.field-0) =
    sym c.first.ensures.value ∙ ap option_copied c.in-Some.is ∙ ap Some (sym c.in-Var.ensures) in
    (λ t. cc, λ h. let symbol = h.2 in cc)
