use Rattle.std.proofs.Common.{◌<◌, ◌-◌, ◌∙◌, ◌∷◌, [], ℕ, List, Bor, ap, arith, drop, length, map, sym, take}
use Rattle.std.specs.Prelude.{Vec}
use Rattle.std.specs.declared.alloc.Global.{Global}
use Rattle.program.proofs.EditedThen.{answered_for, first_and_rest}
use Rattle.program.proofs.edit.answer_texts.Goals as goal

pub returns : goal.returns
returns g c =
    let order = c.args.order.now in
    let texts = c.args.texts.now in
    let source = c.index-texts-0.result in
    let some : 0 < length texts = omega (arith, c.requires.any, c.requires.many) in
    let named = first_and_rest (λ (p : Bor (List ℕ)). p.now) order.paths.items (record { ref_ptr = (0, 0); now = [] }) c.requires.any in
    let are = first_and_rest (λ (t : Vec ℕ Global). t.items) texts source some
    ∙ ap (λ (t : Vec ℕ Global). t.items ∷ map (λ (u : Vec ℕ Global). u.items) (take (length texts - 1) (drop 1 texts)))
    (sym c.index-texts-0.is) in
    let asked = rw c.as_slice-source.ensures.value at (rw c.as_slice-paths.ensures.value at c.answer_edit.ensures) in
    let answer = rw (← sym c.is_some.ensures) at asked in
    answered_for _ _ _ source.items _ _ order.workers order.room c.args.outputs order.allowed c.answer_edit.result named are answer
