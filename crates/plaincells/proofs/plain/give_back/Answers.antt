use Rattle.std.proofs.Common.{◌≡◌, ℕ, [], ◌++◌, length, refl, sym, ap, subst, ◌∙◌, arith}
use Rattle.std.proofs.lemmas.Grind.{common_steps}
use Rattle.std.proofs.lemmas.List.{length-set}
use Rattle.plaincells.specs.Plain.{undone, IsLogOf}
use Rattle.plaincells.proofs.Logs.{undone-push, logged_front, logged_last}
use Rattle.plaincells.proofs.plain.give_back.Goals as goal

pub loop-cell-init : goal.loop-cell-init
loop-cell-init c = (refl, c.requires)

pub bounds-values-cell : goal.bounds-values-cell
bounds-values-cell c =
    logged_last _ c.pop.new.self.items (c.in-Some.cell, c.in-Some.value) (subst (IsLogOf _) c.in-Some.ensures.items c.loop-cell.invariant.1)

pub loop-cell-preserved : goal.loop-cell-preserved
loop-cell-preserved c =
    let p : ℕ × ℕ = (c.in-Some.cell, c.in-Some.value) in
    let l = subst (IsLogOf (length c.loop-cell.values)) c.in-Some.ensures.items c.loop-cell.invariant.1 in
    let n = length-set c.loop-cell.values c.in-Some.cell c.in-Some.value in (
      sym (undone-push c.loop-cell.values c.pop.new.self.items p) ∙ sym (ap (undone c.loop-cell.values) c.in-Some.ensures.items)
          ∙ c.loop-cell.invariant.0,
      subst (λ m. IsLogOf m c.pop.new.self.items) (sym n) (logged_front _ c.pop.new.self.items p l),
    )

pub returns-clause-values : goal.returns-clause-values
returns-clause-values c =
    let none : c.pop.new.self.items ≡ [] = grind (arith, common_steps) in
    let before : c.loop-cell.log.items ≡ [] = c.in_default.ensures.items ∙ ap (λ ps. ps ++ []) none in
    sym (ap (undone c.loop-cell.values) before) ∙ c.loop-cell.invariant.0
