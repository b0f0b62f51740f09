use Rattle.std.proofs.Common.{◌≡◌, ℕ, List, Vec, Global, [], ◌∷◌, ◌++◌, ap, ◌∙◌, sym, subst, refl, get_or, arith}
use Rattle.std.specs.Prelude.{filter}
use Rattle.std.proofs.lemmas.List.{take_all}
use mathlib.Core.Bool.{not}
use Rattle.mmframes.proofs.Mandatory.{has}
use Rattle.cells.specs.Counts.{AreOnlyIn}
use Rattle.cells.proofs.Citing.{is_outside, found_among, outside_one, outside_none, are_only_in}
use Rattle.cells.proofs.counts.only_in.Goals as goal
use Rattle.cells.proofs.counts.only_in.Goals.{then-is_err+in_ok-push, else-is_err}

pub loop-slot-preserved : goal.loop-slot-preserved
loop-slot-preserved c =
    let slots = c.args.slots.now in
    let others = c.args.others.now in
    let i = c.loop-slot.slot-index in
    let x = get_or c.args.slots.now c.loop-slot.slot-index 0 in
    let found : has x others ≡ not c.is_err.result =
    sym (found_among c.args.others.now x c.binary_search.result c.requires.others c.binary_search.ensures.position)
    ∙ c.is_err.ensures.negation in
    elim c.if-is_err.branch [
      | then-is_err+in_ok-push w ↦
          ap (λ (v : Vec ℕ Global). v.items) w.only-is ∙ w.in_ok-push.ensures.items
          ∙ ap (λ (l : List ℕ). l ++ x ∷ []) c.loop-slot.invariant
          ∙ sym (outside_one others slots i x (omega arith) refl (found ∙ ap not w.if-is_err.true))
      | else-is_err w ↦
          ap (λ (v : Vec ℕ Global). v.items) w.only-is ∙ c.loop-slot.invariant
          ∙ sym (outside_none others slots i x (omega arith) refl (found ∙ ap not w.if-is_err.false))
    ]

pub returns : goal.returns
returns c =
    let slots = c.args.slots.now in
    let others = c.args.others.now in
    let made = c.loop-slot.invariant ∙ ap (filter (is_outside c.args.others.now))
    (take_all c.loop-slot.slot-index c.args.slots.now (omega arith)) in
    subst (AreOnlyIn c.args.slots.now c.args.others.now) (sym made) (are_only_in slots others c.requires.slots)
