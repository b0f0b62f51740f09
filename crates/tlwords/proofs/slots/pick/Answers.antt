use Rattle.std.proofs.Common.{arith, ◌++◌, None, [], ◌∷◌, length, take, slice_index_or, sym, ap, ◌∙◌}
use mathlib.Core.Bool.{beq}
use Rattle.std.specs.Vec.{vec_capacity}
use Rattle.std.proofs.lemmas.List.{length-take-le}
use Rattle.tlwords.specs.declared.slots.Entry.{Entry}
use Rattle.tlwords.specs.Entries.{picked}
use Rattle.tlwords.proofs.Plans.{picked_length, picked_next, picked_here, picked_else}
use Rattle.tlwords.proofs.slots.pick.Goals.{then-is_some-kept, else-is_some-kept}
use Rattle.tlwords.proofs.slots.pick.Goals as goal

pub push_reserved-requires : goal.push_reserved-requires
push_reserved-requires c =
    let i = c.loop-i.invariant in
    let a = ap length i.0 in
    let b = picked_length c.args.kept (take c.loop-i.i c.args.entries.now) in
    let d = length-take-le c.loop-i.i c.args.entries.now c.loop-i.auto.i-end in
    let e = c.loop-i-test.true in let f = i.1 in let g = c.requires in let h = c.loop-i.plan.ok.0 in let k = c.clear.ensures.capacity in
    omega arith

pub loop-i-preserved : goal.loop-i-preserved
loop-i-preserved c =
    let i = c.loop-i.invariant in
    let d : Entry = record { cell = 0; word = 0; kept = None } in
    let es = c.args.entries.now in
    let e = slice_index_or es c.loop-i.i d in
    let more = picked_next c.args.kept es c.loop-i.i d c.loop-i-test.true in
    elim c.if-is_some-kept.branch [
      | then-is_some-kept w ↦
          let p = w.push_reserved in (
            ap (λ v. v.items) w.plan-is ∙ (p.ensures.items ∙
                (ap (λ ts. ts ++ record { cell = e.cell; word = e.word; value = w.unwrap_or.result } ∷ []) i.0
                ∙ (picked_here c.args.kept (picked c.args.kept (take c.loop-i.i es)) e w.unwrap_or.result w.unwrap_or.ensures
                (ap (λ b. beq b c.args.kept) (sym c.is_some.ensures) ∙ w.if-is_some-kept.true) ∙ sym more))),
            ap (λ v. vec_capacity v) w.plan-is ∙ (p.ensures.capacity ∙ i.1),
          )
      | else-is_some-kept w ↦ (
        ap (λ v. v.items) w.plan-is ∙
            (i.0 ∙ (picked_else c.args.kept (picked c.args.kept (take c.loop-i.i es)) e
            (ap (λ b. beq b c.args.kept) (sym c.is_some.ensures) ∙ w.if-is_some-kept.false) ∙ sym more)),
        ap (λ v. vec_capacity v)
            w.plan-is ∙ i.1,
      )
    ]
