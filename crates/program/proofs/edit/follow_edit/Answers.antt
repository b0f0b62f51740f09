use Rattle.std.proofs.Common.{◌∷◌, [], ℕ, List, Bor, None, Some, codes, map, refl}
use Rattle.std.specs.Prelude.{is_some}
use Rattle.outside.specs.Events.{says}
use Rattle.program.proofs.EditedThen.{one_place, two_places}
use Rattle.program.proofs.edit.follow_edit.Goals as goal

pub returns-in_default : goal.returns-in_default
returns-in_default g c =
    let order = c.args.order.now in
    let paths = map (λ (p : Bor (List ℕ)). p.now) order.paths.items in (
      says (codes "--in-place and --output do not go together") ∷ [],
      c.misuse.ensures.said,
      two_places (is_some c.args.keys) paths order.workers order.room order.outputs order.allowed _ c.misuse.result c.in_default.is
          (refl, c.misuse.ensures.status),
    )

pub returns-in-Some-misuse_of : goal.returns-in-Some-misuse_of
returns-in-Some-misuse_of g c =
    let order = c.args.order.now in
    let paths = map (λ (p : Bor (List ℕ)). p.now) order.paths.items in
    let line = c.in-Some-misuse_of.line.now in (
      says line ∷ [],
      c.misuse-in-Some-misuse_of.ensures.said,
      one_place (is_some c.args.keys) paths order.workers order.room order.outputs c.in-Some.outputs order.allowed _
          c.misuse-in-Some-misuse_of.result (Some line) c.in-Some.is (rw c.as_slice.ensures.value at c.in-Some-misuse_of.ensures)
          (refl, c.misuse-in-Some-misuse_of.ensures.status),
    )

pub returns-in-None : goal.returns-in-None
returns-in-None g c =
    let order = c.args.order.now in
    let paths = map (λ (p : Bor (List ℕ)). p.now) order.paths.items in
    let (es, did, edited) = c.edit_apart.ensures in (
      es,
      did,
      one_place (is_some c.args.keys) paths order.workers order.room order.outputs c.in-Some.outputs order.allowed es c.edit_apart.result
          None c.in-Some.is (rw c.as_slice.ensures.value at c.in-None.ensures) edited,
    )
