use Rattle.std.proofs.Common.{◌++◌, [], ℕ, List, Bor, Err, map, refl}
use Rattle.std.specs.Prelude.{is_some}
use Rattle.conduct.proofs.Behind.{adds_more}
use Rattle.program.proofs.Apart.{answer_told}
use Rattle.program.proofs.EditedThen.{first_and_rest}
use Rattle.program.proofs.edit.edit_files.Goals as goal

pub returns-in-Err : goal.returns-in-Err
returns-in-Err g c =
    let front = c.in-Err.ensures in
    let rest = c.tell_not_done.ensures in
    (front.0 ++ rest.0, adds_more front.1 rest.1, (front.0, rest.0, Err c.in-Err.why, refl, front.2, rest.2))

pub returns-in-Ok : goal.returns-in-Ok
returns-in-Ok g c =
    let front = c.in-Ok.ensures in
    let rest = rw c.as_slice.ensures.value at c.tell_edited.ensures in
    let order = c.args.order.now in
    let paths = map (λ (p : Bor (List ℕ)). p.now) order.paths.items in
    let named = first_and_rest (λ (p : Bor (List ℕ)). p.now) order.paths.items (record { ref_ptr = (0, 0); now = [] }) c.requires.any in (
      front.0 ++ rest.0,
      adds_more front.1 rest.1,
      answer_told (is_some c.args.keys) paths _ _ order.workers order.room c.args.outputs order.allowed front.0 rest.0 c.in-Ok.told
          c.tell_edited.result named front.2 rest.2,
    )
