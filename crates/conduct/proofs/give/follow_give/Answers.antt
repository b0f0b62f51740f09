use Rattle.std.proofs.Common.{◌++◌, ◌∷◌, [], ℕ, codes, map, refl}
use Rattle.std.specs.Prelude.{is_some, Vec}
use Rattle.std.specs.declared.alloc.Global.{Global}
use Rattle.conduct.specs.declared.manner.Manner.TheVariants.{Full}
use Rattle.conduct.specs.Gives.{IsAnsweredGive}
use Rattle.conduct.specs.Reading.{AreReadThen}
use Rattle.outside.specs.Events.{says}
use Rattle.conduct.proofs.Behind.{adds_more, input_once, input_twice}
use Rattle.conduct.proofs.Followed.{all_read, one_unread}
use Rattle.conduct.proofs.give.follow_give.Goals as goal

pub returns-in-Err : goal.returns-in-Err
returns-in-Err g c =
    let read = c.in-Err.ensures in
    let told = c.tell_unread.ensures in
    let order = c.args.order in
    let paths = order.source.now ∷ order.library.now ∷ order.history.now ∷ [] in
    let given = IsAnsweredGive (is_some c.args.keys) paths in (
      read.0 ++ told.0,
      adds_more read.1 told.1,
      input_once paths (AreReadThen Full paths given) _ _ _ c.if-is_input_twice.ensures refl
          (one_unread Full given paths paths _ c.in-Err.unread read.0 told.0 c.tell_unread.result refl read.2
          told.2),
    )

pub returns : goal.returns
returns g c =
    let read = c.in_default.ensures in
    let rest = c.answer_given.ensures in
    let order = c.args.order in
    let paths = order.source.now ∷ order.library.now ∷ order.history.now ∷ [] in
    let given = IsAnsweredGive (is_some c.args.keys) paths in
    let texts = map (λ (t : Vec ℕ Global). t.items) c.read_all.new.texts.items in (
      read.0 ++ rest.0,
      adds_more read.1 rest.1,
      input_once paths (AreReadThen Full paths given) _ _ _ c.if-is_input_twice.ensures refl
          (all_read Full given paths paths texts read.0 rest.0 c.answer_given.result refl read.2.0 read.2.1
          (rw c.as_slice.ensures.value at rest.2)),
    )

pub returns-then-is_input_twice : goal.returns-then-is_input_twice
returns-then-is_input_twice g c =
    let order = c.args.order in
    let paths = order.source.now ∷ order.library.now ∷ order.history.now ∷ [] in
    let given = IsAnsweredGive (is_some c.args.keys) paths in (
      says (codes "- stands for the standard input, which is read once") ∷ [],
      c.misuse.ensures.said,
      input_twice paths (AreReadThen Full paths given) _ c.misuse.result _ c.if-is_input_twice.ensures refl
          (refl, c.misuse.ensures.status),
    )
