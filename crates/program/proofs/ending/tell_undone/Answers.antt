use Rattle.std.proofs.Common.{◌++◌, refl}
use Rattle.program.specs.Endings.{all_said}
use Rattle.conduct.proofs.Behind.{adds_more}
use Rattle.program.proofs.ending.tell_undone.Goals as goal

pub returns : goal.returns
returns g c =
    let account = c.args.account.now in
    let undone = rw c.as_slice.ensures.value at c.say_all.ensures in
    let put = rw c.as_ref-replies.ensures.value at c.put_replies-well.ensures in (
      all_said account.undone.items ++ put.0,
      adds_more undone put.1,
      record { rest = put.0; each = refl; well = c.put_replies-well.result; replied = put.2; ends = c.status_if.ensures },
    )
