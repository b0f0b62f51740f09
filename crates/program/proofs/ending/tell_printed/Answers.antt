use Rattle.std.proofs.Common.{◌++◌, ◌∙◌, ap, refl}
use Rattle.program.specs.Endings.{all_said, status_if, undone_status}
use Rattle.conduct.proofs.Behind.{adds_more}
use Rattle.program.proofs.ending.tell_printed.Goals as goal

pub returns : goal.returns
returns g c =
    let account = c.args.account.now in
    let undone = rw c.as_slice-undone.ensures.value at c.say_all.ensures in
    let spoken = rw c.as_slice.ensures.value at c.say_all-2.ensures in
    let put = c.put_at-written.ensures in
    let noted = rw c.is_ok-is_written.ensures.value at c.note_if.ensures in
    let replied = rw c.is_ok-is_written.ensures.value at (rw c.as_ref-replies.ensures.value at c.put_replies-well.ensures) in (
      all_said account.undone.items ++ (all_said account.spoken.items ++ (put.0 ++ (noted.0 ++ replied.0))),
      adds_more undone (adds_more spoken (adds_more put.1 (adds_more noted.1 replied.1))),
      record {
        put = put.0;
        noted = noted.0;
        rest = replied.0;
        each = refl;
        written = c.put_at-written.result;
        is_put = put.2;
        is_noted = noted.2;
        well = c.put_replies-well.result;
        replied = replied.2;
        ends =
            c.status_if.ensures
            ∙ ap (status_if c.put_at-written.result c.put_replies-well.result)
            (c.undone_status.ensures ∙ ap undone_status c.as_slice-undone.ensures.value);
      },
    )
