use Rattle.std.proofs.Common.{◌∷◌, ◌++◌, None, Some, inl, inr, option_map, refl, string_bytes}
use Rattle.outside.specs.Events.{leaving, says, writes}
use Rattle.conduct.specs.declared.manner.Manner.TheVariants.{Short}
use Rattle.conduct.specs.Telling.{left_said, trouble_line}
use Rattle.conduct.proofs.Behind.{adds_more}
use Rattle.conduct.proofs.job.save_and_print.Goals as goal

pub returns-in-Ok : goal.returns-in-Ok
returns-in-Ok g c =
    let told = c.print_out.ensures in
    (writes c.args.path.now c.args.history.now None ∷ told.0, adds_more c.in-Ok.ensures told.1, inl (told.0, refl, told.2))

pub returns-in-Err : goal.returns-in-Err
returns-in-Err g c =
    let why = c.in-Err.why in
    let left = option_map string_bytes why.left in
    let rest = leaving left ++ (says (trouble_line Short c.args.path.now why.trouble) ∷ left_said left) in (
      writes c.args.path.now c.args.history.now (Some why.trouble) ∷ rest,
      adds_more c.in-Err.ensures c.tell_unwritten.ensures.said,
      inr (why.trouble, rest, refl, record { left = left; said = refl; failed = c.tell_unwritten.ensures.status }),
    )
