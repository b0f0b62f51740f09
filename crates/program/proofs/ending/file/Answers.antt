use Rattle.std.proofs.Common.{◌∷◌, ◌++◌, Some, option_map, refl, string_bytes}
use Rattle.outside.specs.Events.{leaving, writes, says}
use Rattle.conduct.specs.declared.manner.Manner.TheVariants.{Full}
use Rattle.conduct.specs.Telling.{left_said, trouble_line}
use Rattle.conduct.proofs.Behind.{adds_more}
use Rattle.program.proofs.ending.file.Goals as goal

pub returns-in-Err : goal.returns-in-Err
returns-in-Err g c =
    let path = c.args.path.now in
    let why = c.in-Err.why in
    let left = option_map string_bytes why.left in
    let rest = leaving left ++ (says (trouble_line Full path why.trouble) ∷ left_said left) in (
      writes path c.args.text.now (Some why.trouble) ∷ rest,
      adds_more c.in-Err.ensures c.tell_unwritten.ensures.said,
      (why.trouble, rest, refl, record { left = left; said = refl; failed = refl }),
    )
