use Rattle.std.proofs.Common.{◌-◌, length, take}
use Rattle.arranging.proofs.Depths.{last_of}
use Rattle.arranging.proofs.checking.is_described.Goals as goal

pub returns-in-len1-up : goal.returns-in-len1-up
returns-in-len1-up c = λ is.
    let ps = c.args.parts.now in
    let last = last_of ps c.in-len1-up.len_at_least in
    (last.0, take (length ps - 1) ps, last.1, c.is_description.ensures is)
