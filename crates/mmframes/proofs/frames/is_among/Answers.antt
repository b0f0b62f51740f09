use Rattle.std.proofs.Common.{◌∙◌, arith}
use Rattle.std.proofs.lemmas.List.Sorted.{searched}
use Rattle.mmframes.proofs.Mandatory.{Rises-from, Rises-order, halved-has}
use Rattle.mmframes.proofs.frames.is_among.Goals as goal

pub returns : goal.returns
returns c =
    let xs = c.args.floats.now in
    let up = Rises-from 0 xs (λ lt. omega arith) c.requires in
    c.is_ok.ensures.value ∙ halved-has xs c.args.float c.binary_search.result
    (searched xs c.args.float c.binary_search.result c.binary_search.ensures.position (Rises-order 0 xs up))
