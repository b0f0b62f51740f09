use Rattle.std.proofs.Common.{ℕ, List, Bor, map}
use Rattle.std.specs.Prelude.{is_some, Vec}
use Rattle.std.specs.declared.alloc.Global.{Global}
use Rattle.conduct.specs.declared.manner.Manner.TheVariants.{Full}
use Rattle.conduct.proofs.Behind.{are_quiet}
use Rattle.program.proofs.EditedThen.{stopped_read}
use Rattle.program.proofs.edit.conclude_read.Goals as goal

pub returns : goal.returns
returns g c =
    let (es, did, read) = rw c.as_slice-paths.ensures.value at c.in_default.ensures in
    let paths = map (λ (p : Bor (List ℕ)). p.now) c.args.order.now.paths.items in
    let texts = map (λ (t : Vec ℕ Global). t.items) c.read_all.new.texts.items in
    (es, did, are_quiet Full paths texts es read.1)

pub returns-in-Err : goal.returns-in-Err
returns-in-Err g c =
    let (es, did, stopped) = rw c.as_slice-paths.ensures.value at c.in-Err.ensures in
    let order = c.args.order.now in
    let paths = map (λ (p : Bor (List ℕ)). p.now) order.paths.items in
    let texts = map (λ (t : Vec ℕ Global). t.items) c.read_all.new.texts.items in
    rw c.not_read.ensures (
      es,
      did,
      stopped_read (is_some c.args.keys) paths texts order.workers order.room c.args.outputs order.allowed es c.in-Err.unread stopped,
    )
