-- What is left to show of `size_over`.
use Rattle.std.proofs.Common.{◌≡◌, ◌+◌, ◌++◌, ◌∷◌, [], take, get_or, ap, ◌∙◌, sym, add-one}
use Rattle.std.specs.Prelude.{min}
use Rattle.std.proofs.Math.Seq.{take-suc}
use Rattle.taking.specs.Nodes.{sizes}
use Rattle.taking.specs.Views.{size_over}
use Rattle.taking.proofs.Kept.{size_more}
use Rattle.taking.proofs.nodes.Nodes.size_over.Goals as goal

pub loop-place-preserved : goal.loop-place-preserved
loop-place-preserved c =
    let l = c.loop-place in
    let k = get_or c.args.arguments.now l.place-index 0 in
    let e : take (l.place-index + 1) c.args.arguments.now ≡ take l.place-index c.args.arguments.now ++ k ∷ [] =
    rw add-one (take-suc c.args.arguments.now l.place-index 0 c.loop-place-test.true) in
    let m = size_more (sizes c.args.self.now) (take l.place-index c.args.arguments.now) k c.size.result c.size.ensures in
    c.min-size.ensures
    ∙ ap (λ n. min (n + c.size.result) 16385) l.invariant
    ∙ sym m
    ∙ ap (size_over c.args.self.now) (sym e)
