-- What is left to show of `repeat`.
use Rattle.std.proofs.Common.{◌≡◌, ◌<◌, Some, length, refl, arith, slice_get}
use Rattle.std.proofs.lemmas.Option.{slice_get_read}
use Rattle.sourcecheck.proofs.Spans.{seen-repeat}
use Rattle.sourcecheck.proofs.stack.Stack.repeat.Goals as goal

pub returns : goal.returns
returns c =
    let ms = c.self.inside.marked.items in
    let lt : c.args.number < length ms = omega arith in
    let at : slice_get ms c.args.number ≡ Some c.index-span.result.now =
    slice_get_read ms _ c.args.number c.index-span.result.now refl lt c.index-span.ensures in
    rw (c.in_ok-push.ensures.items, ← c.self.view_is)
    (record {
      stack = seen-repeat c.self.inside.symbols.items c.self.inside.spans.items ms c.args.number c.index-span.result.now at;
      written = refl;
    })
