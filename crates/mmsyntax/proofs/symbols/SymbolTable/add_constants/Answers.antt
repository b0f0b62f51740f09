-- What is left to show of `add_constants`.
use Rattle.std.proofs.Common.{◌≡◌, ◌<◌, ◌∙◌, [], length, arith}
use Rattle.std.proofs.lemmas.List.{length-take-le}
use Rattle.mmsyntax.specs.Layout.{word_at}
use Rattle.mmsyntax.proofs.Copies.{item_at, constant_is_new, few_constants}
use Rattle.mmsyntax.proofs.symbols.SymbolTable.add_constants.Goals as goal

pub add_constant-requires-clause-new : goal.add_constant-requires-clause-new
add_constant-requires-clause-new c =
    let ws = c.args.from.now.constants in
    let item = item_at ws c.constants-name-items.result.now c.loop-name.name-index c.name-item.result [] c.constants-name-items.ensures
    c.name-item.is (omega arith) in
    let it : c.as_slice.result.now ≡ word_at ws c.loop-name.name-index = c.as_slice.ensures ∙ item.0 in
    rw (c.loop-name.invariant, it) (constant_is_new c.args.from.now c.requires.sound c.loop-name.name-index item.1)

pub add_constant-requires-clause-room : goal.add_constant-requires-clause-room
add_constant-requires-clause-room c =
    let ws = c.args.from.now.constants in
    let item = item_at ws c.constants-name-items.result.now c.loop-name.name-index c.name-item.result [] c.constants-name-items.ensures
    c.name-item.is (omega arith) in
    let within : c.loop-name.name-index < length ws = item.1 in
    rw (c.loop-name.invariant, length-take-le c.loop-name.name-index ws (omega arith))
    (omega (arith, few_constants c.args.from.now c.requires.sound))
