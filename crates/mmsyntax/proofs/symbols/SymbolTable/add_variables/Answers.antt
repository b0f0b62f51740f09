-- What is left to show of `add_variables`.
use Rattle.std.proofs.Common.{◌≡◌, ◌<◌, ◌∙◌, [], length, arith}
use Rattle.std.proofs.lemmas.List.{length-take-le}
use Rattle.mmsyntax.specs.Layout.{word_at}
use Rattle.mmsyntax.proofs.Copies.{item_at, variable_is_new, few_variables}
use Rattle.mmsyntax.proofs.symbols.SymbolTable.add_variables.Goals as goal

pub add_variable-requires-clause-new : goal.add_variable-requires-clause-new
add_variable-requires-clause-new c =
    let ws = c.args.from.now.variables in
    let item = item_at ws c.variables-name-items.result.now c.loop-name.name-index c.name-item.result [] c.variables-name-items.ensures
    c.name-item.is (omega arith) in
    let it : c.as_slice.result.now ≡ word_at ws c.loop-name.name-index = c.as_slice.ensures ∙ item.0 in
    rw (c.loop-name.invariant, it) (variable_is_new c.args.from.now c.requires.sound c.loop-name.name-index item.1)

pub add_variable-requires-clause-room : goal.add_variable-requires-clause-room
add_variable-requires-clause-room c =
    let ws = c.args.from.now.variables in
    let item = item_at ws c.variables-name-items.result.now c.loop-name.name-index c.name-item.result [] c.variables-name-items.ensures
    c.name-item.is (omega arith) in
    let within : c.loop-name.name-index < length ws = item.1 in
    rw (c.loop-name.invariant, length-take-le c.loop-name.name-index ws (omega arith))
    (omega (arith, few_variables c.args.from.now c.requires.sound))
