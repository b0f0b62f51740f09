-- What is left to show of `add_floats`.
use Rattle.std.proofs.Common.{◌≡◌, ◌<◌, ◌∙◌, [], length, arith}
use Rattle.std.proofs.lemmas.List.{length-take-le}
use Rattle.mmsyntax.specs.Layout.{word_at, no_float}
use Rattle.mmsyntax.proofs.Copies.{item_at, float_label_is_new, float_variable_is_free, float_variable_within, few_floats}
use Rattle.mmsyntax.proofs.symbols.SymbolTable.add_floats.Goals as goal

pub bounds-variables-float : goal.bounds-variables-float
bounds-variables-float c =
    let t = c.args.from.now in
    let item = item_at t.floats c.floats-float-items.result.now c.loop-float.float-index c.float-item.result no_float
    c.floats-float-items.ensures c.float-item.is (omega arith) in
    rw c.variables.ensures (float_variable_within t c.requires.sound c.loop-float.float-index c.float-item.result item.1 item.0)

pub add_float-requires-clause-new : goal.add_float-requires-clause-new
add_float-requires-clause-new c =
    let t = c.args.from.now in
    let item = item_at t.floats c.floats-float-items.result.now c.loop-float.float-index c.float-item.result no_float
    c.floats-float-items.ensures c.float-item.is (omega arith) in
    rw (c.loop-float.invariant, c.as_slice.ensures) (float_label_is_new t c.requires.sound c.loop-float.float-index c.float-item.result
    item.1 item.0)

pub add_float-requires-clause-variable : goal.add_float-requires-clause-variable
add_float-requires-clause-variable c =
    let t = c.args.from.now in
    let item = item_at t.floats c.floats-float-items.result.now c.loop-float.float-index c.float-item.result no_float
    c.floats-float-items.ensures c.float-item.is (omega arith) in
    let v = c.float-item.result.variable in
    let within : v < length t.variables = float_variable_within t c.requires.sound c.loop-float.float-index c.float-item.result item.1
    item.0 in
    let at = item_at t.variables c.variables.result.now v c.index-variables-float.result [] c.variables.ensures c.index-variables-float.is
    (rw c.variables.ensures within) in
    let word : c.as_slice-word.result.now ≡ word_at t.variables v = c.as_slice-word.ensures ∙ at.0 in
    rw (c.loop-float.invariant, word) (float_variable_is_free t c.requires.sound c.loop-float.float-index c.float-item.result item.1 item.0)

pub add_float-requires-clause-room : goal.add_float-requires-clause-room
add_float-requires-clause-room c =
    let t = c.args.from.now in
    let item = item_at t.floats c.floats-float-items.result.now c.loop-float.float-index c.float-item.result no_float
    c.floats-float-items.ensures c.float-item.is (omega arith) in
    let within : c.loop-float.float-index < length t.floats = item.1 in
    rw (c.loop-float.invariant, length-take-le c.loop-float.float-index t.floats (omega arith))
    (omega (arith, few_floats t c.requires.sound))
