-- What is left to show of `has_clash`.
use Rattle.std.proofs.Common.{rules}
use Rattle.mmunits.proofs.LabelMaps.{looked_up, not_looked_up, clash_before, clash_behind}
use Rattle.mmunits.proofs.known.Units.has_clash.Goals as goal
use Rattle.mmunits.proofs.known.Units.has_clash.Goals.{then-trunk-word, else-trunk-word}

pub returns-then-has_assertion : goal.returns-then-has_assertion
returns-then-has_assertion c =
    let xs = c.args.self.now.assertions in
    let w = c.args.word.now in
    let front = c.trunk-trunk.result.now in
    clash_before xs w c.if-trunk-word.value
    (elim c.if-trunk-word.branch [
      | then-trunk-word b ↦ looked_up xs w front c.if-trunk-word.value c.trunk-trunk.ensures b.if-trunk-word.true (search rules)
      | else-trunk-word b ↦ not_looked_up xs w front c.if-trunk-word.value c.trunk-trunk.ensures b.if-trunk-word.false b.value-is
    ])
    c.if-has_assertion.true

pub returns-else-has_assertion : goal.returns-else-has_assertion
returns-else-has_assertion c =
    let xs = c.args.self.now.assertions in
    let w = c.args.word.now in
    let front = c.trunk-trunk.result.now in
    clash_behind xs w c.if-trunk-word.value c.contains_key.result
    (elim c.if-trunk-word.branch [
      | then-trunk-word b ↦ looked_up xs w front c.if-trunk-word.value c.trunk-trunk.ensures b.if-trunk-word.true (search rules)
      | else-trunk-word b ↦ not_looked_up xs w front c.if-trunk-word.value c.trunk-trunk.ensures b.if-trunk-word.false b.value-is
    ])
    c.if-has_assertion.false
    (search rules)
