-- What is left to show of `take`.
use Rattle.std.proofs.Common.{◌≡◌, ◌∙◌, ◌<◌, ◌∷◌, ◌++◌, true, false, length, map, set, reverse, sym, subst, arith}
use Rattle.std.proofs.lemmas.Bool.Decides.{nat_tests}
use Rattle.taking.proofs.Turned.{if_ok}
use Rattle.sourcewriting.specs.Walked.{visit, IsWalking}
use Rattle.sourcewriting.proofs.Nodes.{arguments_below}
use Rattle.sourcewriting.proofs.Walked.{next_is, put_walks, open_walks, ended, leaf_put, put_again, opens, none_of, flag_at, if_three}
use Rattle.sourcewriting.proofs.walking.NodeWalk.take.Goals as goal
use Rattle.sourcewriting.proofs.walking.NodeWalk.take.Goals.{then-task-via-then-task, then-task-via-else-task+then-is_empty}
use Rattle.sourcewriting.proofs.walking.NodeWalk.take.Goals.{then-task-len-via-then-task-len, then-task-len-via-else-task-len+then-index}

pub returns-then-task-clause-walks : goal.returns-then-task-clause-walks
returns-then-task-clause-walks c = λ sound.
    let s = c.args.shared.now in
    let old = c.args.self.now in
    let t = c.args.task in
    let ts = reverse old.tasks.items in
    if_ok c.put.result
    (λ _ has.
    put_walks s old c.put.new.self t false has.0 has.1
    (λ w.
    elim c.then-task.branch [
      | then-task-via-then-task b ↦
          ended s old.puts.items old.opened.items t.node ts
          (next_is s old.puts.items old.opened.items t ts true b.if-task.true w)
      | then-task-via-else-task+then-is_empty b ↦
          let none : length c.arguments-arguments.result.now ≡ 0 = grind (arith, nat_tests, b.is_empty.ensures, b.if-is_empty.true) in
          leaf_put s old.puts.items old.opened.items t.node ts
          (sym (c.arguments-arguments.ensures.are sound) ∙ none_of c.arguments-arguments.result.now none)
          (next_is s old.puts.items old.opened.items t ts false b.if-task.false w)
    ]))
    c.put.ensures

pub returns-then-task-len-clause-walks : goal.returns-then-task-len-clause-walks
returns-then-task-len-clause-walks c = λ sound.
    let s = c.args.shared.now in
    let old = c.args.self.now in
    let t = c.args.task in
    let ts = reverse old.tasks.items in
    if_ok c.put-then-task-len.result
    (λ _ has.
    put_walks s old c.put-then-task-len.new.self t true has.0 has.1
    (λ w.
    let there : t.node < length s.nodes.items = w.are.0 in
    elim c.then-task-len.branch [
      | then-task-len-via-then-task-len b ↦ absurd (omega (arith, b.if-task-len.true, c.len.ensures, old.opened.ok.0, w.many, there))
      | then-task-len-via-else-task-len+then-index b ↦
          let within : t.node < length old.opened.items = omega (arith, w.many, there) in
          put_again s old.puts.items old.opened.items t.node ts
          (flag_at old.opened.items t.node b.index.result.now true within b.index.ensures b.if-index.true)
          (next_is s old.puts.items old.opened.items t ts false c.if-task.false w)
    ]))
    c.put-then-task-len.ensures

pub returns-clause-walks : goal.returns-clause-walks
returns-clause-walks c = λ sound.
    let s = c.args.shared.now in
    let old = c.args.self.now in
    let t = c.args.task in
    let ts = reverse old.tasks.items in
    let args = c.arguments-arguments.result.now in
    let are = c.arguments-arguments.ensures.are sound in
    let some : 0 < length args = grind (arith, nat_tests, c.is_empty.ensures, c.if-is_empty.false) in
    if_three c.open.result
    (λ _ puts opened tasks.
    open_walks s old c.open.new.self t args puts opened tasks
    (λ w.
    let there : t.node < length s.nodes.items = w.are.0 in
    let within : t.node < length old.opened.items = omega (arith, w.many, there) in
    let shut = flag_at old.opened.items t.node c.index.result.now false within c.index.ensures c.if-index.false in
    subst
    (λ xs. IsWalking s old.puts.items (set old.opened.items t.node true) (map visit xs ++ record { node = t.node; is_end = true } ∷ ts))
    (sym are)
    (opens s old.puts.items old.opened.items t.node ts shut (subst (λ xs. 0 < length xs) are some) (arguments_below s t.node sound there)
    (next_is s old.puts.items old.opened.items t ts false c.if-task.false w))))
    c.open.ensures.puts c.open.ensures.opened c.open.ensures.tasks
