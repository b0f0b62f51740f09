use Rattle.std.proofs.Common.{◌≡◌, [], ◌∷◌, length, arith}
use Rattle.std.proofs.lemmas.List.{map-append}
use Rattle.stepcheck.specs.Spans.{shown}
use Rattle.stepcheck.specs.declared.stack.Entry.TheVariants.{Lent}
use Rattle.stepcheck.proofs.Spans.{spans-push}
use Rattle.stepcheck.proofs.stack.Stack.lend.Goals as goal
use Rattle.stepcheck.proofs.stack.Stack.lend.Goals.{in-Ok, in-Err}

pub invariant_of-self : goal.invariant_of-self
invariant_of-self c =
    let s = c.self.inside.symbols.items in
    let below : c.len-below.result ≡ length s = omega arith in
    elim c.match-push.branch [
      | in-Ok w ↦ rw w.in-Ok.ensures.items (
          spans-push (length s) _ c.self.inside.entries.items (Lent c.len-below.result c.args.expression) c.self.invariant
          (omega (arith, below)) (omega arith) (omega (arith, below))
          )
      | in-Err w ↦ rw w.in-Err.ensures.items c.self.invariant
    ]

pub returns-clause-value : goal.returns-clause-value
returns-clause-value c =
    let s = c.self.inside.symbols.items in
    let ps = c.self.inside.entries.items in
    elim c.match-push.branch [
      | in-Ok w ↦ rw (w.result-is, w.in-Ok.ensures.items, ← c.self.view_is)
          (map-append (shown s) ps (Lent c.len-below.result c.args.expression ∷ []))
      | in-Err w ↦ rw w.result-is tt
    ]
