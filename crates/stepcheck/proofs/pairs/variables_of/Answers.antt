use Rattle.std.proofs.Common.{sym, ap, ◌∙◌, eqb}
use Rattle.std.proofs.lemmas.List.Filters.{dedup_is}
use Rattle.stepcheck.proofs.Apart.{found_more, found_all, noted, noted_none}
use Rattle.stepcheck.proofs.Replaced.{same-variables}
use Rattle.stepcheck.proofs.pairs.variables_of.Goals as goal
use Rattle.stepcheck.proofs.pairs.variables_of.Goals.{in-Var+in_ok-push, in_default}

pub loop-symbol-preserved : goal.loop-symbol-preserved
loop-symbol-preserved c =
    let here = c.symbol.ensures ∙ c.symbol-item.is in
    found_more c.loop-symbol.found.items c.match-symbol.found.items c.args.symbols.now c.loop-symbol.symbol-index c.symbol-item.result
    c.loop-symbol-test.true c.loop-symbol.invariant
    (elim c.match-symbol.branch [
      | in-Var+in_ok-push w ↦
          noted _ _ _ w.in-Var.variable (sym here ∙ w.in-Var.is) (ap (λ v. v.items) w.found-is ∙ w.in_ok-push.ensures.items)
      | in_default w ↦ noted_none _ _ _ (λ v is. w.in_default.not-Var v (here ∙ is)) (ap (λ v. v.items) w.found-is)
    ])

pub returns : goal.returns
returns c =
    same-variables c.loop-symbol.found.items c.sort_unstable.new.self.items c.dedup.new.self.items c.args.symbols.now
    (found_all _ c.args.symbols.now c.loop-symbol.symbol-index c.loop-symbol-test.false c.loop-symbol.auto.symbol-index-end
    c.loop-symbol.invariant) c.sort_unstable.ensures.permutation (dedup_is eqb _ _ c.dedup.ensures.filtered)
