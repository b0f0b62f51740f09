-- What is left to show of `kinds_then`.
use Rattle.std.proofs.Common.{ℕ, Option, sym, subst}
use Rattle.std.specs.Prelude.{IfOk, IfSome}
use Rattle.std.specs.Borrow.{Bor}
use Rattle.std.specs.Option.{option_map}
use Rattle.mmtext.specs.Words.{Word}
use Rattle.sourcewriting.specs.Counting.{IsCountOf}
use Rattle.sourceediting.specs.Entries.{HasHypotheses, HasOnly}
use Rattle.sourceediting.proofs.planning.kinds_then.Goals as goal

pub returns-in-None-clause-has : goal.returns-in-None-clause-has
returns-in-None-clause-has g c = λ e labelled prelude.
    let s = g.D.Declared.scope c.args.declared.now in
    subst (λ (o : Option (Bor Word)). IfOk c.kinds_of_added.result (λ made. IfSome made (λ kinds. (n : ℕ) → IsCountOf s kinds n
    → HasHypotheses s e c.args.followed.now.now.now (option_map (λ w. w.now) o) n)))
    (sym c.in-None.is) (c.kinds_of_added.ensures.has s e labelled prelude)

pub returns-in-None-clause-only : goal.returns-in-None-clause-only
returns-in-None-clause-only g c = λ e n all labelled prelude has.
    let s = g.D.Declared.scope c.args.declared.now in
    c.kinds_of_added.ensures.only s e n all labelled prelude
    (subst (λ (o : Option (Bor Word)). HasOnly s e c.args.followed.now.now.now (option_map (λ w. w.now) o) n) c.in-None.is has)

pub returns-in-Some-clause-only : goal.returns-in-Some-clause-only
returns-in-Some-clause-only g c = λ e n all labelled prelude has.
    let s = g.D.Declared.scope c.args.declared.now in
    c.kinds_in_source.ensures.only e c.args.followed.now.now.now n
    (subst (λ (o : Option (Bor Word)). HasOnly s e c.args.followed.now.now.now (option_map (λ w. w.now) o) n) c.in-Some.is has)
