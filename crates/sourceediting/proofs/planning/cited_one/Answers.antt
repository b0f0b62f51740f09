-- What is left to show of `cited_one`.
use Rattle.std.proofs.Common.{ℕ, Option, subst}
use Rattle.std.specs.Prelude.{IfSome}
use Rattle.std.specs.Option.{option_map}
use Rattle.sourcewriting.specs.declared.listing.Kinds.{Kinds}
use Rattle.sourcewriting.specs.Counting.{IsCountOf}
use Rattle.sourceediting.specs.Entries.{HasHypotheses}
use Rattle.sourceediting.proofs.planning.cited_one.Goals as goal

pub returns-clause-has : goal.returns-clause-has
returns-clause-has g c = λ e labelled prelude.
    let s = g.D.Declared.scope c.args.declared.now in
    let f = c.args.followed.now in
    record {
      labelled = c.label_then-label.ensures;
      many =
          subst (λ (o : Option Kinds). IfSome o (λ kinds. (n : ℕ) → IsCountOf s kinds n
          → HasHypotheses s e f.now.now (option_map (λ w. w.now) f.source) n)) c.in-Some.is (c.in_ok-kinds.ensures.has e labelled prelude);
    }
