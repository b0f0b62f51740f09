-- What is left to show of `front_of`.
use Rattle.std.proofs.Common.{ℕ, List, sym, subst}
use Rattle.std.specs.Prelude.{All}
use Rattle.mmsyntax.specs.declared.statement.Symbol.{Symbol}
use Rattle.mmsyntax.specs.declared.statement.Symbol.TheVariants.{Var}
use Rattle.sourcewriting.specs.Added.{IsSpelled}
use Rattle.sourcewriting.proofs.Named.{refuted}
use Rattle.sourcewriting.proofs.adding.front_of.Goals as goal

pub returns-then-not-branch : goal.returns-then-not-branch
returns-then-not-branch c = λ has labels.
    let P : Symbol → Type 0 = IsSpelled c.args.words.now in
    let pairs = subst (λ (ps : List (ℕ × ℕ)). All (λ p. P (Var p.0) × P (Var p.1)) ps) (sym c.as_slice.ensures) has.pairs in
    absurd (refuted _ (c.in_ok-put_pairs.ensures pairs) c.if-not-branch.true)

pub returns-then-not-branch-2 : goal.returns-then-not-branch-2
returns-then-not-branch-2 c = λ has labels.
    let P : Symbol → Type 0 = IsSpelled c.args.words.now in
    let premises = subst (λ (es : List (List Symbol)). All (All P) es) (sym c.as_slice-2.ensures) has.premises in
    absurd (refuted _ (c.in_ok-put_premises.ensures premises labels) c.if-not-branch-2.true)
