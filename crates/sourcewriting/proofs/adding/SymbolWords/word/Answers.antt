-- What is left to show of `word`.
use Rattle.std.proofs.Common.{ℕ, List, IsTrue, sym, subst}
use Rattle.std.specs.Prelude.{IfSome, slice_get}
use Rattle.std.specs.Borrow.{Bor}
use Rattle.source.specs.Views.{seen_words}
use Rattle.items.specs.Layout.{is_word}
use Rattle.sourcewriting.specs.Added.{IsSpelled}
use Rattle.sourcewriting.proofs.Added.{spelled_at}
use Rattle.sourcewriting.proofs.adding.SymbolWords.word.Goals as goal

pub returns-in-Const : goal.returns-in-Const
returns-in-Const c = λ spelled.
    let i = c.in-Const.place in
    let here = subst (IsSpelled c.args.self.now) c.in-Const.is spelled in
    let at = subst (λ (ws : List (Bor (List ℕ))). IfSome (slice_get (seen_words ws) i) (λ w. IsTrue (is_word w)))
    (sym c.as_slice.ensures.value) here in
    subst (λ w. IsTrue (is_word w)) (sym c.word_at.ensures) (spelled_at (seen_words c.as_slice.result.now) i at)

pub returns-in-Var : goal.returns-in-Var
returns-in-Var c = λ spelled.
    let i = c.in-Var.place in
    let here = subst (IsSpelled c.args.self.now) c.in-Var.is spelled in
    let at = subst (λ (ws : List (Bor (List ℕ))). IfSome (slice_get (seen_words ws) i) (λ w. IsTrue (is_word w)))
    (sym c.as_slice-in-Var.ensures.value) here in
    subst (λ w. IsTrue (is_word w)) (sym c.word_at-in-Var.ensures) (spelled_at (seen_words c.as_slice-in-Var.result.now) i at)
