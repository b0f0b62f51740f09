-- What is left to show of `floats_changing`.
use Rattle.std.proofs.Common.{◌∙◌, ◌++◌, ◌∷◌, [], List, ℕ, Bool, take, map, sym, ap}
use Rattle.std.specs.Borrow.{Bor}
use Rattle.mmtext.specs.Words.{has_dot}
use Rattle.source.specs.Views.{seen_words}
use Rattle.sites.proofs.Flags.{flags_more}
use Rattle.sites.proofs.changes.floats_changing.Goals as goal

pub loop-label-preserved : goal.loop-label-preserved
loop-label-preserved c =
    let words = c.args.labels.now in
    let i = c.loop-label.label-index in
    let d : Bor (List ℕ) = record { ref_ptr = (0, 0); now = [] } in
    let flag = c.contains_dot.result in
    c.in_ok-push.ensures.items
    ∙ ap (λ (bs : List Bool). bs ++ flag ∷ []) c.loop-label.invariant
    ∙ ap (λ (b : Bool). map has_dot (seen_words (take i words)) ++ b ∷ []) c.contains_dot.ensures
    ∙ sym (flags_more has_dot words i d c.loop-label-test.true)
