-- What is left to show of `constants_changing`.
use Rattle.std.proofs.Common.{◌∙◌, ◌++◌, ◌∷◌, [], List, ℕ, Bool, take, map, sym, ap}
use Rattle.std.specs.Borrow.{Bor}
use Rattle.mmtext.specs.Words.{has_hypothesis_form}
use Rattle.source.specs.Views.{seen_words}
use Rattle.sites.proofs.Flags.{flags_more}
use Rattle.sites.proofs.changes.constants_changing.Goals as goal

pub loop-word-preserved : goal.loop-word-preserved
loop-word-preserved c =
    let words = c.args.words.now in
    let i = c.loop-word.word-index in
    let d : Bor (List ℕ) = record { ref_ptr = (0, 0); now = [] } in
    let flag = c.names_hypothesis.result in
    c.in_ok-push.ensures.items
    ∙ ap (λ (bs : List Bool). bs ++ flag ∷ []) c.loop-word.invariant
    ∙ ap (λ (b : Bool). map has_hypothesis_form (seen_words (take i words)) ++ b ∷ []) c.names_hypothesis.ensures
    ∙ sym (flags_more has_hypothesis_form words i d c.loop-word-test.true)
