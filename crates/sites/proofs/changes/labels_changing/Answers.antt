-- What is left to show of `labels_changing`.
use Rattle.std.proofs.Common.{◌∙◌, ◌++◌, ◌∷◌, [], List, ℕ, Bool, take, map, sym, ap}
use Rattle.std.specs.List.{list_any}
use Rattle.std.specs.Borrow.{Bor}
use Rattle.mmtext.specs.Words.{Word}
use Rattle.mmsyntax.specs.Dotted.{is_dotted}
use Rattle.source.specs.Views.{seen_words}
use Rattle.sites.proofs.Flags.{flags_more}
use Rattle.sites.proofs.changes.labels_changing.Goals as goal

pub loop-label-preserved : goal.loop-label-preserved
loop-label-preserved c =
    let words = c.args.labels.now in
    let i = c.loop-label.label-index in
    let d : Bor (List ℕ) = record { ref_ptr = (0, 0); now = [] } in
    let ls : List Word = seen_words words in
    let P : Word → Bool = λ p. list_any (λ m. is_dotted m p) ls in
    let flag = c.is_dotted_among.result in
    c.in_ok-push.ensures.items
    ∙ ap (λ (bs : List Bool). bs ++ flag ∷ []) c.loop-label.invariant
    ∙ ap (λ (b : Bool). map P (seen_words (take i words)) ++ b ∷ []) (c.is_dotted_among.ensures ls c.in_ok-set.ensures)
    ∙ sym (flags_more P words i d c.loop-label-test.true)
