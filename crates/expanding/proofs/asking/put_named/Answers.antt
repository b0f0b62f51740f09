-- What is left to show of `put_named`.
use Rattle.std.proofs.Common.{◌∙◌, [], sym, ap}
use Rattle.std.proofs.lemmas.List.{map-append}
use Rattle.std.proofs.Common.{Bor, List, ℕ}
use Rattle.source.specs.Views.{seen_words}
use Rattle.expanding.specs.Asking.{is_behind}
use Rattle.expanding.proofs.AskedWords.{last_next, behind_next, other_next}
use Rattle.expanding.proofs.asking.put_named.Goals as goal
use Rattle.expanding.proofs.asking.put_named.Goals.{then-names+in_ok-push, else-names}

pub loop-word-preserved : goal.loop-word-preserved
loop-word-preserved c =
    let words = c.args.words.now in
    let k = c.loop-word.word-index in
    let within = c.loop-word-test.true in
    let start = seen_words c.args.named.now.items in
    let now = seen_words c.loop-word.named.items in
    record {
      put = elim c.if-names.branch [
        | then-names+in_ok-push w ↦
            ap (λ v. seen_words v.items) w.named-is
            ∙ ap seen_words w.in_ok-push.ensures.items
            ∙ map-append (λ (v : Bor (List ℕ)). v.now) c.loop-word.named.items _
            ∙ behind_next is_behind words k _ within start now (sym c.loop-word.invariant.passes
            ∙ w.if-names.true) c.loop-word.invariant.put
        | else-names w ↦
            ap (λ v. seen_words v.items) w.named-is
            ∙ other_next is_behind words k (record { ref_ptr = (0, 0); now = [] }) within start now
            (sym c.loop-word.invariant.passes ∙ w.if-names.false) c.loop-word.invariant.put
      ];
      passes = last_next is_behind words k _ within c.is_behind-names.result c.is_behind-names.ensures;
    }
