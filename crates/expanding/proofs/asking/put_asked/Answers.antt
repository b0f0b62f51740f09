-- What is left to show of `put_asked`.
use Rattle.std.proofs.Common.{◌∙◌, [], sym, ap}
use Rattle.std.proofs.lemmas.List.{map-append}
use Rattle.std.proofs.Common.{Bor, List, ℕ}
use Rattle.source.specs.Views.{seen_words}
use Rattle.expanding.specs.Asking.{asks_for_proof}
use Rattle.expanding.proofs.AskedWords.{last_next, behind_next, other_next}
use Rattle.expanding.proofs.asking.put_asked.Goals as goal
use Rattle.expanding.proofs.asking.put_asked.Goals.{then-asks+in_ok-push, else-asks}

pub loop-word-preserved : goal.loop-word-preserved
loop-word-preserved c =
    let words = c.args.words.now in
    let k = c.loop-word.word-index in
    let within = c.loop-word-test.true in
    let start = seen_words c.args.asked.now.items in
    let now = seen_words c.loop-word.asked.items in
    record {
      put = elim c.if-asks.branch [
        | then-asks+in_ok-push w ↦
            ap (λ v. seen_words v.items) w.asked-is
            ∙ ap seen_words w.in_ok-push.ensures.items
            ∙ map-append (λ (v : Bor (List ℕ)). v.now) c.loop-word.asked.items _
            ∙ behind_next asks_for_proof words k _ within start now (sym c.loop-word.invariant.passes
            ∙ w.if-asks.true) c.loop-word.invariant.put
        | else-asks w ↦
            ap (λ v. seen_words v.items) w.asked-is
            ∙ other_next asks_for_proof words k (record { ref_ptr = (0, 0); now = [] }) within start now
            (sym c.loop-word.invariant.passes ∙ w.if-asks.false) c.loop-word.invariant.put
      ];
      passes = last_next asks_for_proof words k _ within c.asks_for_proof-asks.result c.asks_for_proof-asks.ensures;
    }
