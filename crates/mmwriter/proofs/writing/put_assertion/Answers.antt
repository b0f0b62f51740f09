-- What is left to show of `put_assertion`.
use Rattle.std.proofs.Common.{◌≡◌, ◌<◌, ◌++◌, eqb, length, List, ℕ, sym, ap, subst, ◌∙◌, ◌⊎◌, inl, inr}
use Rattle.std.specs.Prelude.{OnOk}
use Rattle.mmwriter.proofs.Pieces.{some_items, block_text}
use Rattle.mmwriter.proofs.writing.put_assertion.Goals.{else-is_empty-via-then-is_empty+else-is_empty-2, else-is_empty-via-else-is_empty}
use Rattle.mmwriter.proofs.writing.put_assertion.Goals as goal

pub returns : goal.returns
returns c =
    let t = c.args.prelude.now in
    let a = c.args.assertion.now in
    let some : (0 < length a.pairs) ⊎ (0 < length a.hyps) = elim c.else-is_empty.branch [
      | else-is_empty-via-then-is_empty+else-is_empty-2 w ↦
          inr (some_items a.hyps (ap (λ x. eqb (length x) 0) (sym w.as_slice-then-is_empty.ensures) ∙ sym w.is_empty-then-is_empty.ensures
          ∙ w.if-is_empty-2.false))
      | else-is_empty-via-else-is_empty w ↦ inl (some_items a.pairs
          (ap (λ x. eqb (length x) 0) (sym c.as_slice.ensures) ∙ sym c.is_empty.ensures ∙ w.if-is_empty.false))
    ] in
    subst (λ (x : List ℕ). OnOk c.put_block.result (c.put_block.new.out.items ≡ c.args.out.now.items ++ x))
    (sym (block_text t a some)) c.put_block.ensures
