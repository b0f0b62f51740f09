use Rattle.std.proofs.Common.{Some, length, ◌+◌, ◌∙◌, ◌≡◌, inl, inr, ap, sym, arith}
use Rattle.std.specs.Prelude.{slice_get}
use Rattle.std.proofs.lemmas.List.{length_push}
use Rattle.tlcore.proofs.Lists.{get-append_cases}
use Rattle.tlwords.proofs.closing.gather_store.Goals as goal

pub loop-offset-preserved : goal.loop-offset-preserved
loop-offset-preserved c =
    let l = c.loop-offset in
    let pushed = c.push_reserved.ensures in (
      λ o w is.
          let now = ap (λ ws. slice_get ws o) (sym pushed.items) ∙ is in
          elim (get-append_cases l.closed.items c.word.result o) [
            | inl before ↦ l.invariant.0 o w (sym before ∙ now)
            | inr last ↦
                let same : Some c.word.result ≡ Some w = sym last.1 ∙ now in
                let at : o ≡ l.offset = last.0 ∙ l.invariant.1 in
                let read = c.word.ensures in
                cc
          ],
      ap (λ ws. length ws) pushed.items ∙ length_push l.closed.items c.word.result ∙ ap (λ n. n + 1) l.invariant.1,
      omega arith,
    )
