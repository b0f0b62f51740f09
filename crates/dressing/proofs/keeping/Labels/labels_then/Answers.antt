-- What is left to show of `labels_then`.
use Rattle.std.proofs.Common.{◌≡◌, ◌∙◌, ◌++◌, ◌∷◌, [], ◌+◌, ℕ, Bool, List, take, drop, get_or, sym, ap, ap₂, Bor, Vec, Global}
use Rattle.std.proofs.lemmas.List.{drop_more, drop_all, map_push}
use Rattle.mmtext.specs.Words.{Word}
use Rattle.source.specs.Views.{seen_words}
use Rattle.dressing.specs.Labels.{given_from, is_free}
use Rattle.dressing.proofs.Giving.{with_free, with_next, with_none}
use Rattle.dressing.proofs.keeping.Labels.labels_then.Goals as goal
use Rattle.dressing.proofs.keeping.Labels.labels_then.Goals.{then-is_free+in_ok-push, else-is_free+then-next-left+in_ok-push-2}
use Rattle.dressing.proofs.keeping.Labels.labels_then.Goals.{else-is_free+else-next-left}

pub loop-label-preserved : goal.loop-label-preserved
loop-label-preserved g c =
    let it = c.args.self.now in
    let free : Word → Bool =
    is_free (g.D.Declared.scope it.declared.now) (seen_words it.written.now) (take it.before it.wanted.now) in
    let labels = c.args.labels.now in
    let left = c.as_slice-left.result.now in
    let made = c.loop-label.made.items in
    let i = c.loop-label.label-index in
    let n = c.loop-label.next in
    let none : Bor (List ℕ) = record { ref_ptr = (0, 0); now = [] } in
    let one = get_or labels i none in
    let rest = seen_words (drop (i + 1) labels) in
    let all = given_from free (seen_words left) (seen_words labels) in
    let now = λ (w : Bor (List ℕ)). w.now in
    let so_far : seen_words made ++ given_from free (seen_words (drop n left)) (one.now ∷ rest) ≡ all =
    ap (λ (ws : List (Bor (List ℕ))). seen_words made ++ given_from free (seen_words (drop n left)) (seen_words ws))
    (sym (drop_more labels i none c.loop-label-test.true))
    ∙ c.loop-label.invariant in
    let then : Vec (Bor (List ℕ)) Global → ℕ → List Word = λ v k. seen_words v.items ++ given_from free (seen_words (drop k left)) rest in
    elim c.if-is_free.branch [
      | then-is_free+in_ok-push w ↦
          ap₂ then w.made-is w.next-is
          ∙ ap (λ (ws : List (Bor (List ℕ))). seen_words ws ++ given_from free (seen_words (drop n left)) rest) w.in_ok-push.ensures.items
          ∙ ap (λ ws. ws ++ given_from free (seen_words (drop n left)) rest) (map_push now made one)
          ∙ with_free free all (seen_words made) (seen_words (drop n left)) rest one.now so_far (sym w.if-is_free.true ∙ c.is_free.ensures)
      | else-is_free+then-next-left+in_ok-push-2 w ↦
          let other = get_or left n none in
          ap₂ then w.made-is w.next-is
          ∙ ap (λ (ws : List (Bor (List ℕ))). seen_words ws ++ given_from free (seen_words (drop (n + 1) left)) rest)
          w.in_ok-push-2.ensures.items
          ∙ ap (λ ws. ws ++ given_from free (seen_words (drop (n + 1) left)) rest) (map_push now made other)
          ∙ with_next free all (seen_words made) (seen_words (drop (n + 1) left)) rest one.now other.now
          (ap (λ (ws : List (Bor (List ℕ))). seen_words made ++ given_from free (seen_words ws) (one.now ∷ rest))
          (sym (drop_more left n none w.if-next-left.true))
          ∙ so_far)
          (sym w.if-is_free.false ∙ c.is_free.ensures)
      | else-is_free+else-next-left w ↦
          ap₂ then w.made-is w.next-is
          ∙ ap (λ (ws : List (Bor (List ℕ))). seen_words made ++ given_from free (seen_words ws) rest)
          (drop_all n left w.if-next-left.false)
          ∙ with_none free all (seen_words made) [] rest one.now
          (ap (λ (ws : List (Bor (List ℕ))). seen_words made ++ given_from free (seen_words ws) (one.now ∷ rest))
          (sym (drop_all n left w.if-next-left.false))
          ∙ so_far)
          (sym w.if-is_free.false ∙ c.is_free.ensures)
    ]
