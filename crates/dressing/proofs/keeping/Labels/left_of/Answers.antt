-- What is left to show of `left_of`.
use Rattle.std.proofs.Common.{◌≡◌, ◌∙◌, ◌+◌, ℕ, Bool, List, [], take, get_or, sym, ap, subst, Bor, Vec, Global}
use Rattle.std.specs.Prelude.{◌&&◌, filter}
use Rattle.std.specs.Str.{bytes_eq}
use mathlib.Core.Bool.{not}
use Rattle.mmtext.specs.Words.{Word}
use Rattle.source.specs.Scopes.{is_in}
use Rattle.source.specs.Views.{seen_words}
use Rattle.source.proofs.Slices.{any_seen}
use Rattle.pasting.proofs.Picked.{picked_next, left_out}
use Rattle.dressing.specs.Labels.{is_free}
use Rattle.dressing.proofs.keeping.Labels.left_of.Goals as goal
use Rattle.dressing.proofs.keeping.Labels.left_of.Goals.{then-is_free, else-is_free, then-not-is_among+in_ok-push, else-not-is_among}

pub loop-label-preserved : goal.loop-label-preserved
loop-label-preserved g c =
    let it = c.args.self.now in
    let labels = seen_words c.args.labels.now in
    let free : Word → Bool =
    is_free (g.D.Declared.scope it.declared.now) (seen_words it.written.now) (take it.before it.wanted.now) in
    let left : Word → Bool = λ w. not (free w && is_in labels w) in
    let i = c.loop-label.label-index in
    let none : Bor (List ℕ) = record { ref_ptr = (0, 0); now = [] } in
    let word = (get_or it.written.now i none).now in
    let given : c.if-is_free.value ≡ (free word && is_in labels word) = (
    elim c.if-is_free.branch [
      | then-is_free w ↦
          w.value-is ∙ (w.is_among.ensures ∙ (any_seen (bytes_eq word) c.args.labels.now
          ∙ ap (λ b. b && is_in labels word) (sym w.if-is_free.true ∙ c.is_free.ensures)))
      | else-is_free w ↦
          w.value-is ∙ (w.if-is_free.false ∙ ap (λ b. b && is_in labels word) (sym w.if-is_free.false ∙ c.is_free.ensures))
    ]
    ) in
    elim c.if-not-is_among.branch [
      | then-not-is_among+in_ok-push w ↦
          picked_next left it.written.now i none c.loop-label-test.true (ap not (sym w.if-not-is_among.true ∙ given))
          c.loop-label.made.items _ c.loop-label.invariant
          (ap (λ (v : Vec (Bor (List ℕ)) Global). v.items) w.made-is ∙ w.in_ok-push.ensures.items)
      | else-not-is_among w ↦
          subst (λ (v : Vec (Bor (List ℕ)) Global). seen_words v.items ≡ filter left (seen_words (take (i + 1) it.written.now)))
          (sym w.made-is)
          (left_out left it.written.now i none c.loop-label-test.true (ap not (sym w.if-not-is_among.false ∙ given)) c.loop-label.made.items
          c.loop-label.invariant)
    ]
