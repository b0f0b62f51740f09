-- What is left to show of `citing`.
use Rattle.std.proofs.Common.{◌<◌, ◌∙◌, ◌++◌, List, ℕ, Bor, length, ap, sym, subst, append-nil}
use Rattle.std.specs.Option.{option_map}
use Rattle.std.proofs.lemmas.List.{map_push}
use Rattle.source.specs.Views.{seen_words}
use Rattle.spreading.proofs.Citing.{citing_next, listed, listed_none}
use Rattle.spreading.proofs.spreading.citing.Goals as goal
use Rattle.spreading.proofs.spreading.citing.Goals.{in-Some+in_ok-push, in_default}

pub loop-place-preserved : goal.loop-place-preserved
loop-place-preserved g c =
    let xs = (g.D.Declared.scope c.args.declared.now).assertions in
    let within : c.loop-place.place < length xs = subst (λ n. c.loop-place.place < n) c.assertions-place-end.ensures
    c.loop-place-test.true in
    let next = citing_next c.args.label.now xs c.loop-place.place within _ c.citer_at.ensures (seen_words c.loop-place.labels.items)
    c.loop-place.invariant in
    let now = λ (w : Bor (List ℕ)). w.now in
    elim c.match-citer_at.branch [
      | in-Some+in_ok-push w ↦
          ap (λ v. seen_words v.items) w.labels-is
          ∙ (ap seen_words w.in_ok-push.ensures.items
          ∙ (map_push now c.loop-place.labels.items w.in-Some.citer
          ∙ (ap (λ o. seen_words c.loop-place.labels.items ++ listed (option_map now o)) (sym w.in-Some.is) ∙ next)))
      | in_default w ↦
          ap (λ v. seen_words v.items) w.labels-is
          ∙ (sym (append-nil (seen_words c.loop-place.labels.items))
          ∙ (ap (λ ws. seen_words c.loop-place.labels.items ++ ws) (listed_none c.citer_at.result w.in_default.not-Some) ∙ next))
    ]
