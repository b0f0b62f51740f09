-- What is left to show of `moved_in`.
use Rattle.std.proofs.Common.{◌≡◌, ◌∙◌, List, [], ◌∷◌, ℕ, Some, None, ap, sym, rules}
use Rattle.std.specs.Borrow.{Bor}
use Rattle.std.specs.Option.{option_map}
use Rattle.std.proofs.lemmas.List.{map-append, append-nil}
use Rattle.mmtext.specs.Words.{Word}
use Rattle.source.specs.Views.{seen_words}
use Rattle.sourceediting.specs.Written.{moved_from}
use Rattle.sourceediting.proofs.Labels.{gives_more}
use Rattle.sourceediting.proofs.rearranging.moved_in.Goals as goal
use Rattle.sourceediting.proofs.rearranging.moved_in.Goals.{in-Some+in_ok-push, in_default}

pub loop-followed-preserved : goal.loop-followed-preserved
loop-followed-preserved c =
    let xs = c.args.living.now in
    let k = c.loop-followed.followed-index in
    let before : List Word = seen_words c.loop-followed.moved.items in
    elim c.match-moved_from.branch [
      | in-Some+in_ok-push w ↦
          let source = w.in-Some.source in
          rw w.moved-is
          (ap seen_words w.in_ok-push.ensures.items
          ∙ map-append (λ (w : Bor (List ℕ)). w.now) c.loop-followed.moved.items (source ∷ [])
          ∙ gives_more xs k _ c.loop-followed-test.true moved_from before (Some source.now)
          c.loop-followed.invariant (ap (option_map (λ (w : Bor (List ℕ)). w.now)) (sym w.in-Some.is) ∙ c.moved_from.ensures))
      | in_default w ↦
          let none : c.moved_from.result ≡ None = search rules in
          rw w.moved-is
          (sym (append-nil before)
          ∙ gives_more xs k _ c.loop-followed-test.true moved_from before None
          c.loop-followed.invariant (ap (option_map (λ (w : Bor (List ℕ)). w.now)) (sym none) ∙ c.moved_from.ensures))
    ]
