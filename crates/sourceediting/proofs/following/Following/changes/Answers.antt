-- What is left to show of `changes`.
use Rattle.std.proofs.Common.{◌≡◌, ◌∙◌, List, [], ◌∷◌, Some, None, ap, sym, rules}
use Rattle.std.specs.Option.{option_map}
use Rattle.std.proofs.lemmas.List.{map-append, append-nil}
use Rattle.source.specs.Views.{seen_pairs}
use Rattle.giving.specs.Staying.{Change}
use Rattle.sourceediting.specs.Following.{Followed, change_of}
use Rattle.sourceediting.proofs.Labels.{gives_more}
use Rattle.sourceediting.proofs.Origins.{seen}
use Rattle.sourceediting.proofs.following.Following.changes.Goals as goal
use Rattle.sourceediting.proofs.following.Following.changes.Goals.{in-Some+in_ok-push, in_default}

pub loop-followed-preserved : goal.loop-followed-preserved
loop-followed-preserved c =
    let xs = c.as_slice-followed-items.result.now in
    let k = c.loop-followed.followed-index in
    let before : List Change = seen_pairs c.loop-followed.changes.items in
    elim c.match-change.branch [
      | in-Some+in_ok-push w ↦
          let made = w.in-Some.change in
          rw w.changes-is
          (ap seen_pairs w.in_ok-push.ensures.items
          ∙ map-append seen c.loop-followed.changes.items (made ∷ [])
          ∙ gives_more xs k _ c.loop-followed-test.true (λ (x : Followed). change_of x x.source) before (Some (seen made))
          c.loop-followed.invariant (ap (option_map seen) (sym w.in-Some.is) ∙ c.change.ensures))
      | in_default w ↦
          let none : c.change.result ≡ None = search rules in
          rw w.changes-is
          (sym (append-nil before)
          ∙ gives_more xs k _ c.loop-followed-test.true (λ (x : Followed). change_of x x.source) before None
          c.loop-followed.invariant (ap (option_map seen) (sym none) ∙ c.change.ensures))
    ]
