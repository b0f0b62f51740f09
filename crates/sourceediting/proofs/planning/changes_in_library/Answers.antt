-- What is left to show of `changes_in_library`.
use Rattle.std.proofs.Common.{◌≡◌, ◌∙◌, List, [], ◌∷◌, Some, None, ap, sym, rules}
use Rattle.std.specs.Option.{option_map}
use Rattle.std.proofs.lemmas.List.{map-append, append-nil}
use Rattle.source.specs.Views.{seen_pairs}
use Rattle.giving.specs.Staying.{Change}
use Rattle.sourceediting.specs.Following.{Followed}
use Rattle.sourceediting.specs.Reproved.{now_of}
use Rattle.sourceediting.proofs.Labels.{gives_more}
use Rattle.sourceediting.proofs.Origins.{seen}
use Rattle.sourceediting.proofs.planning.changes_in_library.Goals as goal
use Rattle.sourceediting.proofs.planning.changes_in_library.Goals.{in-Some+in_ok-push, in_default}

pub loop-followed-preserved : goal.loop-followed-preserved
loop-followed-preserved c =
    let xs = c.args.living.now in
    let k = c.loop-followed.followed-index in
    let before : List Change = seen_pairs c.loop-followed.pairs.items in
    elim c.match-change_in_library.branch [
      | in-Some+in_ok-push w ↦
          let made = w.in-Some.change in
          rw w.pairs-is
          (ap seen_pairs w.in_ok-push.ensures.items
          ∙ map-append seen c.loop-followed.pairs.items (made ∷ [])
          ∙ gives_more xs k _ c.loop-followed-test.true (λ (x : Followed). now_of x x.source) before (Some (seen made))
          c.loop-followed.invariant (ap (option_map seen) (sym w.in-Some.is) ∙ c.change_in_library.ensures))
      | in_default w ↦
          let none : c.change_in_library.result ≡ None = search rules in
          rw w.pairs-is
          (sym (append-nil before)
          ∙ gives_more xs k _ c.loop-followed-test.true (λ (x : Followed). now_of x x.source) before None
          c.loop-followed.invariant (ap (option_map seen) (sym none) ∙ c.change_in_library.ensures))
    ]
