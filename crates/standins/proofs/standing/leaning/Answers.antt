-- What is left to show of `leaning`: an assertion more.
use Rattle.std.proofs.Common.{◌∙◌, [], ◌∷◌, ℕ, List, Some, None, sym, ap, Bor, Vec, Global, append-nil}
use Rattle.std.specs.Prelude.{option_map}
use Rattle.std.proofs.lemmas.List.{map-append}
use Rattle.source.specs.Views.{seen_pairs}
use Rattle.sourceediting.proofs.Labels.{gives_more}
use Rattle.sourceediting.proofs.Origins.{seen}
use Rattle.standins.specs.Views.{leaning_pair}
use Rattle.standins.proofs.standing.leaning.Goals as goal
use Rattle.standins.proofs.standing.leaning.Goals.{in-Some+in_ok-push, in_default}

pub loop-followed-preserved : goal.loop-followed-preserved
loop-followed-preserved c =
    let living = c.args.living.now in
    let k = c.loop-followed.followed-index in
    let gives = leaning_pair c.args.told.now c.args.reproved.now in
    let before = c.loop-followed.found.items in
    let seen_in = λ (v : Vec (Bor (List ℕ) × Bor (List ℕ)) Global). seen_pairs v.items in
    elim c.match-leaning_pair.branch [
      | in-Some+in_ok-push w ↦
          ap seen_in w.found-is
          ∙ ap seen_pairs w.in_ok-push.ensures.items
          ∙ map-append seen before (w.in-Some.pair ∷ [])
          ∙ gives_more living k _ c.loop-followed-test.true gives (seen_pairs before) (Some (seen w.in-Some.pair)) c.loop-followed.invariant
          (sym (ap (option_map seen) w.in-Some.is) ∙ c.leaning_pair.ensures)
      | in_default w ↦
          ap seen_in w.found-is
          ∙ sym (append-nil (seen_pairs before))
          ∙ gives_more living k _ c.loop-followed-test.true gives (seen_pairs before) None c.loop-followed.invariant
          (sym (ap (option_map seen) w.in_default.is) ∙ c.leaning_pair.ensures)
    ]
