-- What is left to show of `descriptions_then`.
use Rattle.std.proofs.Common.{◌∙◌, [], ◌∷◌, ℕ, List, Some, None, sym, ap, Bor, Vec, Global, append-nil}
use Rattle.std.specs.Prelude.{option_map}
use Rattle.std.proofs.lemmas.List.{map-append}
use Rattle.giving.specs.Staying.{Change}
use Rattle.source.specs.Views.{seen_pairs}
use Rattle.sourceediting.proofs.Labels.{gives_more}
use Rattle.dressing.specs.Descriptions.{description_then}
use Rattle.dressing.proofs.placing.descriptions_then.Goals as goal
use Rattle.dressing.proofs.placing.descriptions_then.Goals.{in-Some+in_ok-push, in_default}

pub loop-followed-preserved : goal.loop-followed-preserved
loop-followed-preserved c =
    let items = c.as_slice-followed-items.result.now in
    let k = c.loop-followed.followed-index in
    let gives = description_then c.args.descriptions.now in
    let before = c.loop-followed.made.items in
    let view : Bor (List ℕ) × Bor (List ℕ) → Change = λ p. (p.0.now, p.1.now) in
    let seen_in = λ (v : Vec (Bor (List ℕ) × Bor (List ℕ)) Global). seen_pairs v.items in
    elim c.match-description_then.branch [
      | in-Some+in_ok-push w ↦
          ap seen_in w.made-is
          ∙ ap seen_pairs w.in_ok-push.ensures.items
          ∙ map-append view before (w.in-Some.pair ∷ [])
          ∙ gives_more items k _ c.loop-followed-test.true gives (seen_pairs before) (Some (view w.in-Some.pair)) c.loop-followed.invariant
          (sym (ap (option_map view) w.in-Some.is) ∙ c.description_then.ensures)
      | in_default w ↦
          ap seen_in w.made-is
          ∙ sym (append-nil (seen_pairs before))
          ∙ gives_more items k _ c.loop-followed-test.true gives (seen_pairs before) None c.loop-followed.invariant
          (sym (ap (option_map view) w.in_default.is) ∙ c.description_then.ensures)
    ]
