-- What is left to show of `note_place`.
use Rattle.std.proofs.Common.{◌≡◌, Some, None, ap, sym, ◌∙◌, rules}
use Rattle.std.specs.Prelude.{cond}
use Rattle.std.specs.Option.{option_or}
use Rattle.std.proofs.lemmas.Map.Text.{hash_map_updates_str}
use Rattle.sourceframes.specs.Names.{looks_up}
use Rattle.sourceframes.specs.Frames.{is_that, seen_variable}
use Rattle.sourceframes.proofs.Placing.{noted_first}
use Rattle.sourceframes.proofs.variables.note_place.Goals as goal

pub returns-in_ok-insert : goal.returns-in_ok-insert
returns-in_ok-insert c = λ w.
    let v = c.in-Some.variable.now in
    let old = looks_up c.args.places.now in
    let none : old v ≡ None = search rules in
    noted_first old (looks_up c.insert.new.self) v c.args.place none
    (λ u. hash_map_updates_str v c.args.places.now c.insert.new.self (Some c.args.place) c.in_ok-insert.ensures.updates u) w
    ∙ ap (λ o. option_or (old w) (cond (is_that w (seen_variable o)) (Some c.args.place) None)) (sym c.in-Some.is)
