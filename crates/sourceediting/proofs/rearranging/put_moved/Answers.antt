-- What is left to show of `put_moved`.
use Rattle.std.proofs.Common.{◌∙◌, List, ℕ, map, sym, ap}
use Rattle.std.proofs.lemmas.Result.{err_from_is_err_and}
use Rattle.std.specs.Borrow.{Bor}
use Rattle.std.specs.Option.{option_map}
use Rattle.library.specs.declared.library.Ranked.{Ranked}
use Rattle.sourceediting.specs.Views.{seen_living}
use Rattle.sourceediting.proofs.Known.{known_at, known_by}
use Rattle.sourceediting.proofs.rearranging.put_moved.Goals as goal

pub returns-in_err-piece-clause-refused : goal.returns-in_err-piece-clause-refused
returns-in_err-piece-clause-refused g c = λ living text.
    let edited = map (λ (r : Ranked). r.assertion) c.args.edits.now.planned.edited.now.entries in
    let p = err_from_is_err_and c.from_residual.result c.from_residual.ensures.1 in
    rw (p.1, p.2) (c.in_err-piece.ensures.refused living edited text (c.in-Some-labelled.ensures edited c.requires).0)

pub returns-in_err-piece-clause-unwritten : goal.returns-in_err-piece-clause-unwritten
returns-in_err-piece-clause-unwritten g c = λ voc known.
    let edited = map (λ (r : Ranked). r.assertion) c.args.edits.now.planned.edited.now.entries in
    let p = err_from_is_err_and c.from_residual.result c.from_residual.ensures.1 in
    let living = seen_living c.args.edits.now.planned.living.now in
    let is = c.in-Some-labelled.ensures edited c.requires in
    let found = ap (option_map (λ (w : Bor (List ℕ)). w.now)) (sym c.in-Some.is) ∙ c.text_for.ensures in
    let one = known_at living _ c.in-Some.now.now c.args.moving.now.labels known found in
    rw (p.1, p.2) (c.in_err-piece.ensures.unwritten voc is.0 (known_by living _ c.in-Some.now.now _ one is.1))
