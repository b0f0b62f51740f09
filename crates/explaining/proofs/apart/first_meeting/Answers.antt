-- What is left to show of `first_meeting`.
use Rattle.std.proofs.Common.{ℕ, List, get_or, sym, ap, ◌∙◌}
use mathlib.Core.Bool.{not}
use Rattle.std.specs.Option.{option_map}
use Rattle.std.specs.List.{list_all}
use Rattle.std.specs.Borrow.{Bor}
use Rattle.source.specs.Views.{seen_words}
use Rattle.verifying.specs.Citations.{symbols_apart}
use Rattle.explaining.specs.Shown.{seen_assertion}
use Rattle.explaining.proofs.Lists.{found_here, found_later, found_nowhere}
use Rattle.explaining.proofs.Concluded.{all_fit, one_misfits}
use Rattle.explaining.proofs.apart.first_meeting.Goals as goal

pub returns-in-Some : goal.returns-in-Some
returns-in-Some c =
    let x = seen_assertion c.args.theorem.now in
    let vs = seen_words c.args.others.now in
    let u = (get_or c.args.variables.now c.loop-variable.variable-index _).now in
    let beside = sym c.first_beside.ensures ∙ ap (option_map (λ (w : Bor (List ℕ)). w.now)) c.in-Some.is in
    let meets = (one_misfits (symbols_apart x u) vs c.in-Some.beside.now beside).0 in (
      found_here (λ (w : Bor (List ℕ)). w.now) (λ u. not (list_all (symbols_apart x u) vs)) c.args.variables.now
          c.loop-variable.variable-index _ c.loop-variable-test.true c.loop-variable.invariant (ap not meets),
      beside,
    )

pub loop-variable-preserved : goal.loop-variable-preserved
loop-variable-preserved c =
    let x = seen_assertion c.args.theorem.now in
    let vs = seen_words c.args.others.now in
    let u = (get_or c.args.variables.now c.loop-variable.variable-index _).now in
    let none = sym c.first_beside.ensures ∙ ap (option_map (λ (w : Bor (List ℕ)). w.now)) c.in_default.is in
    found_later (λ (w : Bor (List ℕ)). w.now) (λ u. not (list_all (symbols_apart x u) vs)) c.args.variables.now
    c.loop-variable.variable-index _ c.loop-variable-test.true c.loop-variable.invariant
    (ap not (all_fit (symbols_apart x u) vs none))

pub returns : goal.returns
returns c =
    let x = seen_assertion c.args.theorem.now in
    let vs = seen_words c.args.others.now in
    all_fit (λ u. list_all (symbols_apart x u) vs) (seen_words c.args.variables.now)
    (found_nowhere (λ (w : Bor (List ℕ)). w.now) (λ u. not (list_all (symbols_apart x u) vs)) c.args.variables.now
    c.loop-variable.variable-index c.loop-variable-test.false c.loop-variable.invariant)
