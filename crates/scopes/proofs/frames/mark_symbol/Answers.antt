-- What is left to show of `mark_symbol`.
use Rattle.std.proofs.Common.{◌≡◌, ◌∙◌, ◌+◌, ◌++◌, ℕ, suc, Some, None, List, take, map, ap, sym, arith, rules}
use Rattle.std.specs.List.{slice_get}
use Rattle.std.specs.Option.{option_map}
use Rattle.mmtext.specs.Words.{Word}
use Rattle.source.specs.Scopes.{is_mandatory}
use Rattle.scopes.specs.Views.{kept_of, scope_of}
use Rattle.scopes.specs.Symbols.{symbols_at}
use Rattle.scopes.proofs.Marking.{behind_there, behind_none}
use Rattle.scopes.proofs.frames.mark_symbol.Goals as goal

pub returns-in-Some-clause-marks : goal.returns-in-Some-clause-marks
returns-in-Some-clause-marks c = λ premises front marks.
    let hs = (scope_of (kept_of c.args.tables.now)).hypotheses in
    let i = c.args.index in
    let ws = symbols_at hs c.args.place in
    let w = c.in-Some.symbol.now in
    let next : suc i ≡ i + 1 = omega arith in
    let is : c.symbol_at.result ≡ Some c.in-Some.symbol = search rules in
    let at : slice_get ws i ≡ Some w = sym c.symbol_at.ensures ∙ ap (option_map (λ w. w.now)) is in
    c.mark_float.ensures.marks premises (front ++ take i ws) marks
    ∙ ap (λ (us : List Word). map (is_mandatory premises us) hs)
    (behind_there front ws i w at ∙ ap (λ (n : ℕ). front ++ take n ws) next)

pub returns-in_default-clause-marks : goal.returns-in_default-clause-marks
returns-in_default-clause-marks c = λ premises front marks.
    let hs = (scope_of (kept_of c.args.tables.now)).hypotheses in
    let i = c.args.index in
    let ws = symbols_at hs c.args.place in
    let next : suc i ≡ i + 1 = omega arith in
    let is : c.symbol_at.result ≡ None = search rules in
    let at : slice_get ws i ≡ None = sym c.symbol_at.ensures ∙ ap (option_map (λ w. w.now)) is in
    marks
    ∙ ap (λ (us : List Word). map (is_mandatory premises us) hs)
    (behind_none front ws i at ∙ ap (λ (n : ℕ). front ++ take n ws) next)
