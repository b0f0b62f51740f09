-- What is left to show of `mark_float`.
use Rattle.std.proofs.Common.{◌≡◌, ◌∙◌, ◌<◌, ℕ, Some, None, true, ap, sym, subst}
use Rattle.std.proofs.lemmas.List.{length-map}
use Rattle.std.specs.Prelude.{is_some}
use Rattle.std.proofs.Math.ListN.{set}
use Rattle.source.specs.Scopes.{is_float_of}
use Rattle.scopes.specs.Views.{kept_of, scope_of}
use Rattle.scopes.specs.Found.{Found, passes_at}
use Rattle.scopes.specs.Sorts.{float_place}
use Rattle.scopes.proofs.Found.{found_any, there_within}
use Rattle.scopes.proofs.Marking.{mark_one, mark_none}
use Rattle.scopes.proofs.frames.mark_float.Goals as goal

pub set_mark-requires-clause-within : goal.set_mark-requires-clause-within
set_mark-requires-clause-within c =
    let hs = (scope_of (kept_of c.args.tables.now)).hypotheses in
    let w = c.args._word.now in
    let i = c.in-Some.place in
    let at : float_place c.args.sort ≡ Some i = sym c.float_of.ensures ∙ c.in-Some.is in
    let found = subst (λ o. Found (is_float_of w) hs o) at c.requires.sort.float in
    let there : passes_at (is_float_of w) hs (Some i) ≡ true =
    sym (found_any (is_float_of w) hs (Some i) found) ∙ c.requires.sort.typed ∙ ap is_some at in
    subst (λ (n : ℕ). i < n) (length-map c.args.tables.now.active.items _) (there_within (is_float_of w) hs i there)

pub returns-in-Some-clause-marks : goal.returns-in-Some-clause-marks
returns-in-Some-clause-marks c = λ premises words marks.
    let hs = (scope_of (kept_of c.args.tables.now)).hypotheses in
    let w = c.args._word.now in
    let i = c.in-Some.place in
    let at : float_place c.args.sort ≡ Some i = sym c.float_of.ensures ∙ c.in-Some.is in
    let found = subst (λ o. Found (is_float_of w) hs o) at c.requires.sort.float in
    let there : passes_at (is_float_of w) hs (Some i) ≡ true =
    sym (found_any (is_float_of w) hs (Some i) found) ∙ c.requires.sort.typed ∙ ap is_some at in
    c.set_mark.ensures.marks ∙ ap (λ ms. set ms i true) marks ∙ mark_one hs premises words w i found there

pub returns-in_default-clause-marks : goal.returns-in_default-clause-marks
returns-in_default-clause-marks c = λ premises words marks.
    let hs = (scope_of (kept_of c.args.tables.now)).hypotheses in
    let w = c.args._word.now in
    let at : float_place c.args.sort ≡ None = sym c.float_of.ensures ∙ c.in_default.is in
    marks ∙ mark_none hs premises words w (subst (λ o. Found (is_float_of w) hs o) at c.requires.sort.float)
