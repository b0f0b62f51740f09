-- What is left to show of `is_marked_label`.
use Rattle.std.proofs.Common.{◌≡◌, ◌∙◌, ℕ, Some, false, ap, refl, subst, sym}
use Rattle.std.specs.List.{slice_get}
use Rattle.std.specs.Option.{unwrap_or, is_some}
use Rattle.std.specs.Str.{bytes_eq}
use Rattle.source.specs.Scopes.{Hypothesis, label_of, is_mandatory}
use Rattle.scopes.specs.declared.sorts.Sort.{Sort}
use Rattle.scopes.specs.declared.sorts.Sort.TheVariants as sort
use Rattle.scopes.specs.Sorts.{hypothesis_place, IsSortOf}
use Rattle.scopes.specs.Views.{kept_of, scope_of}
use Rattle.scopes.proofs.Found.{found_any}
use Rattle.scopes.proofs.Marks.{found_filter, none_filter}
use Rattle.scopes.proofs.labels.is_marked_label.Goals as goal

pub returns-in-Hypothesis : goal.returns-in-Hypothesis
returns-in-Hypothesis c = λ e marks.
    let hs = (scope_of (kept_of c.args.tables.now)).hypotheses in
    let i = c.in-Hypothesis.place in
    let test : Hypothesis → _ = λ h. bytes_eq c.args.word.now (label_of h) in
    let k = subst (λ (o : Sort). IsSortOf (scope_of (kept_of c.args.tables.now)) c.args.word.now o) c.in-Hypothesis.is c.requires in
    let there = sym (found_any test hs (Some i) k.place) ∙ k.hypothesis in
    c.is_marked.ensures ∙ ap (λ ms. unwrap_or (slice_get ms i) false) marks
    ∙ sym (found_filter test (is_mandatory hs e) hs i k.place there)

no_place : (o : Sort) → ((x : ℕ) → o ≡ sort.Hypothesis x → ⊥) → is_some (hypothesis_place o) ≡ false
no_place sort.Unknown h = refl
no_place sort.Constant h = refl
no_place (sort.Variable a t) h = refl
no_place (sort.Hypothesis i) h = absurd (h i refl)
no_place (sort.Assertion i) h = refl
no_place sort.Closed h = refl

pub returns-in_default : goal.returns-in_default
returns-in_default c = λ e marks.
    let hs = (scope_of (kept_of c.args.tables.now)).hypotheses in
    let test : Hypothesis → _ = λ h. bytes_eq c.args.word.now (label_of h) in
    let none = c.requires.hypothesis ∙ no_place c.args.sort c.in_default.not-Hypothesis in
    sym (none_filter test (is_mandatory hs e) hs none)
