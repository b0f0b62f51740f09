-- What is left to show of `place_of`.
use Rattle.std.proofs.Common.{◌≡◌, ◌∙◌, ℕ, false, Some, refl, sym}
use Rattle.std.specs.Str.{bytes_eq}
use Rattle.mmsyntax.proofs.Distinct.{place_of-absent}
use Rattle.source.specs.Scopes.{Assertion}
use Rattle.scopes.specs.declared.sorts.Sort.{Sort}
use Rattle.scopes.specs.declared.sorts.Sort.TheVariants as sort
use Rattle.scopes.specs.Sorts.{is_assertion}
use Rattle.scopes.specs.Views.{kept_of, scope_of}
use Rattle.scopes.proofs.Places.{place_noted}
use Rattle.scopes.proofs.shown.place_of.Goals as goal

pub returns-in-Assertion : goal.returns-in-Assertion
returns-in-Assertion c =
    let xs = (scope_of (kept_of c.args.tables.now)).assertions in
    let test : Assertion → _ = λ a. bytes_eq c.args.label.now a.label in
    let k = c.in-Assertion.ensures in
    place_noted test xs (Some c.in-Assertion.place) k.noted k.assertion

no_assertion : (o : Sort) → ((x : ℕ) → o ≡ sort.Assertion x → ⊥) → is_assertion o ≡ false
no_assertion sort.Unknown h = refl
no_assertion sort.Constant h = refl
no_assertion (sort.Variable a t) h = refl
no_assertion (sort.Hypothesis i) h = refl
no_assertion (sort.Assertion i) h = absurd (h i refl)
no_assertion sort.Closed h = refl

pub returns-in_default : goal.returns-in_default
returns-in_default c =
    let xs = (scope_of (kept_of c.args.tables.now)).assertions in
    let test : Assertion → _ = λ a. bytes_eq c.args.label.now a.label in
    sym (place_of-absent test xs (c.sort_of.ensures.assertion ∙ no_assertion c.sort_of.result c.in_default.not-Assertion))
