-- What is left to show of `written_for`.
use Rattle.std.proofs.Common.{◌≡◌, ◌∙◌, Bor, List, ℕ, Vec, Global, refl, sym, ap}
use Rattle.std.specs.Prelude.{slice_get}
use Rattle.std.specs.Option.{option_and_then}
use Rattle.std.specs.Str.{bytes_eq}
use Rattle.std.proofs.lemmas.Result.{IfOk-weaker}
use Rattle.source.specs.Scopes.{Assertion}
use Rattle.source.specs.Views.{seen_words}
use Rattle.taking.specs.Listings.{premise_labels}
use Rattle.dressing.specs.Labels.{premises_of, written_for}
use Rattle.dressing.proofs.Premises.{within, there}
use Rattle.dressing.proofs.keeping.written_for.Goals as goal

pub premises_at-requires : goal.premises_at-requires
premises_at-requires g c =
    let s = g.D.Declared.scope c.args.declared.now in
    λ _. (
      (refl, tt),
      within (λ (x : Assertion). bytes_eq c.args.label.now x.label) s.assertions c.in-Some.place (sym c.place_of.ensures ∙ c.in-Some.is),
    )

pub returns-in-Some : goal.returns-in-Some
returns-in-Some g c =
    let s = g.D.Declared.scope c.args.declared.now in
    let test = λ (x : Assertion). bytes_eq c.args.label.now x.label in
    let stands = sym c.place_of.ensures ∙ c.in-Some.is in
    let x = there test s.assertions c.in-Some.place stands in
    let is : premise_labels x.0.hypotheses ≡ written_for s c.args.label.now =
    sym (ap (λ o. premises_of (option_and_then (slice_get s.assertions) o)) stands ∙ ap premises_of x.1) in
    IfOk-weaker c.premises_at.result (λ (made : Vec (Bor (List ℕ)) Global). seen_words made.items ≡ premise_labels x.0.hypotheses)
    (λ (made : Vec (Bor (List ℕ)) Global). seen_words made.items ≡ written_for s c.args.label.now) (λ made h. h ∙ is)
    (c.premises_at.ensures x.0 x.1)
