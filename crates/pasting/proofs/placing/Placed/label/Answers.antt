-- What is left to show of `label`.
use Rattle.std.proofs.Common.{◌≡◌, ◌∙◌, rules, sym, ap, List, Bor}
use Rattle.std.specs.Prelude.{Some, None, slice_get}
use Rattle.std.specs.Option.{option_map}
use Rattle.mmtext.specs.Words.{Word}
use Rattle.mmsyntax.specs.declared.statement.Assertion.{Assertion}
use Rattle.source.proofs.Lent.{got_lent}
use Rattle.pasting.proofs.Labelled.{label_nowhere, label_at}
use Rattle.pasting.proofs.placing.Placed.label.Goals as goal

pub returns-in_err-place : goal.returns-in_err-place
returns-in_err-place c =
    let s = c.args.self.now.sites.now in
    let none : c.label.result ≡ None = search rules in
    let gone : c.from_residual.result ≡ None = search rules in
    ap (option_map (λ (l : Bor Word). l.now)) gone
    ∙ label_nowhere s.floats s.labels c.args.self.now.database.now c.args.label.now (sym c.label.ensures ∙ none)

pub returns-in_err-assertion : goal.returns-in_err-assertion
returns-in_err-assertion c =
    let s = c.args.self.now.sites.now in
    let db = c.args.self.now.database.now in
    let place = c.in_ok-place.place in
    let some : c.label.result ≡ Some place = search rules in
    let none : c.get.result ≡ None = search rules in
    let gone : c.from_residual-in_err-assertion.result ≡ None = search rules in
    let got : option_map (λ (a : Bor Assertion). a.now) c.get.result ≡ slice_get db.assertions place =
    got_lent c.assertions.result.now place c.get.result c.get.ensures.lookup
    ∙ ap (λ (as' : List Assertion). slice_get as' place) c.assertions.ensures.value in
    ap (option_map (λ (l : Bor Word). l.now)) gone
    ∙ label_at s.floats s.labels db c.args.label.now place None (sym c.label.ensures ∙ some)
    (sym (ap (option_map (λ (a : Bor Assertion). a.now)) none) ∙ got)

pub returns : goal.returns
returns c =
    let s = c.args.self.now.sites.now in
    let db = c.args.self.now.database.now in
    let place = c.in_ok-place.place in
    let some : c.label.result ≡ Some place = search rules in
    let there : c.get.result ≡ Some c.in_ok-assertion.assertion = search rules in
    let got : option_map (λ (a : Bor Assertion). a.now) c.get.result ≡ slice_get db.assertions place =
    got_lent c.assertions.result.now place c.get.result c.get.ensures.lookup
    ∙ ap (λ (as' : List Assertion). slice_get as' place) c.assertions.ensures.value in
    label_at s.floats s.labels db c.args.label.now place (Some c.in_ok-assertion.assertion.now) (sym c.label.ensures ∙ some)
    (sym (ap (option_map (λ (a : Bor Assertion). a.now)) there) ∙ got)
