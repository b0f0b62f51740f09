-- What is left to show of `label`.
use Rattle.std.proofs.Common.{◌≡◌, ◌∙◌, rules, sym, ap, List, Bor}
use Rattle.std.specs.Prelude.{Some, None, slice_get}
use Rattle.std.specs.Option.{option_map, option_and_then}
use Rattle.std.specs.Str.{bytes_eq}
use Rattle.mmtext.specs.Words.{Word}
use Rattle.mmsyntax.proofs.FirstPlace.{found_in_zip}
use Rattle.source.proofs.Lent.{got_lent}
use Rattle.gathering.proofs.places.Placed.label.Goals as goal

pub returns-in_err-place : goal.returns-in_err-place
returns-in_err-place c =
    let labels = c.args.self.now.sites.now.labels in
    let names = c.args.self.now.names.now.labels in
    let none : c.label.result ≡ None = search rules in
    let gone : c.from_residual.result ≡ None = search rules in
    ap (option_map (λ (l : Bor Word). l.now)) gone
    ∙ sym (found_in_zip (bytes_eq c.args.label.now) labels names ∙ ap (option_and_then (slice_get names)) (sym c.label.ensures ∙ none))

pub returns : goal.returns
returns c =
    let labels = c.args.self.now.sites.now.labels in
    let names = c.args.self.now.names.now.labels in
    let place = c.in_ok-place.place in
    let some : c.label.result ≡ Some place = search rules in
    let got : option_map (λ (l : Bor Word). l.now) c.get.result ≡ slice_get names place =
    got_lent c.as_slice.result.now place c.get.result c.get.ensures.lookup
    ∙ ap (λ (ns : List Word). slice_get ns place) c.as_slice.ensures in
    got ∙ sym (found_in_zip (bytes_eq c.args.label.now) labels names ∙ ap (option_and_then (slice_get names)) (sym c.label.ensures ∙ some))
