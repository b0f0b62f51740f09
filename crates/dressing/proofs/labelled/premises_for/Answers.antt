-- What is left to show of `premises_for`.
use Rattle.std.proofs.Common.{◌≡◌, ◌∙◌, [], length, sym, ap, arith}
use Rattle.std.specs.Prelude.{slice_get}
use Rattle.std.specs.Option.{option_and_then, option_map}
use Rattle.std.specs.Str.{bytes_eq}
use Rattle.std.proofs.lemmas.List.{length-map}
use Rattle.std.proofs.lemmas.Option.{slice_get-get_or}
use Rattle.pasting.specs.declared.own_words.GivenLabels.{GivenLabels as CodeLabels}
use Rattle.mmsyntax.specs.Tables.{place_of}
use Rattle.pasting.specs.Views.{seen_given_labels}
use Rattle.dressing.proofs.Firsts.{first_for}
use Rattle.dressing.proofs.labelled.premises_for.Goals as goal

abbrev none : CodeLabels
none = record { label = record { ref_ptr = (0, 0); now = [] }; premises = record { ref_ptr = (0, 0); now = [] } }

pub returns-in-None : goal.returns-in-None
returns-in-None c =
    let qs = c.args.given.now in
    let w = c.args.label.now in
    let none = ap (place_of (bytes_eq w)) (sym c.requires) ∙ sym c.place.ensures.place ∙ c.in-None.is in
    ap (λ o. option_map seen_given_labels (option_and_then (slice_get qs) o)) (sym none) ∙ first_for seen_given_labels (λ g. g.label) qs w

pub returns-in-Some : goal.returns-in-Some
returns-in-Some c =
    let qs = c.args.given.now in
    let w = c.args.label.now in
    let some = ap (place_of (bytes_eq w)) (sym c.requires) ∙ sym c.place.ensures.place ∙ c.in-Some.is in
    let long : length c.args.labels.now ≡ length qs = ap length c.requires ∙ length-map qs (λ (q : CodeLabels). q.label.now) in
    let within = c.in-Some.ensures.within in
    let at = slice_get-get_or qs c.in-Some.place none (omega (arith, long, within)) in
    ap (option_map seen_given_labels) (sym at)
    ∙ ap (λ o. option_map seen_given_labels (option_and_then (slice_get qs) o)) (sym some)
    ∙ first_for seen_given_labels (λ g. g.label) qs w
