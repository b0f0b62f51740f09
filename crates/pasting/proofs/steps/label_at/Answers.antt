-- What is left to show of `label_at`.
use Rattle.std.proofs.Common.{◌≡◌, ◌∙◌, [], Some, map, sym, ap}
use Rattle.std.specs.Prelude.{slice_get}
use Rattle.std.specs.Option.{option_map}
use Rattle.std.proofs.lemmas.Option.{get_or_from_slice_get, slice_get-map}
use Rattle.source.specs.Scopes.{label_of}
use Rattle.source.specs.Views.{seen_hypothesis}
use Rattle.source.proofs.Lent.{got_lent}
use Rattle.pasting.proofs.steps.label_at.Goals as goal

pub returns-in-Some : goal.returns-in-Some
returns-in-Some c =
    let hs = c.args.hypotheses.now in
    let i = c.args.place in
    let h = c.in-Some.hypothesis.now in
    let got : slice_get hs i ≡ Some h = sym (got_lent hs i c.get.result c.get.ensures.lookup) ∙ ap (option_map (λ h. h.now)) c.in-Some.is in
    c.label_of.ensures
    ∙ sym (get_or_from_slice_get (map label_of (map seen_hypothesis hs)) i (label_of (seen_hypothesis h)) []
    (slice_get-map label_of (map seen_hypothesis hs) i
    ∙ ap (option_map label_of) (slice_get-map seen_hypothesis hs i ∙ ap (option_map seen_hypothesis) got)))
