-- What is left to show of `take_counted`.
use Rattle.std.proofs.Common.{◌≡◌, ℕ, List, false, map, take, sym, subst as transport}
use Rattle.std.specs.List.{list_any}
use Rattle.std.specs.Borrow.{Bor}
use Rattle.std.proofs.lemmas.Result.{IfOk-weaker}
use Rattle.source.specs.declared.letters.Code.{Code}
use Rattle.source.specs.Letters.{is_absent}
use Rattle.source.specs.Proofs.{step_of}
use Rattle.source.specs.Views.{seen_words}
use Rattle.explaining.specs.Shown.{seen_assertion, Tells}
use Rattle.explaining.proofs.Bare.{tells_same}
use Rattle.explaining.proofs.Told.{under}
use Rattle.explaining.proofs.theorem.take_counted.Goals as goal

pub returns : goal.returns
returns g c =
    let earlier = take c.args.place (g.D.Declared.scope c.args.declared.now).assertions in
    let a = seen_assertion c.in_ok-theorem.theorem in
    let labels = c.args.counted.now.labels.items in
    let codes = c.args.counted.now.codes in
    IfOk-weaker c.take_codes.result _ _
    (λ o told x at there.
    let all = told (transport (λ (cs : List Code). list_any is_absent cs ≡ false) (sym c.as_slice-2.ensures) there) in
    tells_same earlier x a (map (step_of (seen_words labels)) codes) o (c.in_ok-theorem.ensures x at)
    (transport (λ (cs : List Code). Tells earlier a (map (step_of (seen_words labels)) cs) o) c.as_slice-2.ensures
    (transport (λ (ls : List (Bor (List ℕ))). Tells earlier a (map (step_of (seen_words ls)) c.as_slice-2.result.now) o)
    c.as_slice.ensures.value all)))
    (under _ c.take_codes.result c.take_codes.ensures)
