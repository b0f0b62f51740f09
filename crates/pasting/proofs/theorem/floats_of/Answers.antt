-- What is left to show of `floats_of`.
use Rattle.std.proofs.Common.{◌≡◌, ◌∙◌, ◌<◌, ◌≤◌, ◌++◌, ◌∷◌, [], ℕ, List, length, map, take, refl, sym, ap, subst, arith, get_or}
use Rattle.std.specs.Prelude.{min, slice_index_or}
use Rattle.std.specs.List.{zip}
use Rattle.std.specs.Borrow.{Bor}
use Rattle.std.proofs.lemmas.List.{map-append, length-map, get_or-map, get_or_read_under}
use Rattle.mmsyntax.specs.Layout.{no_float}
use Rattle.mmsyntax.specs.Tables.{Tables}
use Rattle.source.specs.Scopes.{typing}
use Rattle.source.specs.Views.{seen_hypothesis, seen_words}
use Rattle.pasting.proofs.Adding.{float_as, zip_more, zip_whole}
use Rattle.pasting.proofs.theorem.floats_of.Goals as goal

pub loop-place-preserved : goal.loop-place-preserved
loop-place-preserved c =
    let t = c.prelude-prelude.result.now in
    let labels = c.floats-labels.result.now in
    let floats = c.floats-floats.result.now in
    let i = c.loop-place.place in
    let x = c.index-floats-place.result in
    let xs = seen_words labels in
    let code = c.name_at-type_code.result.now in
    let variable = c.name_at-variable.result.now in
    let lt = c.loop-place-test.true in
    let few = c.min-count.ensures in
    let long : i < length labels = omega arith in
    let within : i < length xs = subst (λ (n : ℕ). i < n) (sym (length-map labels (λ (w : Bor (List ℕ)). w.now))) long in
    let there : i < length floats = omega arith in
    let y = get_or floats i x in
    let here : y ≡ get_or floats i no_float =
    sym c.index-floats-place.is ∙ get_or_read_under floats i (length floats) x no_float c.index-floats-place.is there refl in
    let none : Bor (List ℕ) = record { ref_ptr = (0, 0); now = [] } in
    let label = get_or-map (λ (w : Bor (List ℕ)). w.now) labels i none [] long in
    let x2 = c.index-floats-place-in-loop-place.result in
    let z = get_or floats i x2 in
    let here2 : z ≡ get_or floats i no_float =
    sym c.index-floats-place-in-loop-place.is
    ∙ get_or_read_under floats i (length floats) x2 no_float c.index-floats-place-in-loop-place.is there refl in
    let same : typing (get_or xs i []) code variable ≡ float_as t (get_or xs i [], get_or floats i no_float) =
    ap (λ w. typing (get_or xs i []) w variable)
    (c.name_at-type_code.ensures ∙ ap (λ ns. slice_index_or ns y.type_code []) c.constants.ensures
    ∙ ap (λ f. slice_index_or t.constants f.type_code []) here)
    ∙ ap (λ w. typing (get_or xs i []) (slice_index_or t.constants (get_or floats i no_float).type_code []) w)
    (c.name_at-variable.ensures ∙ ap (λ ns. slice_index_or ns z.variable []) c.variables.ensures
    ∙ ap (λ f. slice_index_or t.variables f.variable []) here2) in
    ap (map seen_hypothesis) c.in_ok-push.ensures.items
    ∙ map-append seen_hypothesis c.loop-place.made.items _
    ∙ ap (λ hs. hs ++ typing (get_or labels i none).now code variable ∷ []) c.loop-place.invariant
    ∙ ap (λ w. map (float_as t) (take i (zip xs floats)) ++ typing w code variable ∷ []) (sym label)
    ∙ ap (λ h. map (float_as t) (take i (zip xs floats)) ++ h ∷ []) same
    ∙ sym (zip_more (float_as t) xs floats i [] no_float within there)

pub returns : goal.returns
returns c =
    let t = c.prelude-prelude.result.now in
    let xs = seen_words c.floats-labels.result.now in
    let ys = c.floats-floats.result.now in
    c.loop-place.invariant
    ∙ zip_whole (float_as t) xs ys c.loop-place.place
    (subst (λ (n : ℕ). min n (length ys) ≤ c.loop-place.place) (sym (length-map c.floats-labels.result.now (λ (w : Bor (List ℕ)). w.now)))
    (subst (λ (n : ℕ). n ≤ c.loop-place.place) c.min-count.ensures c.loop-place-test.false))
    ∙ ap (λ (q : Tables). map (float_as q) (zip xs ys)) c.prelude-prelude.ensures
    ∙ ap (λ ls. map (float_as c.args.database.now.prelude) (zip ls ys)) c.floats-labels.ensures.words
    ∙ ap (λ fs. map (float_as c.args.database.now.prelude) (zip c.args.sites.now.floats fs))
    (c.floats-floats.ensures.value ∙ ap (λ (q : Tables). q.floats) c.prelude-prelude.ensures)
