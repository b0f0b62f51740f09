-- What is left to show of `type_places`.
use Rattle.std.proofs.Common.{◌≡◌, ◌∙◌, ℕ, ◌+◌, ◌++◌, ◌∷◌, [], List, Option, Some, None, take, get_or, sym, ap, rules}
use Rattle.std.specs.Prelude.{filter_map}
use Rattle.std.specs.Borrow.{Bor}
use Rattle.std.proofs.lemmas.List.{take_all}
use Rattle.mmtext.specs.Words.{Word}
use Rattle.source.specs.Views.{seen_words}
use Rattle.sites.specs.Used.{noted, type_at}
use Rattle.sites.proofs.Listing.{values_some, values_none}
use Rattle.sites.proofs.gathering.type_places.Goals as goal
use Rattle.sites.proofs.gathering.type_places.Goals.{in-Some+in_ok-push, in_default}

pub loop-label-preserved : goal.loop-label-preserved
loop-label-preserved c =
    let ws = c.args.labels.now in
    let i = c.loop-label.label-index in
    let d : Bor (List ℕ) = record { ref_ptr = (0, 0); now = [] } in
    let f : Word → Option ℕ = type_at (noted c.args.used.now) c.args.constants.now in
    elim c.match-type_place.branch [
      | in-Some+in_ok-push w ↦
          let is : f (get_or ws i d).now ≡ Some w.in-Some.place = sym c.type_place.ensures ∙ w.in-Some.is in
          rw w.types-is
          (w.in_ok-push.ensures.items
          ∙ ap (λ (ns : List ℕ). ns ++ w.in-Some.place ∷ []) c.loop-label.invariant
          ∙ sym (values_some f ws i d w.in-Some.place c.loop-label-test.true is))
      | in_default w ↦
          let none : c.type_place.result ≡ None = search rules in
          rw w.types-is (c.loop-label.invariant ∙ sym (values_none f ws i d c.loop-label-test.true (sym c.type_place.ensures ∙ none)))
    ]

pub loop-label-init : goal.loop-label-init
loop-label-init c = c.new-types.ensures.items

pub returns : goal.returns
returns c =
    let l = c.loop-label in
    l.invariant
    ∙ ap (λ (ws : List (Bor (List ℕ))). filter_map (type_at (noted c.args.used.now) c.args.constants.now) (seen_words ws))
    (take_all l.label-index c.args.labels.now c.loop-label-test.false)
