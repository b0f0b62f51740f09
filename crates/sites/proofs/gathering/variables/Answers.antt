-- What is left to show of `variables`.
use Rattle.std.proofs.Common.{◌≡◌, ◌∙◌, ℕ, ◌+◌, ◌++◌, ◌∷◌, [], List, Option, Some, None, take, get_or, sym, ap, rules}
use Rattle.std.specs.Prelude.{filter_map}
use Rattle.std.specs.Option.{option_map}
use Rattle.std.specs.Borrow.{Bor}
use Rattle.std.proofs.lemmas.List.{map-append, take_all}
use Rattle.mmtext.specs.Words.{Word}
use Rattle.source.specs.Views.{seen_words}
use Rattle.sites.specs.Used.{noted, variable_at}
use Rattle.sites.proofs.Listing.{values_some, values_none}
use Rattle.sites.proofs.gathering.variables.Goals as goal
use Rattle.sites.proofs.gathering.variables.Goals.{in-Some+in_ok-push, in_default}

pub loop-label-preserved : goal.loop-label-preserved
loop-label-preserved c =
    let ws = c.args.labels.now in
    let i = c.loop-label.label-index in
    let d : Bor (List ℕ) = record { ref_ptr = (0, 0); now = [] } in
    let f : Word → Option Word = variable_at (noted c.args.used.now) in
    elim c.match-variable.branch [
      | in-Some+in_ok-push w ↦
          let v = w.in-Some.variable in
          let is : f (get_or ws i d).now ≡ Some v.now =
          sym c.variable.ensures ∙ ap (option_map (λ (x : Bor (List ℕ)). x.now)) w.in-Some.is in
          rw w.made-is
          (ap seen_words w.in_ok-push.ensures.items
          ∙ map-append (λ (x : Bor (List ℕ)). x.now) c.loop-label.made.items (v ∷ [])
          ∙ ap (λ (us : List Word). us ++ v.now ∷ []) c.loop-label.invariant
          ∙ sym (values_some f ws i d v.now c.loop-label-test.true is))
      | in_default w ↦
          let none : c.variable.result ≡ None = search rules in
          let is : f (get_or ws i d).now ≡ None = sym c.variable.ensures ∙ ap (option_map (λ (x : Bor (List ℕ)). x.now)) none in
          rw w.made-is (c.loop-label.invariant ∙ sym (values_none f ws i d c.loop-label-test.true is))
    ]

pub loop-label-init : goal.loop-label-init
loop-label-init c = ap seen_words c.new-made.ensures.items

pub returns : goal.returns
returns c =
    let l = c.loop-label in
    l.invariant
    ∙ ap (λ (ws : List (Bor (List ℕ))). filter_map (variable_at (noted c.args.used.now)) (seen_words ws))
    (take_all l.label-index c.args.labels.now c.loop-label-test.false)
