-- What is left to show of `used_floats`.
use Rattle.std.proofs.Common.{◌≡◌, ◌∙◌, ◌++◌, ◌∷◌, [], ℕ, Bool, true, false, List, get_or, sym, ap, rules}
use Rattle.std.specs.Prelude.{filter}
use Rattle.std.specs.Borrow.{Bor}
use Rattle.std.proofs.lemmas.List.{map-append, take_all}
use Rattle.mmtext.specs.Words.{Word}
use Rattle.source.specs.Views.{seen_words}
use Rattle.sites.specs.Used.{is_noted}
use Rattle.sites.proofs.Listing.{passes, fails}
use Rattle.sites.proofs.gathering.used_floats.Goals as goal
use Rattle.sites.proofs.gathering.used_floats.Goals.{then-contains_key+in_ok-push, else-contains_key}

pub loop-label-init : goal.loop-label-init
loop-label-init c = ap seen_words c.new-made.ensures.items

pub loop-label-preserved : goal.loop-label-preserved
loop-label-preserved c =
    let ws = c.args.labels.now in
    let i = c.loop-label.label-index in
    let d : Bor (List ℕ) = record { ref_ptr = (0, 0); now = [] } in
    let p : Word → Bool = is_noted c.args.used.now in
    elim c.if-contains_key.branch [
      | then-contains_key+in_ok-push w ↦
          let is : p (get_or ws i d).now ≡ true = search rules in
          rw w.made-is
          (ap seen_words w.in_ok-push.ensures.items
          ∙ map-append (λ (x : Bor (List ℕ)). x.now) c.loop-label.made.items (get_or ws i d ∷ [])
          ∙ ap (λ (us : List Word). us ++ (get_or ws i d).now ∷ []) c.loop-label.invariant
          ∙ sym (passes p ws i d c.loop-label-test.true is))
      | else-contains_key w ↦
          let is : p (get_or ws i d).now ≡ false = search rules in
          rw w.made-is (c.loop-label.invariant ∙ sym (fails p ws i d c.loop-label-test.true is))
    ]

pub returns : goal.returns
returns c =
    let l = c.loop-label in
    l.invariant
    ∙ ap (λ (ws : List (Bor (List ℕ))). filter (is_noted c.args.used.now) (seen_words ws))
    (take_all l.label-index c.args.labels.now c.loop-label-test.false)
