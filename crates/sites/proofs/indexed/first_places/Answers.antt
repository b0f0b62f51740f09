-- What is left to show of `first_places`.
use Rattle.std.proofs.Common.{◌≡◌, ◌∙◌, ◌+◌, ◌<◌, ◌≤◌, ◌++◌, ◌∷◌, [], take, length, get_or, sym, subst, ap, List, rules, arith, true, false, ℕ}
use Rattle.std.specs.Borrow.{Bor}
use Rattle.std.specs.Option.{is_some}
use Rattle.std.proofs.lemmas.List.{map_more, length-map, length-take-le}
use Rattle.mmtext.specs.Words.{Word}
use Rattle.source.specs.Views.{seen_words}
use Rattle.sites.specs.Indexes.{looks_up, FindsPlaces}
use Rattle.sites.proofs.Places.{finds_again, finds_new}
use Rattle.sites.proofs.indexed.first_places.Goals as goal
use Rattle.sites.proofs.indexed.first_places.Goals.{then-not-contains_key+in_ok-insert, else-not-contains_key}

pub loop-place-preserved : goal.loop-place-preserved
loop-place-preserved c =
    let words = c.args.words.now in
    let i = c.loop-place.place in
    let d : Bor (List ℕ) = record { ref_ptr = (0, 0); now = [] } in
    let x : Word = (get_or words i d).now in
    let front = seen_words (take i words) in
    let old = c.loop-place.places in
    let within : i ≤ length words = omega arith in
    let many : i ≡ length front = sym (length-map (take i words) _ ∙ length-take-le i words within) in
    let more : seen_words (take (i + 1) words) ≡ front ++ x ∷ [] = map_more _ words i d c.loop-place-test.true in
    let known : c.contains_key.result ≡ is_some (looks_up old x) = c.contains_key.ensures in
    elim c.if-not-contains_key.branch [
      | then-not-contains_key+in_ok-insert w ↦
          let absent : is_some (looks_up old x) ≡ false = sym known ∙ search rules in
          let finds : FindsPlaces w.insert.new.self (front ++ x ∷ []) =
          finds_new old w.insert.new.self front x i c.loop-place.invariant many absent w.in_ok-insert.ensures.updates in
          rw (w.places-is, more) finds
      | else-not-contains_key w ↦
          let there : is_some (looks_up old x) ≡ true = sym known ∙ search rules in
          rw (w.places-is, more) (finds_again old front x c.loop-place.invariant there)
    ]
