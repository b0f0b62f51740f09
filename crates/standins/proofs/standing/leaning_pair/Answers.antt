-- What is left to show of `leaning_pair`: look-ups find labels that are these.
use Rattle.std.proofs.Common.{◌≡◌, ◌∙◌, ℕ, true, false, List, Option, Some, None, sym, ap, Bor}
use Rattle.std.specs.Prelude.{◌&&◌, is_some}
use Rattle.std.specs.Option.{option_map}
use Rattle.std.specs.Str.{bytes_eq}
use Rattle.std.proofs.lemmas.Bool.{and_from, and_left, and_right, cond-true, cond-false}
use Rattle.mmsyntax.proofs.Distinct.{is_some-place_of}
use Rattle.source.specs.Scopes.{is_in}
use Rattle.standins.specs.Views.{pair_of}
use Rattle.standins.proofs.standing.leaning_pair.Goals as goal
use Rattle.standins.proofs.standing.leaning_pair.Goals.{else-is_some-via-then-is_some+else-is_some-2, else-is_some-via-else-is_some}

pub returns-then-is_some-2 : goal.returns-then-is_some-2
returns-then-is_some-2 c =
    let told = c.args.told.now in
    let again = c.args.reproved.now in
    let source = c.in_ok-source.source.now in
    let first = c.args.followed.now.first.now in
    let one : is_in told source ≡ true =
    sym (c.is_some.ensures ∙ ap is_some c.place.ensures.place ∙ is_some-place_of (bytes_eq source) told) ∙ c.if-is_some.true in
    let other : is_in again first ≡ true =
    sym (c.is_some-then-is_some.ensures ∙ ap is_some c.place-then-is_some.ensures.place ∙ is_some-place_of (bytes_eq first) again)
    ∙ c.if-is_some-2.true in
    sym (cond-true (is_in told source && is_in again first) (Some (source, first)) None (and_from _ _ one other))
    ∙ ap (λ (o : Option (Bor (List ℕ))). pair_of told again first (option_map (λ w. w.now) o)) (sym c.in_ok-source.was)

pub returns : goal.returns
returns c =
    let told = c.args.told.now in
    let again = c.args.reproved.now in
    let source = c.in_ok-source.source.now in
    let first = c.args.followed.now.first.now in
    let fails = λ (not_both : (is_in told source && is_in again first) ≡ false).
    sym (cond-false (is_in told source && is_in again first) (Some (source, first)) None not_both)
    ∙ ap (λ (o : Option (Bor (List ℕ))). pair_of told again first (option_map (λ w. w.now) o)) (sym c.in_ok-source.was) in
    elim c.else-is_some.branch [
      | else-is_some-via-then-is_some+else-is_some-2 w ↦
          let other : is_in again first ≡ false =
          sym (w.is_some-then-is_some.ensures ∙ ap is_some w.place-then-is_some.ensures.place ∙ is_some-place_of (bytes_eq first) again)
          ∙ w.if-is_some-2.false in
          fails (and_right (is_in told source) (is_in again first) other)
      | else-is_some-via-else-is_some w ↦
          let one : is_in told source ≡ false =
          sym (c.is_some.ensures ∙ ap is_some c.place.ensures.place ∙ is_some-place_of (bytes_eq source) told) ∙ w.if-is_some.false in
          fails (and_left (is_in told source) (is_in again first) one)
    ]
