-- What is left to show of `vanished_of`: where nothing was given up nothing vanished, and else the look-ups hold what they are made of.
use Rattle.std.proofs.Common.{◌≡◌, ◌∙◌, [], ℕ, List, ap, length, map, rules, sym, Bor, Vec, Global}
use Rattle.std.specs.Prelude.{◌&&◌, filter}
use mathlib.Core.Bool.{not}
use Rattle.std.proofs.lemmas.List.{nil_from_length}
use Rattle.std.proofs.lemmas.Result.{IfOk-weaker}
use Rattle.mmtext.specs.Words.{Word}
use Rattle.source.specs.Scopes.{is_in}
use Rattle.source.specs.Views.{seen_words}
use Rattle.sourceediting.specs.Following.{label_then}
use Rattle.sourceediting.specs.Views.{seen_following}
use Rattle.sourceediting.proofs.Marks.{firsts, firsts_marked}
use Rattle.mentions.specs.Vanished.{given_up, vanished}
use Rattle.mentions.proofs.Telling.{none_vanished}
use Rattle.mentions.proofs.vanished.vanished_of.Goals as goal

pub returns-then-is_empty : goal.returns-then-is_empty
returns-then-is_empty g c =
    let f = seen_following c.args.following.now in
    let given = c.in_ok-given_up.given_up.items in
    let long : length given ≡ 0 = search rules in
    let none : given_up f ≡ [] = sym c.in_ok-given_up.ensures ∙ ap seen_words (nil_from_length given long) in
    ap seen_words c.new.ensures.items ∙ sym (none_vanished (given_up f) (map label_then f.living) _ none)

pub returns : goal.returns
returns g c =
    let f = seen_following c.args.following.now in
    let s = g.D.Declared.scope c.args.old.now in
    let marks = firsts c.in_ok-marks.marks in
    let living = firsts c.in_ok-living.living in
    let given : marks ≡ given_up f =
    ap firsts c.in_ok-marks.ensures ∙ firsts_marked (seen_words c.as_slice.result.now)
    ∙ ap seen_words c.as_slice.ensures.value ∙ c.in_ok-given_up.ensures in
    let then : living ≡ map label_then f.living =
    ap firsts c.in_ok-living.ensures ∙ firsts_marked (seen_words c.as_slice-2.result.now)
    ∙ ap seen_words c.as_slice-2.ensures.value ∙ c.in_ok-then.ensures in
    let pass : List Word → List Word → List Word → List Word =
    λ gs ls ws. filter (λ w. is_in gs w && not (is_in ls w)) ws in
    IfOk-weaker c.picked.result
    (λ (made : Vec (Bor (List ℕ)) Global). seen_words made.items ≡ pass marks living (seen_words c.labels.result.now))
    (λ (made : Vec (Bor (List ℕ)) Global). seen_words made.items ≡ vanished s f)
    (λ made is. is ∙ ap (pass marks living) c.labels.ensures ∙ ap (λ gs. pass gs living s.labels) given
    ∙ ap (λ ls. pass (given_up f) ls s.labels) then) c.picked.ensures
