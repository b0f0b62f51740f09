-- What is left to show of `origin_lines_of`.
use Rattle.std.proofs.Common.{◌≡◌, ℕ, List, ◌++◌, rules, subst}
use Rattle.std.specs.Prelude.{◌≢◌, codes}
use Rattle.taketext.specs.Reading.{AreLines}
use Rattle.taketext.proofs.Cutting.{lines_one}
use Rattle.taketext.proofs.origin.origin_lines_of.Goals as goal

abbrev head : List ℕ
head = codes "$( Taken by mmrefactor from "

abbrev chosen_head : List ℕ
chosen_head = codes "   Chosen: "

pub returns-in_default-behind : goal.returns-in_default-behind
returns-in_default-behind c =
    let text : List ℕ = c.args.text.now in
    let first : List ℕ = c.in-Some.first.now in
    let third : List ℕ = c.in-Some.third.now in
    let are : AreLines text first third = search rules in
    let none : (rest : List ℕ) → first ≢ head ++ rest = search rules in
    λ path chosen h. none path (lines_one text first third _ _ are h).0

pub returns-in-Some-behind-2 : goal.returns-in-Some-behind-2
returns-in-Some-behind-2 c =
    let text : List ℕ = c.args.text.now in
    let first : List ℕ = c.in-Some.first.now in
    let third : List ℕ = c.in-Some.third.now in
    let are : AreLines text first third = search rules in
    let path : first ≡ head ++ c.in-Some-behind.path.now = search rules in
    let chosen : third ≡ chosen_head ++ c.in-Some-behind-2.chosen.now = search rules in
    subst (λ (l : List ℕ). AreLines text l (chosen_head ++ c.in-Some-behind-2.chosen.now)) path
    (subst (λ (l : List ℕ). AreLines text first l) chosen are)

pub returns-in-None : goal.returns-in-None
returns-in-None c =
    let text : List ℕ = c.args.text.now in
    let first : List ℕ = c.in-Some.first.now in
    let third : List ℕ = c.in-Some.third.now in
    let are : AreLines text first third = search rules in
    let none : (rest : List ℕ) → third ≢ chosen_head ++ rest = search rules in
    λ path chosen h. none chosen (lines_one text first third _ _ are h).1
