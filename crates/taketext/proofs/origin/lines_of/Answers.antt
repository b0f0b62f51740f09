-- What is left to show of `lines_of`.
use Rattle.std.proofs.Common.{◌∙◌, ℕ, List, sym, rules}
use Rattle.std.specs.Prelude.{◌≢◌, All}
use Rattle.taketext.specs.Reading.{IsCut}
use Rattle.taketext.proofs.Cutting.{cut_one, cut_there}
use Rattle.taketext.proofs.origin.lines_of.Goals as goal

pub returns-in_default : goal.returns-in_default
returns-in_default c =
    let text : List ℕ = c.args.text.now in
    let none : All (λ b. b ≢ 10) text = search rules in
    λ first third h. cut_there 10 text first _ none h.are

pub returns-in_default-cut : goal.returns-in_default-cut
returns-in_default-cut c =
    let text : List ℕ = c.args.text.now in
    let front : List ℕ = c.in-Some.first.now in
    let behind : List ℕ = c.in-Some.behind.now in
    let cut : IsCut text 10 front behind = search rules in
    let none : All (λ b. b ≢ 10) behind = search rules in
    λ first third h. cut_there 10 behind h.second _ none (cut_one 10 front first _ _ cut.first h.in_first (sym cut.is ∙ h.are)).1

pub returns-in-None : goal.returns-in-None
returns-in-None c =
    let text : List ℕ = c.args.text.now in
    let front : List ℕ = c.in-Some.first.now in
    let behind : List ℕ = c.in-Some.behind.now in
    let second : List ℕ = c.in-Some-cut._second.now in
    let left : List ℕ = c.in-Some-cut.behind.now in
    let cut : IsCut text 10 front behind = search rules in
    let next : IsCut behind 10 second left = search rules in
    let none : All (λ b. b ≢ 10) left = search rules in
    λ first third h.
    let later = (cut_one 10 front first _ _ cut.first h.in_first (sym cut.is ∙ h.are)).1 in
    let last = (cut_one 10 second h.second _ _ next.first h.in_second (sym next.is ∙ later)).1 in
    cut_there 10 left third _ none last
