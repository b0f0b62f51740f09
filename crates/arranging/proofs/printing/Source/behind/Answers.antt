-- What is left to show of `behind`.
use Rattle.std.proofs.Common.{◌≡◌, ◌-◌, ◌<◌, suc, length, get_or, subst, arith}
use Rattle.items.specs.declared.reading.Item.{Item as Found}
use Rattle.items.specs.declared.reading.Kind.TheVariants.{Comment}
use Rattle.items.specs.Reading.{IsBehind}
use Rattle.items.proofs.Found.{behind_one}
use Rattle.arranging.proofs.printing.Source.behind.Goals as goal

pub returns-else-count-eq0-clause-behind : goal.returns-else-count-eq0-clause-behind
returns-else-count-eq0-clause-behind c = λ old h.
    let text = c.args.self.text.now in
    let fs = c.args.self.items.now in
    let k = c.args.count - 1 in
    let none : Found = record { kind = Comment; end = 0 } in
    let count = c.requires.count in
    let lt : k < length fs = omega (arith, count) in
    let more : suc k ≡ c.args.count = omega arith in
    subst (λ n. IsBehind text 0 fs old n (get_or fs k none).end) more (behind_one text 0 fs old k none lt h)

pub returns-else-count-eq0-clause-within : goal.returns-else-count-eq0-clause-within
returns-else-count-eq0-clause-within c =
    let fs = c.args.self.items.now in
    let k = c.args.count - 1 in
    let none : Found = record { kind = Comment; end = 0 } in
    let count = c.requires.count in
    let lt : k < length fs = omega (arith, count) in
    (behind_one c.args.self.text.now 0 fs c.requires.items.0 k none lt c.requires.items.1).within
