-- What is left to show of `put_first`.
use Rattle.std.proofs.Common.{◌≡◌, ◌∙◌, true, false, sym, rules}
use Rattle.std.specs.Option.{is_some}
use Rattle.expanding.specs.InFront.{looks_up}
use Rattle.expanding.proofs.Fronting.{finds_again, finds_new}
use Rattle.expanding.proofs.in_front.put_first.Goals as goal

pub returns-in_ok-insert : goal.returns-in_ok-insert
returns-in_ok-insert c = λ fs found.
    let m = c.args.fronts.now in
    let known : c.contains_key.result ≡ is_some (looks_up m c.args.place) = search rules in
    let absent : is_some (looks_up m c.args.place) ≡ false = sym known ∙ search rules in
    finds_new m fs c.args.place found c.insert.new.self c.args.comment absent c.in_ok-insert.ensures.updates.0

pub returns-else-not-contains_key : goal.returns-else-not-contains_key
returns-else-not-contains_key c = λ fs found.
    let m = c.args.fronts.now in
    let known : c.contains_key.result ≡ is_some (looks_up m c.args.place) = search rules in
    let there : is_some (looks_up m c.args.place) ≡ true = sym known ∙ search rules in
    finds_again m fs c.args.place found c.args.comment.now there
