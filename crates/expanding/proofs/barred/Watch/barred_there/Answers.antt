-- What is left to show of `barred_there`.
use Rattle.std.proofs.Common.{◌≡◌, ◌∙◌, true, false, sym, rules}
use Rattle.source.specs.Scopes.{is_in}
use Rattle.expanding.specs.Bars.{seen_bar, bars_there}
use Rattle.expanding.proofs.Barring.{barred_nowhere, barred_here}
use Rattle.expanding.proofs.barred.Watch.barred_there.Goals as goal

pub returns-then-not-bars_there : goal.returns-then-not-bars_there
returns-then-not-bars_there g c = λ asked cs watch.
    let s = g.D.Declared.scope c.args.declared.now in
    let isnt : bars_there s cs c.args.place (seen_bar c.args.bar) ≡ false = sym (c.bars_there.ensures cs watch.moved) ∙ search rules in
    barred_nowhere s asked cs (seen_bar c.args.bar) c.args.place isnt

pub returns : goal.returns
returns g c = λ asked cs watch.
    let s = g.D.Declared.scope c.args.declared.now in
    let there : bars_there s cs c.args.place (seen_bar c.args.bar) ≡ true = sym (c.bars_there.ensures cs watch.moved) ∙ search rules in
    let stays : is_in asked c.in_ok-by.by.now ≡ false = sym (c.holds.ensures ∙ watch.is_said.asked_for c.in_ok-by.by.now) ∙ search rules in
    barred_here s asked cs (seen_bar c.args.bar) c.args.place c.in_ok-by.by.now there c.in_ok-by.ensures stays
