-- What is left to show of `called_of`.
use Rattle.source.specs.Scopes.{is_in}
use Rattle.source.specs.Views.{seen_words, seen_pairs}
use Rattle.expanding.specs.Bearing.{bearers_for}
use Rattle.expanding.proofs.Raising.{all_among, are_bearers}
use Rattle.expanding.proofs.bearers.called_of.Goals as goal

pub returns : goal.returns
returns c =
    let rs = seen_pairs c.args.renames.now.pairs.items in
    let labels = seen_words c.args.labels.now in
    let g = bearers_for c.spread.new.called in
    are_bearers rs g c.in_ok-spread.ensures.spread labels
    (all_among (bearers_for c.begin.new.called) g labels c.in_ok-spread.ensures.up c.in_ok-begin.ensures.each)
    (c.in_ok-spread.ensures.backed (is_in labels) (c.in_ok-begin.ensures.backed rs))
