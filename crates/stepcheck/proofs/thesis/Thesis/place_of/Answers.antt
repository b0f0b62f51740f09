use Rattle.std.proofs.Common.{◌≡◌, ap, ◌∙◌}
use Rattle.derivation.specs.Lookups.{ArePairsSorted}
use Rattle.derivation.proofs.Lookups.{pair-searched}
use Rattle.stepcheck.proofs.thesis.Thesis.place_of.Goals as goal

pub returns-then-self : goal.returns-then-self
returns-then-self c =
    let pairs = c.as_slice-pairs.result.now in
    let sorted : ArePairsSorted pairs = rw c.as_slice-pairs.ensures (c.self.invariant c.if-self.true) in
    let search = c.binary_search.ensures in
    let found = pair-searched pairs c.args.pair c.binary_search.result sorted search.bound search.position in
    let same : pairs ≡ c.args.self.now.pairs = c.as_slice-pairs.ensures ∙ ap (λ a. a.pairs) c.self.view_is in
    rw (c.ok.ensures.value, ← same) found
