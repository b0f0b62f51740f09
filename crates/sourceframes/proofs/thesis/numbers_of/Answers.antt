-- What is left to show of `numbers_of`.
use Rattle.std.proofs.Common.{◌≡◌}
use Rattle.sourceframes.specs.Names.{words_of}
use Rattle.sourceframes.proofs.Numbered.{lasts_on}
use Rattle.sourceframes.proofs.thesis.numbers_of.Goals as goal

pub returns-clause-made : goal.returns-clause-made
returns-clause-made c = λ more.
    let first = lasts_on (words_of c.number.new.self) (words_of c.number-2.new.self) (λ name. name c.in_ok-first.first ≡ c.args.pair.0.now)
    c.in_ok-second.ensures.keeps.grows c.in_ok-first.ensures.named more in
    let second = c.in_ok-second.ensures.named more in
    cc
