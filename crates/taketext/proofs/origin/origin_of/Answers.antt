-- What is left to show of `origin_of`.
use Rattle.std.proofs.Common.{ℕ, List, rules}
use Rattle.taketext.specs.Reading.{AreOriginLines}
use Rattle.taketext.proofs.Telling.{untold, chosen_in_line}
use Rattle.taketext.proofs.origin.origin_of.Goals as goal

pub returns-in_default : goal.returns-in_default
returns-in_default c =
    let none : (path chosen : List ℕ) → AreOriginLines c.args.library.now path chosen → ⊥ = search rules in
    untold c.args.library.now none

pub words_of-requires : goal.words_of-requires
words_of-requires c =
    let lines : AreOriginLines c.args.library.now c.in-Some.path.now c.in-Some.chosen.now = search rules in
    chosen_in_line c.args.library.now c.in-Some.path.now c.in-Some.chosen.now lines
