-- What is left to show of `wish`.
use Rattle.std.proofs.Common.{Option, Some, None, List, ℕ, rules}
use Rattle.std.specs.Prelude.{MatchOption}
use Rattle.choosing.specs.declared.wish.Wish.{Wish}
use Rattle.mmtext.specs.Words.{Word}
use Rattle.source.specs.Views.{seen_words}
use Rattle.taketext.specs.Origins.{Tells, TellsNothing}
use Rattle.taketext.specs.Reading.{IsOrigin, AreWishWords}
use Rattle.taketext.proofs.Telling.{tells, tells_none}
use Rattle.taketext.proofs.origin.Origin.wish.Goals as goal

case : (text path : List ℕ) (ws : List Word) (r : Option Wish) → MatchOption r ((w : Wish) → AreWishWords ws w → ⊥) (AreWishWords ws)
    → IsOrigin text path ws → MatchOption r (TellsNothing text) (Tells text path)
case text path ws None h o = tells_none text path ws o h
case text path ws (Some w) h o = tells text path ws o w h

pub returns : goal.returns
returns c =
    λ text o. let words : List Word = seen_words c.args.self.now.words.items in
    case text c.args.self.now.path.now words c.wish_of.result (search rules) o
