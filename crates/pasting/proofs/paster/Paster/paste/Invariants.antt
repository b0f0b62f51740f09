-- What the loop of `paste` keeps, and that it ends.
use Rattle.std.proofs.Common.{◌≤◌, ◌-◌, List, map, length, drop}
use Rattle.mmtext.specs.Text.{Token}
use Rattle.mmtext.specs.Views.{seen}
use Rattle.source.specs.Scopes.{Assertion}
use Rattle.expanding.specs.Views.{IsLaid}
use Rattle.pasting.specs.Views.{AreKnown, places_by}
use Rattle.pasting.proofs.Pasting.{IsPasting}
use Rattle.pasting.proofs.paster.Paster.paste.Given as goal

abbrev pub invariant-loop-at : goal.invariant-loop-at
invariant-loop-at g l = record {
  within : l.at ≤ length l.words;
  pasting : (xs : List Assertion) → AreKnown (places_by l.self) l.self.database.now.prelude xs l.additions → (out : List Token)
      × IsLaid out l.laid
      × IsPasting (places_by l.self) l.self.database.now.prelude (g.D.Declared.scope l.declared) xs (map seen l.words)
      (map seen (drop l.at l.words)) out;
}

abbrev pub decreases-loop-at : goal.decreases-loop-at
decreases-loop-at g l = length l.words - l.at
