-- What the loop of `texts_of` keeps: what is left gives the rest of the texts.
use Rattle.std.proofs.Common.{◌≡◌, List, drop, map}
use Rattle.giving.specs.Changes.{seen_texts}
use Rattle.items.specs.Indentations.{indentations}
use Rattle.items.specs.Items.{Item}
use Rattle.pasting.specs.Views.{seen_given_proof}
use Rattle.dressing.proofs.Quoting.{Leads}
use Rattle.dressing.proofs.texts.texts_of.Given as goal

abbrev pub invariant-loop-one : goal.invariant-loop-one
invariant-loop-one g l =
    (items : List Item) → l.indented ≡ indentations items
    → Leads (g.D.Declared.scope l.declared) items (map seen_given_proof l.given) (seen_texts l.texts.items)
    (map seen_given_proof (drop l.one-index l.given))
