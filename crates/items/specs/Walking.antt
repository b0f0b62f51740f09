-- Of the code's inside, apart from the rules: the way through a statement to the first line of its proof.
use Rattle.std.specs.Prelude.{◌≡◌, ℕ, Bool, true, false, List, ◌∷◌, Option, codes}
use Rattle.std.specs.Option.{option_map}
use Rattle.mmtext.specs.Words.{Word}
use Rattle.giving.specs.Staying.{Change}
use Rattle.items.specs.declared.indentation.StatementPlace.{StatementPlace}
use Rattle.items.specs.declared.indentation.Next.{Next}
use Rattle.items.specs.declared.indentation.Next.TheVariants.{Goes, Ends}
use Rattle.items.specs.Items.{Item, Spells}
use Rattle.items.specs.Layout.{indents}
use Rattle.items.specs.Indentations.{plain, behind, up_to, first_of, indentations}

-- what is found behind words of a statement, up to its $= or behind it
abbrev pub from_part : Bool → Item → Option (List ℕ)
from_part true ps = first_of (indents (up_to (codes "$.") ps))
from_part false ps = first_of (indents (up_to (codes "$.") (behind (codes "$=") ps)))

abbrev pub found_from : StatementPlace → Item → Option (List ℕ)
found_from w ps = from_part w.in_proof (plain w.is_open ps)

-- one word more leads on, or to the end
abbrev pub LeadsTo : StatementPlace → List ℕ → Word → Next → Type 0
LeadsTo w space word (Goes next) = (ps : Item) → found_from w (record { space = space; word = word } ∷ ps) ≡ found_from next ps
LeadsTo w space word (Ends found) =
    (ps : Item) → found_from w (record { space = space; word = word } ∷ ps) ≡ option_map (λ i. i.now) found

-- these are the indentations of the items of a text
pub record AreIndentations (source : List ℕ) (cs : List Change) : Type 0 where
  pub items : List Item
  pub rest : List ℕ
  pub spells : Spells items rest source
  pub are : cs ≡ indentations items
