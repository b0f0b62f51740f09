-- Why what scripts put beside assertions of a source gets no rank.
use Rattle.std.specs.Prelude.{ℕ, Bool, List}
use Rattle.mmtext.specs.Text.{Token}
use Rattle.mmtext.specs.Views.{seen}
use Rattle.source.specs.Scopes.{Scope}
use Rattle.expanding.specs.Ranking.{IsCrowded}
use Rattle.expanding.specs.declared.unranked.Unranked.{Unranked}
use Rattle.expanding.specs.declared.unranked.Unranked.TheVariants as unranked

-- the first word that puts something where no more may be put
abbrev pub IsUnranked : Scope → List Bool → List ℕ → List Token → Unranked → Type 0
IsUnranked s flags earlier ts (unranked.Crowded t) = IsCrowded s flags earlier ts (seen t)
IsUnranked s flags earlier ts unranked.NoMemory = Unit {0}
