-- Of the code's inside, apart from the rules: how contracts see scripts on the way to those that are run, and what is begun with.
use Rattle.std.specs.Prelude.{◌≡◌, ℕ, Bool, List, [], map, All}
use Rattle.mmtext.specs.Text.{Token}
use Rattle.source.specs.Scopes.{Scope}
use Rattle.library.specs.Fitting.{CommandFits}
use Rattle.checking.specs.Checks.{Bytes, Orders, AreScripts}
use Rattle.derivation.specs.Databases.{AllCheck}
use Rattle.standins.specs.StandIns.{stand_ins}
use Rattle.standins.specs.Views.{IsOpened, opened_database}
use Rattle.editopening.specs.declared.beginning.Begun.{Begun as CodeBegun}
use Rattle.editscripts.specs.Expanded.{ArePasted, RankedScript, AreRanked, texts_of}
use Rattle.editscripts.specs.Expanded.{IsSpreadOf}
use Rattle.editopening.specs.Opening.{IsTakenFor}
use Rattle.editscripts.specs.Described.{AreDescriptive}
use Rattle.editscripts.specs.Encouraged.{AreAllowed}
use Rattle.editscripts.specs.Quoted.{AreQuotesOf}
use Rattle.editscripts.specs.Views.{beginnings_of, seen_descriptions, seen_quotes}

-- the library that scripts ask of a source, and the scripts as they are read over it
pub record IsBegun (source : Bytes) (s : Scope) (texts : List Bytes) (force : Bool) (b : CodeBegun) : Type 0 where
  pub spread : List (List Token)
  pub of_source : IsSpreadOf s texts spread
  pub allowed : AreAllowed source s force spread
  pub for_scripts : IsTakenFor s spread b.taken
  pub pasted : List (List Token)
  pub are_pasted : ArePasted s b.taken.chosen.items b.taken.database spread pasted
  pub ranked : List RankedScript
  pub gaps : List ℕ
  pub are_ranked : AreRanked s b.taken.chosen.items [] pasted ranked gaps
  pub beginnings : map (λ out. out.beginnings) ranked ≡ beginnings_of b.laid.items
  pub read : List Orders
  pub ordered : AreScripts b.taken.database.prelude (texts_of ranked) read
  pub opened : IsOpened (stand_ins s for_scripts.library.taken.choice b.taken spread read) b.taken.database read b.opened
  pub checks : AllCheck (opened_database b.taken.database b.opened)
  pub quotes : AreQuotesOf spread (seen_quotes b.quotes.items)
  pub descriptive : AreDescriptive texts spread (seen_descriptions b.descriptions.items)
  pub fit : All (All (All (CommandFits b.taken.database.prelude))) b.opened.scripts.items
