-- Of the code's inside, apart from the rules: what transactions do to an editor and to the count of those that are committed.
use Rattle.std.specs.Prelude.{◌≡◌, ◌+◌, ℕ, List, [], ◌∷◌, length}
use Rattle.mmsyntax.specs.Tables.{Contents}
use Rattle.mmsyntax.specs.declared.limits.TheConstants.{MOST_ASSERTIONS}
use Rattle.library.specs.declared.command.Command.{Command}
use Rattle.library.specs.declared.library.Ranked.{Ranked}
use Rattle.library.specs.Library.{Setting, setting_over, opening}
use Rattle.library.specs.Histories.{after_all}
use Rattle.transaction.specs.declared.outcome.Outcome.{Outcome}
use Rattle.plainediting.specs.declared.desk.Desk.{Desk}
use Rattle.plainediting.specs.Outcomes.{outcome_over, entries_of, history_after}

-- an editor on the opening of a database, on which nothing is committed
abbrev pub first_desk : Contents → Desk
first_desk db = record { editor = record { setting = setting_over db MOST_ASSERTIONS; library = opening db }; committed = 0 }

-- a transaction has its outcome, and its entries are behind those before
pub record Does (old : Desk) (cs : List Command) (o : Outcome) (new : Desk) : Type 0 where
  pub setting : new.editor.setting ≡ old.editor.setting
  pub outcome : o ≡ outcome_over old.editor.setting old.editor.library old.committed cs
  pub library : new.editor.library ≡ after_all old.editor.setting old.editor.library (entries_of cs o)
  pub count : new.committed ≡ old.committed + length (entries_of cs o)

-- transactions have their outcomes, one after another, from a library where n are committed
abbrev pub HaveOutcomes : Setting → List Ranked → ℕ → List (List Command) → List Outcome → Type 0
HaveOutcomes s lib n [] [] = Unit {0}
HaveOutcomes s lib n [] (o ∷ os) = ⊥
HaveOutcomes s lib n (cs ∷ rest) [] = ⊥
HaveOutcomes s lib n (cs ∷ rest) (o ∷ os) =
    (o ≡ outcome_over s lib n cs)
    × HaveOutcomes s (after_all s lib (entries_of cs o)) (n + length (entries_of cs o)) rest os

-- so they have, and their history is behind those before
pub record DoesAll (old : Desk) (transactions : List (List Command)) (outcomes : List Outcome) (new : Desk) : Type 0 where
  pub setting : new.editor.setting ≡ old.editor.setting
  pub outcomes_are : HaveOutcomes old.editor.setting old.editor.library old.committed transactions outcomes
  pub library : new.editor.library ≡ after_all old.editor.setting old.editor.library (history_after transactions outcomes)
  pub count : new.committed ≡ old.committed + length (history_after transactions outcomes)
