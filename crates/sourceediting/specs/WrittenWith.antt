-- Of the code's inside, apart from the rules: what edits are written with, and what can't be put in by it.
use Rattle.std.specs.Prelude.{◌≡◌, List}
use Rattle.mmtext.specs.Words.{Word}
use Rattle.source.specs.Scopes.{Scope}
use Rattle.sourcewriting.specs.declared.adding.Vocabulary.{Vocabulary}
use Rattle.sourceediting.specs.declared.rearranging.Rearranged.{Rearranged}
use Rattle.sourceediting.specs.Entries.{Edition}
use Rattle.sourceediting.specs.Following.{Followed}
use Rattle.sourceediting.specs.Refusals.{IsNotPutIn}
use Rattle.sourceediting.specs.Views.{seen_living, edition_of, AreThen, FindsLabels, AreSpelledAs}

-- it tells of the edited library
pub record AreWrittenWith (s : Scope) (x : Rearranged) : Type 0 where
  pub told : AreThen s (edition_of x.planned) (seen_living x.planned.living.now) x.names.now
  pub finds : FindsLabels x.edited.now (edition_of x.planned)

-- so does this, and of the words of symbols
pub record IsVocabularyOf (s : Scope) (e : Edition) (living : List Followed) (v : Vocabulary) : Type 0 where
  pub told : AreThen s e living v.names.now
  pub finds : FindsLabels v.edited.now e
  pub prelude : v.prelude.now ≡ e.edited.setting.prelude
  pub spelled : AreSpelledAs e v.words.now

abbrev pub IsNotPut : Scope → Rearranged → Word → Type 0
IsNotPut s x label = IsNotPutIn s (edition_of x.planned) (seen_living x.planned.living.now) x.changes.now label
