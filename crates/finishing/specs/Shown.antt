-- Of the code's inside, apart from the rules: the library that closed words show.
use Rattle.std.specs.Prelude.{◌≡◌, ◌≤◌, ◌*◌, ℕ, List, length, map}
use Rattle.library.specs.declared.library.Ranked.{Ranked}
use Rattle.library.specs.Library.{Setting, Listed, ShowsInOrder, Verifies}
use Rattle.cells.specs.Shows.{Shows}
use Rattle.plaincells.specs.PlainViews.{named_state, ShowNamed}
use Rattle.tlwords.specs.declared.closing.ClosedWords.{ClosedWords}
use Rattle.mmsyntax.specs.declared.limits.TheConstants.{MOST_ASSERTIONS}
use Rattle.cells.specs.State.{most_words}

-- the values of the cells
abbrev pub values_of : ClosedWords → List ℕ
values_of words = map (λ x. x.value) words.cells.items

-- the words lie as those of a library of this setting, and show one that verifies
pub record ShowsAtEnd (setting : Setting) (words : ClosedWords) : Type 0 where
  pub some : 1 ≤ setting.slots
  pub few : setting.slots ≤ MOST_ASSERTIONS
  pub count : length (values_of words) ≡ 7 * setting.slots
  pub small : length words.store.items ≤ most_words
  pub shows : ShowNamed setting (values_of words) words.store.items

-- the library is every one that the words show and that verifies, in order
pub record IsShownBy (setting : Setting) (words : ClosedWords) (library : Listed) : Type 0 where
  pub setting_is : library.setting ≡ setting
  pub shown : (lib : List Ranked) → Shows setting.slots (named_state setting.slots (values_of words) words.store.items) lib
      → Verifies setting lib → ShowsInOrder lib library.entries
