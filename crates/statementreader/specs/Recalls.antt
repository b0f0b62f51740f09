-- Of the code's inside, apart from the rules: what is kept of words that were looked up.
use Rattle.std.specs.Prelude.{◌≡◌, ◌<◌, ℕ, Some, List, [], length, get_or}
use Rattle.std.specs.List.{All}
use Rattle.mmtext.specs.Words.{Word, has_dollar, is_label}
use Rattle.mmsyntax.specs.declared.symbols.Name.TheVariants as name
use Rattle.mmsyntax.specs.Tables.{Tables, meaning}
use Rattle.mmsyntax.specs.SymbolWords.{NamesFew}
use Rattle.statementreader.specs.declared.recent.Recalled.{Recalled}
use Rattle.statementreader.specs.declared.recent.Recent.{Recent}
use Rattle.statementreader.specs.declared.place.Place.{Place}
use Rattle.statementreader.specs.declared.place.Place.TheVariants as place
use Rattle.mmsyntax.specs.declared.limits.TheConstants.{MOST_DECLARED}

-- what is kept of a word is so, and a $f and a constant are one of 65,535
pub record IsTrueOf (t : Tables) (r : Recalled) : Type 0 where
  pub names : r.name ≡ meaning t r.word.now
  pub dollar : r.with_dollar ≡ has_dollar r.word.now
  pub label : r.is_label ≡ is_label r.word.now
  pub few : (j : ℕ) → r.name ≡ Some (name.Label j) → j < MOST_DECLARED
  pub symbol : NamesFew r.name

-- all that is kept is so
abbrev pub RecallsTrue : Tables → Recent → Type 0
RecallsTrue t r = All (λ e. IsTrueOf t e) r.entries.items

-- at a place all is kept of a word
abbrev pub IsKeptAt : Tables → List Recalled → ℕ → Word → Type 0
IsKeptAt t entries place w =
    (place < length entries) × ((d : Recalled) → ((get_or entries place d).word.now ≡ w) × IsTrueOf t (get_or entries place d))

-- in $c, $v and $f, which change the symbols, nothing is kept
abbrev pub IsKept : Place → Recent → Recent → Type 0
IsKept (place.Prelude p) old new = new.entries.items ≡ []
IsKept (place.Unit p) old new = new ≡ old
