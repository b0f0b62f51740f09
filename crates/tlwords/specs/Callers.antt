-- What callers say of words and passes together.
use Rattle.std.specs.Prelude.{◌≡◌, ℕ, Some, List, length, map, All}
use Rattle.tlwords.specs.declared.words.Words.{Words}
use Rattle.ranges.specs.Ranges.{ranges_named}
use Rattle.tlwords.specs.Terms.{Terms}
use Rattle.tlwords.specs.Runs.{down}
use Rattle.tlwords.specs.Known.{WordsHome, Known, Knows}
use Rattle.tlwords.specs.Calls.{new_pass}

module _ {L S N : Type 0} where
  -- the opening that the words are of
  abbrev pub home_of : Words L S N → WordsHome S
  home_of words =
      record {
        table = words.table.shared.table_id;
        setting = Some words.table.shared.key.setting.value;
        base = words.table.shared.key.values.value.items;
        room = words.room;
      }

  -- the pass sits at the words' table
  abbrev pub SitsAt : Words L S N → Known S N → Type 0
  SitsAt words pass = pass.home.table ≡ words.table.shared.table_id

  -- the words and the pass are of one opening
  abbrev pub AreOfOneOpening : Words L S N → Known S N → Type 0
  AreOfOneOpening words pass = pass.home ≡ home_of words

  -- a memory was opened so, with these passes
  pub record IsOpened (terms : Terms S N) (setting : S) (values store : List ℕ) (room sessions : ℕ) (words : Words L S N)
      (dealt : List (Known S N)) : Type 0 where
    pub sizes : (words.cells ≡ length values) × (words.room ≡ room)
    pub key : (words.table.shared.key.setting.value ≡ setting) × (words.table.shared.key.values.value.items ≡ values)
        × (words.table.shared.key.store.value.items ≡ store) × (words.table.shared.key.sessions ≡ sessions)
    pub passes : All (λ p. p ≡ new_pass (home_of words) (ranges_named (terms.ranged setting) store values) p.name) dealt
    pub sound : All (λ p. Knows terms p) dealt
    pub names : map (λ p. p.name) dealt ≡ down sessions sessions
