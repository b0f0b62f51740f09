-- What is true of the openings of words that hold a library.
use Rattle.std.specs.Prelude.{◌≡◌, ℕ, List, [], ◌∷◌}
use Rattle.std.specs.declared.snapshot.Snapshot.{Snapshot}
use Rattle.library.specs.declared.command.Command.{Command}
use Rattle.library.specs.declared.command.Command.TheVariants.{Show}
use Rattle.library.specs.declared.command.Reply.{Reply}
use Rattle.library.specs.Library.{IsSetting, Verifies}
use Rattle.tlwords.specs.Terms.{AreNamed}
use Rattle.ranges.specs.Pairs.{Pairs}
use Rattle.ranges.specs.Ranges.{Range, AreOfOneStore, ranges_named}
use Rattle.cells.specs.State.{most_words}
use Rattle.plaincells.specs.declared.plain.PlainCells.{PlainCells}
use Rattle.plaincells.specs.Opening.{CellsOpen}
use Rattle.lawful.specs.declared.notes.Given.{Given}
use Rattle.lawful.specs.declared.notes.Note.TheVariants.{Done}
use Rattle.lawful.specs.Lawful.{setting_given, first_library, OpensWell, Lawful, library_terms}

-- where a database opened plain cells and its library verifies, these open words well: with the values of the cells, and the ranges of the
-- store that these name
abbrev pub OpenedCellsOpenWell : Type 0
OpenedCellsOpenWell =
    (g : Given) (room : ℕ) (made : PlainCells) → Verifies (setting_given g) (first_library g) → CellsOpen g.database.value g.slots room made
    → OpensWell g (ranges_named (library_terms.ranged g) made.store.items made.values.items) made.values.items
    × AreNamed library_terms g (ranges_named (library_terms.ranged g) made.store.items made.values.items) made.values.items

-- a transaction that shows an assertion and read nothing isn't lawful: a library without assertions may lie there as well
abbrev pub UnreadIsUnlawful : Type 0
UnreadIsUnlawful =
    (g : Given) (ranges : List Range) (writes : Pairs) (commands : Snapshot (List Command)) (replies : Snapshot (List Reply))
    → (label : List ℕ) → IsSetting (setting_given g) → AreOfOneStore most_words ranges → commands.value ≡ Show label ∷ []
    → Lawful g ranges [] writes (Done commands replies) → ⊥
