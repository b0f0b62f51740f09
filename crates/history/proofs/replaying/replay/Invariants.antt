-- The entries so far are legal, and the editor holds the library after them.
use Rattle.std.proofs.Common.{◌≡◌, ◌≤◌, map, length, take}
use Rattle.library.specs.Library.{setting_over, opening}
use Rattle.library.specs.Histories.{seen_entry, after_front, IsLegal}
use Rattle.history.proofs.replaying.replay.Given as goal

abbrev pub invariant-loop-i : goal.invariant-loop-i
invariant-loop-i l =
    (length l.db.assertions ≤ l.slots)
    × (l.editor.setting ≡ setting_over l.db l.slots)
    × (l.editor.library ≡ after_front (setting_over l.db l.slots) (opening l.db) (map seen_entry l.history) l.i)
    × IsLegal (setting_over l.db l.slots) (opening l.db) (take l.i (map seen_entry l.history))
