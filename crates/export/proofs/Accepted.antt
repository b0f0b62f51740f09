-- The exported text of a library that verifies is accepted.
use Rattle.library.specs.Library.{Listed, Verifies, IsInExportOrder, shown_database}
use Rattle.library.proofs.ExportOrder.{shown_check}
use Rattle.library.proofs.Showing.{shown_spelled}
use Rattle.mmsyntax.proofs.Canonical.{spelled_again}
use Rattle.export.specs.Exported.{exported_text, Accepts}

pub exported_accepted : (l : Listed) → Verifies l.setting l.entries → IsInExportOrder l.entries → Accepts (exported_text l)
exported_accepted l v ordered = record {
  database = shown_database l;
  spells = spelled_again (shown_database l) (shown_spelled l v);
  checks = shown_check l v ordered;
}
