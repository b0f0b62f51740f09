use Rattle.library.proofs.ExportOrder.{shown_check}
use Rattle.librarylaws.proofs.laws.shown_libraries_check.Goals as goal

pub returns : goal.returns
returns c = shown_check
