use Rattle.library.proofs.ExportOrder.{one_export_order}
use Rattle.librarylaws.proofs.Listing.{library_shown}
use Rattle.librarylaws.proofs.laws.export_order_is_one.Goals as goal

pub returns : goal.returns
returns c = record { shown = library_shown; one = one_export_order }
