use Rattle.librarylaws.proofs.Editing.{edit_verifies, transaction_verifies}
use Rattle.librarylaws.proofs.laws.transactions_verify.Goals as goal

pub returns : goal.returns
returns c = record { edits = edit_verifies; transactions = transaction_verifies }
