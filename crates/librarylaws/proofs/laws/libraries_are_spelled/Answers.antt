use Rattle.library.proofs.Showing.{shown_spelled}
use Rattle.librarylaws.proofs.laws.libraries_are_spelled.Goals as goal

pub returns : goal.returns
returns c = shown_spelled
