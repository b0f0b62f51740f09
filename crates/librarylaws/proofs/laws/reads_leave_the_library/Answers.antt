use Rattle.librarylaws.proofs.Leaving.{apply_leaves}
use Rattle.librarylaws.proofs.laws.reads_leave_the_library.Goals as goal

pub returns : goal.returns
returns c = apply_leaves
