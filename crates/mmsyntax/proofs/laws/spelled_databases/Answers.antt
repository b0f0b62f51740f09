-- What is left to show of `spelled_databases`.
use Rattle.mmsyntax.proofs.Declarable.{declarable, spelled_where_declarable}
use Rattle.mmsyntax.proofs.laws.spelled_databases.Goals as goal

pub returns : goal.returns
returns c = λ db. (declarable db, spelled_where_declarable db)
