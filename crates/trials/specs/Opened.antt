-- What is so of a library that is open, and of its sessions.
use Rattle.std.specs.Prelude.{◌≡◌, ◌≤◌, All}
use Rattle.derivation.specs.Databases.{AllCheck}
use Rattle.transaction.specs.Members.{IsSessionOf}
use Rattle.trials.specs.declared.opening.Opened.{Opened}
use Rattle.mmsyntax.specs.declared.limits.TheConstants.{MOST_ASSERTIONS}

-- the library is of the database, each of whose proofs checks, with 1 to 4,096 slots; and each session is one of the library
pub record IsOpen (o : Opened) : Type 0 where
  pub database : o.library.given.database.value ≡ o.database
  pub checks : AllCheck o.database
  pub some_slots : 1 ≤ o.library.given.slots
  pub few_slots : o.library.given.slots ≤ MOST_ASSERTIONS
  pub own : All (IsSessionOf o.library) o.sessions.items
