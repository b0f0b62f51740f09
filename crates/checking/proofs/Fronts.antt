-- The library after each front of a run's history verifies.
use Rattle.std.proofs.Common.{◌≤◌, ℕ, List, length, map, arith}
use Rattle.mmsyntax.specs.Tables.{Contents}
use Rattle.mmsyntax.specs.Layout.{HasSpelling}
use Rattle.mmsyntax.proofs.Declarable.{declarable}
use Rattle.derivation.specs.Databases.{AllCheck}
use Rattle.library.specs.Library.{Verifies, opening}
use Rattle.librarylaws.proofs.Opening.{opening_verifies}
use Rattle.library.specs.declared.history.Entry.{Entry}
use Rattle.library.specs.Histories.{seen_entry, after_front, EntriesFit}
use Rattle.librarylaws.proofs.Fronts.{fronts_verify}
use Rattle.checking.specs.Outcomes.{program_setting}

-- so does the opening library of a database whose proofs check
pub opening_stands : (db : Contents) → HasSpelling db → AllCheck db → Verifies (program_setting db) (opening db)
opening_stands db spelled checks =
    let few : length db.assertions ≤ 4096 = (declarable db spelled).few in
    let some : 1 ≤ 4096 = omega arith in
    let most : 4096 ≤ 4096 = omega arith in
    opening_verifies db 4096 spelled checks some most few

-- of entries whose commands are within the limits
pub fronts_of : (db : Contents) (es : List Entry) → HasSpelling db → AllCheck db → EntriesFit db.prelude (map seen_entry es)
    → (k : ℕ) → Verifies (program_setting db) (after_front (program_setting db) (opening db) (map seen_entry es) k)
fronts_of db es spelled checks within k =
    fronts_verify (program_setting db) (opening db) (map seen_entry es) k (opening_stands db spelled checks) within
