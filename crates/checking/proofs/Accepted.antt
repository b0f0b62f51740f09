-- A text that is accepted has no fault as a check.
use Rattle.std.proofs.Common.{◌≡◌, ◌+◌, ◌≤◌, length}
use Rattle.mmtext.proofs.TextLaws.{spells_one, spells_without_fault}
use Rattle.mmsyntax.specs.Faults.{database_language}
use Rattle.mmsyntax.specs.Grammar.{Spells}
use Rattle.mmsyntax.specs.Tables.{Contents}
use Rattle.mmreader.proofs.DatabaseLaws.{database_grammar}
use Rattle.derivation.specs.Databases.{AllCheck}
use Rattle.derivation.proofs.Exact.{first-excludes}
use Rattle.export.specs.Exported.{Accepts}
use Rattle.checking.specs.declared.fault.Fault.{Fault}
use Rattle.checking.specs.declared.fault.Fault.TheVariants.{Proof}
use Rattle.checking.specs.Checks.{Bytes, IsDatabase, IsChecked, IsProofFault, IsDatabaseFault}
use Rattle.checking.specs.Laws.{AcceptedTextsCheck}
use Rattle.checking.proofs.DatabaseFaults.{database_faultless}

pub accepted_checks : AcceptedTextsCheck
accepted_checks text a short = record {
  read = record {
    spelled = a.spells;
    faultless = λ f faulty. spells_without_fault database_language Spells database_grammar text a.database f short a.spells faulty;
  };
  checks = a.checks;
}

-- ---- what checks has no fault

pub one_database : (text : Bytes) (db contents : Contents) → IsDatabase text db → IsDatabase text contents → db ≡ contents
one_database text db contents h is = spells_one database_language Spells database_grammar text db contents h.spelled is.spelled

proofs_faultless : (db : Contents) → AllCheck db → (f : Fault) → IsProofFault db f → ⊥
proofs_faultless db checks (Proof label fault) h = first-excludes db (h.0 + 1) fault h.1 checks
proofs_faultless db checks _ h = h

pub checked_faultless : (text : Bytes) (db : Contents) → IsChecked text db → (f : Fault) → IsDatabaseFault text f → ⊥
checked_faultless text db checked f h =
    database_faultless text db checked.read.faultless (λ contents. one_database text db contents checked.read) f
    (proofs_faultless db checked.checks) h

pub accepted_faultless : (text : Bytes) (a : Accepts text) → length text ≤ 16777216 → (f : Fault) → IsDatabaseFault text f → ⊥
accepted_faultless text a short = checked_faultless text a.database (accepted_checks text a short)
