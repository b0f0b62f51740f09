use Rattle.std.proofs.Common.{◌<◌, length, subst}
use Rattle.proofcheck.specs.Reports.{FoundAmong}
use Rattle.proofcheck.proofs.Reports.{none_found, first_found}
use Rattle.derivation.proofs.Exact.{only-memory, first-excludes, first-is-one}
use Rattle.proofcheck.proofs.databases.check_all.Goals as goal

pub returns-in-None-clause-yes : goal.returns-in-None-clause-yes
returns-in-None-clause-yes g c =
    let db = c.args.db.now in
    none_found db (subst (FoundAmong db (λ k. k < length db.assertions)) c.in-None.is c.in-Ok-check_shared.ensures)

pub returns-in-None-clause-refused : goal.returns-in-None-clause-refused
returns-in-None-clause-refused g c = λ i fault h.
    let db = c.args.db.now in
    first-excludes db i fault h
    (none_found db (subst (FoundAmong db (λ k. k < length db.assertions)) c.in-None.is c.in-Ok-check_shared.ensures))

pub returns-clause-fault : goal.returns-clause-fault
returns-clause-fault g c =
    let db = c.args.db.now in
    first_found db c.in-Some.first (subst (FoundAmong db (λ k. k < length db.assertions)) c.in-Some.is c.in-Ok-check_shared.ensures)

pub returns-clause-proved : goal.returns-clause-proved
returns-clause-proved g c = λ every.
    let db = c.args.db.now in
    let first = c.in-Some.first in
    let found = subst (FoundAmong db (λ k. k < length db.assertions)) c.in-Some.is c.in-Ok-check_shared.ensures in
    only-memory first.1.kind (λ n. first-excludes db first.0 first.1 (first_found db first found n) every)

pub returns-clause-refused : goal.returns-clause-refused
returns-clause-refused g c = λ i fault h n.
    let db = c.args.db.now in
    let first = c.in-Some.first in
    let found = subst (FoundAmong db (λ k. k < length db.assertions)) c.in-Some.is c.in-Ok-check_shared.ensures in
    first-is-one db first.0 i first.1 fault (first_found db first found n) h
