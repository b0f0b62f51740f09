use Rattle.std.proofs.Common.{ltb, rules, arith}
use Rattle.std.specs.List.Sorted.{IsNonDecreasing}
use Rattle.std.proofs.lemmas.List.Sorted.{IsPartitionedBy-ltb, IsPartitionPoint-from_clause}
use Rattle.stepcheck.proofs.Replaced.{halved-found, halved-absent}
use Rattle.stepcheck.proofs.substitutes.first_place.Goals as goal
use Rattle.stepcheck.proofs.substitutes.first_place.Goals.{else-place-numbers-via-then-place-numbers+else-numbers-place}
use Rattle.stepcheck.proofs.substitutes.first_place.Goals.{else-place-numbers-via-else-place-numbers}

pub returns-then-numbers-place : goal.returns-then-numbers-place
returns-then-numbers-place c =
    let xs = c.args.numbers.now in
    let n = c.args.n in
    let up : IsNonDecreasing xs = c.requires c.if-not-ascend.false in
    let parted = IsPartitionedBy-ltb (λ x. x) xs n up in
    let point = IsPartitionPoint-from_clause (λ y. ltb y n) xs c.partition_point-place.result c.partition_point-place.ensures.partitioned
    parted (λ a r f k. search rules) in
    halved-found xs n c.partition_point-place.result point c.if-place-numbers.true c.if-numbers-place.true

pub returns-else-place-numbers : goal.returns-else-place-numbers
returns-else-place-numbers c =
    let xs = c.args.numbers.now in
    let n = c.args.n in
    let up : IsNonDecreasing xs = c.requires c.if-not-ascend.false in
    let parted = IsPartitionedBy-ltb (λ x. x) xs n up in
    let point = IsPartitionPoint-from_clause (λ y. ltb y n) xs c.partition_point-place.result c.partition_point-place.ensures.partitioned
    parted (λ a r f k. search rules) in
    halved-absent xs n c.partition_point-place.result up point
    (elim c.else-place-numbers.branch [
      | else-place-numbers-via-then-place-numbers+else-numbers-place w ↦ λ lt same. w.if-numbers-place.false same
      | else-place-numbers-via-else-place-numbers w ↦ λ lt same. omega arith
    ])
