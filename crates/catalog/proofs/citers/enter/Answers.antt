use Rattle.std.proofs.Common.{◌≡◌, ◌≤◌, ℕ, List, Option, None, Some, Bor, false, eqb, ltb, length, rules, refl, sym, ap, subst, ◌∙◌}
use Rattle.std.specs.List.{slice_get}
use Rattle.std.specs.List.Sorted.{IsStrictlyIncreasing}
use Rattle.std.specs.Option.{option_eq}
use Rattle.std.specs.Slice.{IsItemAt}
use Rattle.std.proofs.lemmas.Bool.{eqb-false}
use Rattle.std.proofs.lemmas.List.Sorted.{IsPartitionPoint-from_clause}
use Rattle.catalog.proofs.Ascending.{entered-ascending, lower-parted, Contains-insert}
use Rattle.catalog.proofs.Reading.{item-past, item-read}
use Rattle.catalog.proofs.citers.enter.Goals as goal

-- the place that was read isn't there
absent : (xs : List ℕ) (i q : ℕ) (r : Option (Bor ℕ)) (y : Bor ℕ) → y.now ≡ q → IsItemAt xs i r
    → option_eq (λ a b. eqb a.now b.now) r (Some y) ≡ false
    → slice_get xs i ≡ Some q → ⊥
absent xs i q None y own read other here =
    let both : None ≡ Some q = sym (item-past xs i read) ∙ here in
    cc
absent xs i q (Some x) y own read other here =
    let both : Some x.now ≡ Some q = sym (item-read xs i x read) ∙ here in
    let same : x.now ≡ q = cc in
    eqb-false x.now y.now other (same ∙ sym own)

pub returns-clause-ascending : goal.returns-clause-ascending
returns-clause-ascending c =
    let xs = c.args.list.now.items in
    let q = c.args.place in
    let at = c.partition_point-at.result in
    let read = c.deref-2.ensures.value in
    let parted = lower-parted c.deref-2.result.now q (subst IsStrictlyIncreasing (sym read) c.requires) in
    let point = IsPartitionPoint-from_clause (λ y. ltb y q) c.deref-2.result.now at c.partition_point-at.ensures.partitioned parted
    (λ a r f k. search rules) in
    let none = absent c.deref-3.result.now at q c.get.result _ refl c.get.ensures.lookup (sym c.eq-2.ensures ∙ c.if-eq-2.false) in
    let within : at ≤ length xs = subst (λ l. at ≤ length l) read c.partition_point-at.ensures.bound in
    rw c.in_ok-insert.ensures.items
    (entered-ascending xs at q c.requires within (rw read at point)
    (λ here. none (ap (λ l. slice_get l at) c.deref-3.ensures.value ∙ here)))

pub returns-clause-kept : goal.returns-clause-kept
returns-clause-kept c =
    λ q h. rw c.in_ok-insert.ensures.items (Contains-insert c.args.list.now.items c.partition_point-at.result c.args.place q h)
