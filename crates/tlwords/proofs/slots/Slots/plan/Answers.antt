use Rattle.std.proofs.Common.{arith, rules, ◌≡◌, length, subst, ap, ◌∙◌}
use Rattle.std.specs.List.Sorted.{IsPermutation}
use Rattle.std.proofs.lemmas.List.Sorted.{IsNonDecreasingBy-from_sort_by_key}
use Rattle.tlwords.specs.Walks.{IsPlan}
use Rattle.tlwords.specs.Entries.{slots_of, slot_at, picked}
use Rattle.tlwords.proofs.Entries.{map_length, indexed_within}
use Rattle.tlwords.proofs.Plans.{planned}
use Rattle.tlwords.proofs.slots.Slots.plan.Goals as goal

pub pick-requires : goal.pick-requires
pick-requires c =
    let s = c.self.inside in
    let a : length c.as_slice.result.now ≡ length s.entries.items = ap length c.as_slice.ensures.value in
    let b = indexed_within s.places.items s.entries.items c.self.invariant.0 in
    let d : length (slots_of s.places.items s.entries.items) ≡ length c.args.self.now = ap length c.self.view_is in
    let e = map_length (slot_at s.entries.items) s.places.items in
    let f = c.requires.room in omega arith

pub returns-clause-plan : goal.returns-clause-plan
returns-clause-plan c =
    let s = c.self.inside in
    let e = c.sort_unstable_by_key in
    let is : c.pick.new.plan.items ≡ picked c.args.kept s.entries.items = c.pick.ensures.plan ∙ ap (picked c.args.kept)
    c.as_slice.ensures.value in
    subst (λ x. IsPlan x c.args.kept e.new.self.items) c.self.view_is
    (planned s.places.items s.entries.items c.self.invariant.0 c.args.kept e.new.self.items
    (subst (λ x. IsPermutation x e.new.self.items) is e.ensures.permutation)
    (IsNonDecreasingBy-from_sort_by_key (λ t. t.cell) e.new.self.items e.ensures.sorted (λ a r q k. search rules)))
