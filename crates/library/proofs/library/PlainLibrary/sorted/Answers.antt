use Rattle.std.proofs.Common.{rules}
use Rattle.library.specs.Library.{IsInExportOrder}
use Rattle.library.proofs.ExportOrder.{entry_cmp_total}
use Rattle.library.proofs.Orders.{sorted_by}
use Rattle.library.proofs.Showing.{verifies_permutation}
use Rattle.library.proofs.library.PlainLibrary.sorted.Goals as goal

pub invariant_of-result : goal.invariant_of-result
invariant_of-result c =
    let items = c.sort_unstable_by.new.self.items in
    let ordered : IsInExportOrder items = sorted_by entry_cmp_total items c.sort_unstable_by.ensures.sorted (λ a r q k. search rules) in
    rw c.from_vec.ensures (verifies_permutation _ c.args.entries.items items c.requires c.sort_unstable_by.ensures.permutation, ordered)

pub returns-clause-shown : goal.returns-clause-shown
returns-clause-shown c =
    let items = c.sort_unstable_by.new.self.items in
    let ordered : IsInExportOrder items = sorted_by entry_cmp_total items c.sort_unstable_by.ensures.sorted (λ a r q k. search rules) in
    rw c.from_vec.ensures (record { same = c.sort_unstable_by.ensures.permutation; ordered = ordered })
