use Rattle.std.proofs.Common.{rules, ◌∙◌}
use Rattle.std.specs.List.Sorted.{IsSorted}
use Rattle.library.specs.Edits.{line_cmp}
use Rattle.library.proofs.Orders.{sorted_by}
use Rattle.librarylaws.proofs.Lines.{line_cmp_total, lines_in_order}
use Rattle.catalog.specs.Entries.{living}
use Rattle.catalog.proofs.Living.{labels-distinct}
use Rattle.catalog.proofs.listing.list_lines.Goals as goal

pub returns : goal.returns
returns c =
    let xs = c.args.entries.now in
    let items = c.sort_unstable_by.new.self.items in
    let ordered : IsSorted line_cmp items = sorted_by line_cmp_total items c.sort_unstable_by.ensures.sorted (λ a r q k. search rules) in
    let same = rw c.in_ok-lines.ensures at c.sort_unstable_by.ensures.permutation in
    c.from_vec.ensures ∙ lines_in_order (living xs) items (labels-distinct c.args.places.now xs c.requires) same ordered
