use Rattle.std.proofs.Common.{rules, List, Ok, map, refl, sym, ap, ◌∙◌}
use Rattle.std.specs.Prelude.{IsPermutation}
use Rattle.std.specs.List.Sorted.{IsSorted}
use Rattle.std.proofs.lemmas.List.Sorted.{IsPermutation-trans}
use Rattle.library.specs.declared.command.Command.TheVariants.{List as ListAll}
use Rattle.library.specs.declared.command.Line.{Line}
use Rattle.library.specs.declared.command.Reply.TheVariants.{Listed}
use Rattle.library.specs.Edits.{listing_line, line_cmp}
use Rattle.library.proofs.Orders.{sorted_by}
use Rattle.librarylaws.proofs.Lines.{line_cmp_total, lines_in_order}
use Rattle.groundwork.proofs.OnlyLooks.{does_reading}
use Rattle.shows.proofs.showing.list.Goals as goal

pub returns-clause-answers : goal.returns-clause-answers
returns-clause-answers g c =
    let s = g.C.Cells.sight c.all_lines.new.cells in
    let made = c.in_ok-lines.lines.items in
    let items = c.sort_unstable_by.new.self.items in
    let ordered : IsSorted line_cmp items = sorted_by line_cmp_total items c.sort_unstable_by.ensures.sorted (λ a r q k. search rules) in
    does_reading _ s ListAll (Listed c.from_vec.result) c.all_lines.ensures.looks refl (λ st lib v.
    let all : IsPermutation (map (listing_line lib) lib) made = c.in_ok-lines.ensures.ok st lib v in
    let perm = IsPermutation-trans (map (listing_line lib) lib) made items all c.sort_unstable_by.ensures.permutation in
    ap (λ (ls : List Line). Ok (record { library = lib; reply = Listed ls }))
    (sym (c.from_vec.ensures ∙ lines_in_order lib items v.verifies.library.distinct perm ordered)))
