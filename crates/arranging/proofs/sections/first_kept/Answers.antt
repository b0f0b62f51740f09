-- What is left to show of `first_kept`.
use Rattle.std.proofs.Common.{◌≤◌, ◌∙◌, length, get_or, sym, ap, arith}
use Rattle.std.specs.List.{list_any}
use Rattle.std.proofs.lemmas.List.{take_all}
use Rattle.std.proofs.lemmas.Option.{slice_get-get_or}
use Rattle.items.specs.declared.reading.Item.{Item as Found}
use Rattle.items.specs.declared.reading.Kind.TheVariants.{Comment}
use Rattle.items.proofs.Found.{many_found}
use Rattle.arranging.specs.Sections.{keeps}
use Rattle.arranging.proofs.Known.{found_at}
use Rattle.arranging.proofs.Under.{none_more}
use Rattle.arranging.proofs.sections.first_kept.Goals as goal

pub loop-i-preserved : goal.loop-i-preserved
loop-i-preserved c = λ e text old library moving found.
    let fs = c.args.items.now in
    let i = c.loop-i.i in
    let none : Found = record { kind = Comment; end = 0 } in
    let here = found_at text 0 fs old i (get_or fs i none) found (slice_get-get_or fs i none c.loop-i-test.true) in
    none_more (keeps e) old i here.0 here.1 (sym (c.keeps.ensures e here.0 library moving here.2) ∙ c.if-keeps.false)
    (c.loop-i.invariant e text old library moving found)

pub returns : goal.returns
returns c = λ e text old library moving found.
    let many = many_found text 0 c.args.items.now old found in
    let all : length old ≤ c.loop-i.i = omega (arith, many, c.loop-i-test.false) in
    ap (list_any (keeps e)) (sym (take_all c.loop-i.i old all)) ∙ c.loop-i.invariant e text old library moving found
