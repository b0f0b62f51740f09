-- What is left to show of `held_behind`.
use Rattle.std.proofs.Common.{◌∙◌, map, sym, arith}
use Rattle.library.specs.declared.library.Ranked.{Ranked}
use Rattle.sourceediting.specs.Views.{seen_living}
use Rattle.sourceediting.proofs.Numbered.{numbered, in_front}
use Rattle.sourceediting.proofs.holding.held_behind.Goals as goal

pub returns-clause-cause : goal.returns-clause-cause
returns-clause-cause c =
    let rs = c.args.entries.now in
    let order = c.requires.order in
    let within = c.requires.within in
    let first = c.index-entries-held in
    let second = c.index-entries-number in
    let held = c.in_ok-is_held.ensures c.if-not-branch.false in
    in_front (seen_living c.args.living.now) (map (λ (r : Ranked). r.assertion) rs) c.args.known.now.text.now _ held.1.0 _
    c.args.held.number c.args.next.0 c.in_ok-copy.field-0 c.in_ok-copy-2.field-0 _ _ c.in_ok-from_slice.field-0 held.1.2 order
    (numbered rs c.args.held.number first.result c.in_ok-copy.field-0 (omega (arith, order, within)) first.is (sym c.in_ok-copy.ensures))
    (numbered rs c.args.next.0 second.result c.in_ok-copy-2.field-0 within second.is (sym c.in_ok-copy-2.ensures)) held.0 held.1.1
    (c.as_slice.ensures ∙ sym c.in_ok-copy.ensures) (c.as_slice-2.ensures ∙ sym c.in_ok-copy-2.ensures) (sym c.in_ok-from_slice.ensures)
